-- The set, and its layout. Assumes nothing.
use mathlib.Core.Path.{◌≡◌, refl, sym, ap, ◌∙◌}
use mathlib.Core.Bool.{Bool, true, ◌&&◌}
use mathlib.Core.List.{List, ◌++◌, append-nil}
use Prim.Native.Nat.{ℕ, ◌≤◌}
use native.Mathlib.Omega.{arith}
use borrow.Author.Tests.{leb-true}
use lib.Dec.{leb}
use lib.ListN.{length, take, drop, length-append}
use lib.Seq.{take_at}
use Rattle.errors.specs.Refusal.{Outcome, done, refused, answered, plain, enough}
use Rattle.errors.specs.Answer.{built}
use Rattle.std.specs.Prelude.{Result, Ok, Err}
use Rattle.errors.specs.declared.Reason.{Reason}
use Rattle.errors.specs.declared.Refusal as code
use Rattle.errors.specs.Meaning.{number_of, refusal_of, length_of}
use Rattle.errors.proofs.Laws.{done_one, not_done, asked, bound}
use Rattle.blocks.specs.Read.{small, read_set, read_layout}
use Rattle.blocks.specs.Write.{write}
use Rattle.blocks.proofs.Name.{and_left, and_right}
use Rattle.ir.specs.Ir.{TypeIr}
use Rattle.ir.specs.Layout.{layout_tree}
use Rattle.resolved.specs.Set.{types_of}
use Rattle.builder.specs.Build.{build_types, holds, write_layout, build_set, output_after}
use Rattle.wire.specs.Poke.{Wrote}
use Rattle.lengths_definition.specs.Lengths.{stopped, words, output, set_lines, input_lines, lengths}
use Rattle.lengths_lines.specs.Lines.{IsLayout}
use Rattle.lengths_program.specs.declared.Next.{Next}
use Rattle.lengths_program.specs.declared.Next.TheVariants as next
use Rattle.lengths_program.specs.declared.Begun.TheVariants as begun
use Rattle.lengths_program.specs.Lines.{Ends}
use Rattle.lengths_program.specs.Parts.{Finds, Ready, Begins}
use Rattle.lengths_program.proofs.Runs.{written, kept_length, found_block, found_none, found_part}

-- ---- a layout that was built

-- what was given was read
given : {A : Type 0} (o : Outcome A) → answered o ≡ true → (x : A) × (o ≡ done x)
given (done x) e = (x, refl)
given (refused r) e = let z : ◌≡◌ {A = ℕ} 0 1 = cc in absurd (omega arith)

-- 18 was put to it
held : (out : ℕ) (ts : List TypeIr) {bs : List ℕ} → write_layout out ts ≡ done bs → holds out bs ≡ true
unfolding write_layout
held out ts e =
    let a = asked (holds out (write (layout_tree ts))) _ _ _ e in
    let w = done_one a.1 in
    rw w at a.0

-- so it can be read
pub layout_read : (n out : ℕ) (set : List ℕ) {bs : List ℕ} → build_set n out set ≡ done bs → IsLayout bs
unfolding build_set enough small
layout_read n out set {bs} e =
    let a = asked (leb 8192 n) _ _ _ e in
    let b = asked (leb (length set) 65536) _ _ _ a.1 in
    let c = bound (read_set set) _ _ b.1 in
    let d = bound (build_types (types_of c.0) 0 (types_of c.0)) _ _ c.2 in
    let h = held out d.0 d.2 in
    let fits : Bool = leb (length bs) out && leb (length bs) 65536 in
    record {
      small = leb-true _ _ (and_right (leb (length bs) out) _ (and_left fits _ h));
      read = given (read_layout bs) (and_right fits _ h);
    }

-- it stands at the start of its buffer
pub layout_stands : {m : ℕ} (xs : List ℕ) {ys : List ℕ} (o : Outcome (List ℕ)) → length_of (Ok m) ≡ built o → ys ≡ output_after xs o → (o ≡ done (take m ys)) × (m ≤ length ys)
unfolding built output_after
layout_stands {m} xs {ys} (done bs) e f =
    let l : length bs ≡ m = sym (done_one e) in
    let t : take m ys ≡ bs = ap (take m) f ∙ take_at bs (drop (length bs) xs) m l in
    (ap done (sym t), omega (arith, ap length f, length-append bs (drop (length bs) xs)))
layout_stands xs (refused r) e f = absurd (not_done (sym e))

-- there is none
no_layout : (q : code.Refusal) (o : Outcome (List ℕ)) → length_of (Err q) ≡ built o → o ≡ refused (refusal_of q)
unfolding built
no_layout q (done bs) d = absurd (not_done d)
no_layout q (refused r) d =
    let g : ◌≡◌ {A = Outcome ℕ} (refused (refusal_of q)) (refused r) = d in
    let z : r ≡ refusal_of q = cc in
    ap refused z

-- ---- the set

module _ {s : List ℕ} {last : Bool} {h : Next} (found : Finds s last h) where
  -- its end is not there
  pub begins_part : (layout out : List ℕ) → h ≡ next.Part → Begins s last layout out begun.Part
  begins_part layout out e = record { used = omega arith; wrote = omega arith; ready = Ready.set; prints = record { is = λ rest ends. refl }; waits = λ _. found_part found e }

  -- the line with which the program ends
  stops_with : {xs ys bs layout : List ℕ} {w : ℕ} → Wrote xs 0 bs ys w → w ≤ length xs → ((rest : List ℕ) → Ends last rest → lengths (s ++ rest) ≡ bs) → Begins s last layout ys (begun.Ended w)
  stops_with {ys = ys} {w = w} g k f =
      record {
        used = omega arith;
        wrote = omega (arith, kept_length g);
        ready = Ready.ended;
        prints = record { is = λ rest ends. f rest ends ∙ sym (written g (omega arith) k) ∙ sym (append-nil (take w ys)) };
        waits = λ e. absurd (let z : ◌≡◌ {A = ℕ} 0 1 = cc in omega arith);
      }

  -- the block is refused
  pub begins_none : {q : Reason} {w : ℕ} {xs ys layout : List ℕ} → h ≡ next.Refused q → Wrote xs 0 (stopped (plain (number_of q))) ys w → w ≤ 84 → 84 ≤ length xs →
      Begins s last layout ys (begun.Ended w)
  unfolding lengths input_lines
  begins_none e g k m = stops_with g (omega arith) (λ rest ends. rw (found_none found e rest ends))

  module _ {n : ℕ} (e : h ≡ next.Block n) where
    -- the lines by what building the set comes to
    lines_set : (rest : List ℕ) → lengths (s ++ rest) ≡ set_lines (build_set words output (take n s)) (drop n s ++ rest)
    unfolding lengths input_lines
    lines_set rest = rw ((found_block found e).2 rest)

    module _ {a : Result ℕ code.Refusal} (xs : List ℕ) {ys : List ℕ} (b : length_of a ≡ built (build_set 8192 (length xs) (take n s))) (long : length xs ≡ 65536) where
      -- the set is refused
      pub begins_refused : {q : code.Refusal} {out out' : List ℕ} {w : ℕ} → a ≡ Err q → Wrote out 0 (stopped (plain (number_of q.reason))) out' w → w ≤ 84 → 84 ≤ length out →
          Begins s last ys out' (begun.Ended w)
      unfolding set_lines stopped refusal_of
      begins_refused {q} f g k m =
          let d : length_of (Err q) ≡ built (build_set words output (take n s)) = ap length_of (sym f) ∙ b ∙ ap (λ (k : ℕ). built (build_set words k (take n s))) long in
          stops_with g (omega arith) (λ rest ends. lines_set rest ∙ rw (no_layout q (build_set words output (take n s)) d))

      -- it is built: the runs come next
      pub begins_built : {m : ℕ} {out : List ℕ} → a ≡ Ok m → ys ≡ output_after xs (build_set 8192 (length xs) (take n s)) → Begins s last ys out (begun.Built n m)
      unfolding set_lines
      begins_built {m} f g =
          let z = layout_stands xs (build_set 8192 (length xs) (take n s)) (ap length_of (sym f) ∙ b) g in
          let d : build_set words output (take n s) ≡ done (take m ys) = ap (λ (k : ℕ). build_set words k (take n s)) (sym long) ∙ z.0 in
          record {
            used = (found_block found e).1;
            wrote = omega arith;
            ready = Ready.read z.1 (layout_read words output (take n s) d);
            prints = record { is = λ rest ends. lines_set rest ∙ rw d };
            waits = λ w. absurd (let z : ◌≡◌ {A = ℕ} 0 1 = cc in omega arith);
          }
