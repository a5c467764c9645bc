-- The lines of runs, whatever follows them, and the loop over the runs. Assumes nothing.
use mathlib.Core.Path.{◌≡◌, refl, sym, ap, ◌∙◌}
use mathlib.Core.Bool.{Bool, true, false}
use mathlib.Core.List.{List, [], ◌∷◌, ◌++◌, append_assoc, append-nil}
use Prim.Native.Nat.{ℕ, zero, suc, ◌+◌, ◌-◌, ◌<◌, ◌≤◌}
use native.Mathlib.Numerals.{add-one}
use native.Mathlib.Omega.{arith}
use borrow.Author.Tests.{leb-true}
use lib.Dec.{leb}
use lib.ListN.{length, take, drop, length-append, length-drop, drop_of_length-le}
use lib.Seq.{take_all, take_at, drop-drop, sets-eq, length-take-le}
use Rattle.errors.specs.Refusal.{Outcome, done, refused, plain}
use Rattle.errors.specs.declared.Reason.{Reason}
use Rattle.errors.specs.Meaning.{number_of}
use Rattle.errors.proofs.Laws.{done_one, asked}
use Rattle.blocks.specs.Bytes.{le4}
use Rattle.interpreter.specs.Validate.{validate_run}
use Rattle.wire.specs.Poke.{poke, Wrote}
use Rattle.wire.proofs.Laws.{poke_length}
use Rattle.lengths_definition.specs.Lengths.{stopped, words, next_block, run_length, answer_lines, block_lines, run_lines}
use Rattle.lengths_lines.specs.declared.Printed.{Printed}
use Rattle.lengths_lines.specs.declared.Printed.TheVariants as printed
use Rattle.lengths_lines.specs.Lines.{Answered, bytes_of}
use Rattle.lengths_program.specs.declared.Next.{Next}
use Rattle.lengths_program.specs.declared.Next.TheVariants as next
use Rattle.lengths_program.specs.declared.Passed.TheVariants as passed
use Rattle.lengths_program.specs.Lines.{runs, Ends, Prints}
use Rattle.lengths_program.specs.Parts.{Finds, Stops, Ran}

-- ---- how many turns are counted does not matter

-- no bytes, no lines
no_lines : (k : ℕ) (layout : List ℕ) (run : ℕ) → run_lines k layout run [] ≡ []
unfolding run_lines
no_lines zero layout run = refl
no_lines (suc k) layout run = refl

-- what follows a block is shorter than the input
rest_shorter : (s : List ℕ) {b : List ℕ × List ℕ} → next_block s ≡ done b → length b.1 < length s
unfolding next_block
rest_shorter s {b} e =
    let a = asked (leb 4 (length s)) _ _ _ e in
    let c = asked (leb (4 + le4 s 0) 65536) _ _ _ a.1 in
    let d = asked (leb (4 + le4 s 0) (length s)) _ _ _ c.1 in
    let g : drop (4 + le4 s 0) s ≡ b.1 = ap (λ (p : List ℕ × List ℕ). p.1) (done_one d.1) in
    omega (arith, length-drop (4 + le4 s 0) s, ap length g, leb-true 4 (length s) a.0)

-- the lines that follow a block may be told in another way
block_same : (f g : List ℕ → List ℕ) (layout : List ℕ) (run : ℕ) (s : List ℕ) (o : Outcome (List ℕ × List ℕ)) → next_block s ≡ o →
    ((u : List ℕ) → length u < length s → f u ≡ g u) → block_lines f layout run o ≡ block_lines g layout run o
unfolding block_lines
block_same f g layout run s (refused r) e h = refl
block_same f g layout run s (done b) e h = ap (answer_lines run (run_length b.0) (validate_run words layout b.0)) (h b.1 (rest_shorter s e))

-- one turn
turn : (k : ℕ) (layout : List ℕ) (run x : ℕ) (t : List ℕ) → run_lines (suc k) layout run (x ∷ t) ≡ block_lines (run_lines k layout (suc run)) layout run (next_block (x ∷ t))
unfolding run_lines
turn k layout run x t = refl

-- no turn, where there are no bytes
no_turn : (layout : List ℕ) (j run : ℕ) (s : List ℕ) → length s ≤ 0 → run_lines 0 layout run s ≡ run_lines j layout run s
no_turn layout j run [] h = no_lines 0 layout run ∙ sym (no_lines j layout run)
no_turn layout j run (x ∷ s) h = absurd (let z : ⊥ = omega arith in z)

-- one turn more
one_turn : (layout : List ℕ) (k : ℕ) → ((j run : ℕ) (s : List ℕ) → length s ≤ k → length s ≤ j → run_lines k layout run s ≡ run_lines j layout run s) →
    (j run : ℕ) (s : List ℕ) → length s ≤ suc k → length s ≤ j → run_lines (suc k) layout run s ≡ run_lines j layout run s
one_turn layout k f j run [] h g = no_lines (suc k) layout run ∙ sym (no_lines j layout run)
one_turn layout k f zero run (x ∷ s) h g = absurd (let z : ⊥ = omega arith in z)
one_turn layout k f (suc j) run (x ∷ s) h g =
    turn k layout run x s
    ∙ block_same _ _ layout run (x ∷ s) (next_block (x ∷ s)) refl (λ u l. f j (suc run) u (omega arith) (omega arith))
    ∙ sym (turn j layout run x s)

-- as many turns as there are bytes, or more, come to the same
enough_turns : (layout : List ℕ) (k j run : ℕ) (s : List ℕ) → length s ≤ k → length s ≤ j → run_lines k layout run s ≡ run_lines j layout run s
enough_turns layout zero j run s h g = no_turn layout j run s h
enough_turns layout (suc k) j run s h g = one_turn layout k (enough_turns layout k) j run s h g

-- so the lines of runs are those of the first block, and then those of the others
runs_turn : (layout : List ℕ) (run : ℕ) (s : List ℕ) → 0 < length s → runs layout run s ≡ block_lines (runs layout (run + 1)) layout run (next_block s)
runs_turn layout run [] h = absurd (let z : ⊥ = omega arith in z)
runs_turn layout run (x ∷ s) h =
    rw (add-one run)
    (turn (length s) layout run x s ∙ block_same _ _ layout run (x ∷ s) (next_block (x ∷ s)) refl (λ u l. enough_turns layout (length s) (length u) (suc run) u (omega arith) (omega arith)))

-- ---- what is printed

-- bytes are printed behind others
pub prints_then : {last : Bool} {f g h : List ℕ → List ℕ} {s u v a b : List ℕ} → Prints last f g s u a → Prints last g h u v b → Prints last f h s v (a ++ b)
prints_then {h = h} {v = v} {a} {b} p q =
    record { is = λ rest e. p.is rest e ∙ ap (λ (l : List ℕ). a ++ l) (q.is rest e) ∙ sym (append_assoc a b (h (v ++ rest))) }

-- a write that fits stands behind what was written before
pub written : {xs ys bs : List ℕ} {at p : ℕ} → Wrote xs at bs ys p → at ≤ length xs → p ≤ length xs → take p ys ≡ take at xs ++ bs
unfolding poke
written {xs} {ys} {bs} {at} {p} w h k =
    let e : ys ≡ (take at xs ++ bs) ++ drop (at + length bs) xs = w.left ∙ sets-eq bs xs at (omega (arith, w.end)) in
    let l : length (take at xs ++ bs) ≡ p = omega (arith, length-append (take at xs) bs, length-take-le at xs h, w.end) in
    ap (take p) e ∙ take_at (take at xs ++ bs) (drop (at + length bs) xs) p l

-- a write keeps the length of the output
pub kept_length : {xs ys bs : List ℕ} {at p : ℕ} → Wrote xs at bs ys p → length ys ≡ length xs
kept_length {xs} {bs = bs} {at} w = ap length w.left ∙ poke_length xs at bs

-- the line before whatever follows
answered_line : {lines : List ℕ → List ℕ} {xs ys : List ℕ} {at c : ℕ} {p : Printed} → Answered lines xs at ys p → p ≡ printed.Line c →
    (bs : List ℕ) × Wrote xs at bs ys c × ((more : List ℕ) → lines more ≡ bs ++ more)
answered_line {c} (Answered.line {bs} {r = m} w g) f = let z : m ≡ c = cc in (bs, rw z at w, g)
answered_line (Answered.last w g) f = let z : ◌≡◌ {A = ℕ} 0 1 = cc in absurd (omega arith)

-- the last line
answered_last : {lines : List ℕ → List ℕ} {xs ys : List ℕ} {at c : ℕ} {p : Printed} → Answered lines xs at ys p → p ≡ printed.Last c →
    (bs : List ℕ) × Wrote xs at bs ys c × ((more : List ℕ) → lines more ≡ bs)
answered_last (Answered.line w g) f = let z : ◌≡◌ {A = ℕ} 0 1 = cc in absurd (omega arith)
answered_last {c} (Answered.last {bs} {r = m} w g) f = let z : m ≡ c = cc in (bs, rw z at w, g)

-- ---- the next block, by what the code says of it

-- it is there
pub found_block : {s : List ℕ} {last : Bool} {r : Next} {n : ℕ} → Finds s last r → r ≡ next.Block n →
    (4 ≤ n) × (n ≤ length s) × ((rest : List ℕ) → next_block (s ++ rest) ≡ done (take n s, drop n s ++ rest))
found_block {n} (Finds.block {n = m} a b f) e = let z : m ≡ n = cc in (omega arith, omega arith, rw z at f)
found_block (Finds.stops f) e = let z : ◌≡◌ {A = ℕ} 0 1 = cc in absurd (omega arith)
found_block (Finds.part a b) e = let z : ◌≡◌ {A = ℕ} 0 1 = cc in absurd (omega arith)

-- it is refused
pub found_none : {s : List ℕ} {last : Bool} {r : Next} {q : Reason} → Finds s last r → r ≡ next.Refused q → (rest : List ℕ) → Ends last rest → next_block (s ++ rest) ≡ refused (plain (number_of q))
found_none (Finds.block a b f) e = let z : ◌≡◌ {A = ℕ} 0 1 = cc in absurd (omega arith)
found_none {q} (Finds.stops {q = m} f) e = let z : m ≡ q = cc in rw z at f
found_none (Finds.part a b) e = let z : ◌≡◌ {A = ℕ} 0 1 = cc in absurd (omega arith)

-- more of it has to be read
pub found_part : {s : List ℕ} {last : Bool} {r : Next} → Finds s last r → r ≡ next.Part → (last ≡ false) × (length s < 65536)
found_part (Finds.block a b f) e = let z : ◌≡◌ {A = ℕ} 0 1 = cc in absurd (omega arith)
found_part (Finds.stops f) e = let z : ◌≡◌ {A = ℕ} 0 1 = cc in absurd (omega arith)
found_part (Finds.part a b) e = (a, b)

-- ---- the loop over the runs

-- Before this run: the lines of those before it stand in xs as far as at, and the bytes from i on are left.
pub record Running (first : ℕ) (layout s : List ℕ) (last : Bool) (out xs : List ℕ) (i at run : ℕ) : Type 0 where
  pub same : length xs ≡ length out
  pub fits : at ≤ length out
  pub inside : i ≤ length s
  pub prints : Prints last (runs layout first) (runs layout run) s (drop i s) (take at xs)

-- the loop begins with no line
pub running_start : (first : ℕ) (layout s : List ℕ) (last : Bool) (out : List ℕ) → Running first layout s last out out 0 0 first
running_start first layout s last out = record { same = refl; fits = omega arith; inside = omega arith; prints = record { is = λ rest e. refl } }

-- as much of s as there is from i on
all_left : (s : List ℕ) (i : ℕ) → take (length s - i) (drop i s) ≡ drop i s
all_left s i = take_all (length s - i) (drop i s) (omega (arith, length-drop i s))

module _ {first : ℕ} {layout s : List ℕ} {last : Bool} {out xs : List ℕ} {i at run : ℕ} (g : Running first layout s last out xs i at run) where
  -- it ends before this run
  more_lines : {wants : Bool} → Stops s last (length xs) (passed.More wants run i at) → Ran first layout s last xs (passed.More wants run i at)
  more_lines h = record { used = g.inside; wrote = omega (arith, g.fits, g.same); prints = g.prints; stops = h }

  -- the output has no room for a line
  pub running_full : length xs - at < 84 → Ran first layout s last xs (passed.More false run i at)
  running_full h = more_lines (Stops.output (omega (arith, g.fits, g.same)))

  -- the numbers are used up
  pub running_counted : 18446744073709551615 ≤ run → Ran first layout s last xs (passed.More false run i at)
  running_counted h = more_lines (Stops.counted h)

  -- all bytes are used, and more may follow
  pub running_input : last ≡ false → length s ≤ i → Ran first layout s last xs (passed.More true run i at)
  running_input e h = more_lines (Stops.input e (omega arith))

  -- the last bytes are printed
  last_lines : {ys bs : List ℕ} {p : ℕ} → Wrote xs at bs ys p → p ≤ length xs → ((rest : List ℕ) → Ends last rest → runs layout run (drop i s ++ rest) ≡ bs) →
      Ran first layout s last ys (passed.Ended p)
  last_lines {ys} {bs} {p} w k f =
      let t : take p ys ≡ take at xs ++ bs = written w (omega (arith, g.fits, g.same)) k in
      record {
        used = omega arith;
        wrote = omega (arith, kept_length w);
        prints = record { is = λ rest e. g.prints.is rest e ∙ ap (λ (z : List ℕ). take at xs ++ z) (f rest e) ∙ sym t ∙ sym (append-nil (take p ys)) };
        stops = Stops.ended;
      }

  -- all bytes are used, and no more follow
  pub running_end : last ≡ true → length s ≤ i → Ran first layout s last xs (passed.Ended at)
  running_end e h =
      record {
        used = omega arith;
        wrote = omega (arith, g.fits, g.same);
        prints = record { is = λ rest ends. g.prints.is rest ends ∙ ap (λ (z : List ℕ). take at xs ++ z) (nothing rest (ends e)) };
        stops = Stops.ended;
      }
    where
      nothing : (rest : List ℕ) → rest ≡ [] → runs layout run (drop i s ++ rest) ≡ []
      nothing rest z = rw (drop_of_length-le s h, z) (no_lines 0 layout run)

  module _ (lies : i < length s) {h : Next} (found : Finds (take (length s - i) (drop i s)) last h) where
    -- what was found of the part was found of what is left
    here : Finds (drop i s) last h
    here = rw (all_left s i) at found

    -- something is left
    some_left : (rest : List ℕ) → 0 < length (drop i s ++ rest)
    some_left rest = omega (arith, length-append (drop i s) rest, length-drop i s)

    -- the next block is not there whole
    pub running_part : h ≡ next.Part → Ran first layout s last xs (passed.More true run i at)
    running_part e = let k = found_part here e in more_lines (Stops.input k.0 (omega (arith, k.1, length-drop i s)))

    -- it is refused
    pub running_stop : {q : Reason} {p : ℕ} {ys : List ℕ} → h ≡ next.Refused q → Wrote xs at (stopped (plain (number_of q))) ys p → p ≤ at + 84 → 84 ≤ length xs - at →
        Ran first layout s last ys (passed.Ended p)
    unfolding block_lines
    running_stop e w k m =
        last_lines w (omega arith) (λ rest ends. runs_turn layout run (drop i s ++ rest) (some_left rest) ∙ rw (found_none here e rest ends))

    module _ {n : ℕ} (e : h ≡ next.Block n) where
      -- it ends in what is there
      pub block_inside : (4 ≤ n) × (i + n ≤ length s)
      block_inside = let k = found_block here e in (k.0, omega (arith, k.1, length-drop i s))

      -- the lines of the run at i, and then others
      abbrev answers : List ℕ → List ℕ
      answers = answer_lines run (run_length (take (i + n - i) (drop i s))) (validate_run words layout (take (i + n - i) (drop i s)))

      -- it is a run, which is answered first
      lines_block : (rest : List ℕ) → runs layout run (drop i s ++ rest) ≡ answers (runs layout (run + 1) (drop (i + n) s ++ rest))
      unfolding block_lines
      lines_block rest =
          let k : i + n - i ≡ n = omega arith in
          runs_turn layout run (drop i s ++ rest) (some_left rest) ∙ rw ((found_block here e).2 rest, k, ← drop-drop n i s)

      module _ {ys : List ℕ} {p : Printed} (a : Answered answers xs at ys p) (b : bytes_of p ≤ at + 84) (m : 84 ≤ length xs - at) where
        -- its line is the last
        pub running_last : {c : ℕ} → p ≡ printed.Last c → Ran first layout s last ys (passed.Ended c)
        running_last {c} f =
            let z = answered_last a f in
            last_lines z.1 (omega (arith, ap bytes_of f)) (λ rest ends. lines_block rest ∙ z.2 _)

        -- its line was written: the loop goes on behind it
        pub running_more : {c : ℕ} → p ≡ printed.Line c → Running first layout s last out ys (i + n) c (run + 1)
        running_more {c} f =
            let z = answered_line a f in
            let q : c ≤ length xs = omega (arith, ap bytes_of f) in
            let t : take c ys ≡ take at xs ++ z.0 = written z.1 (omega (arith, g.fits, g.same)) q in
            record {
              same = kept_length z.1 ∙ g.same;
              fits = omega (arith, g.same);
              inside = block_inside.1;
              prints = rw t (prints_then g.prints (record { is = λ rest ends. lines_block rest ∙ z.2 _ }));
            }
