-- Building the types of a set one after the other, and the layout around them.
use Rattle.std.specs.Prelude.{Result, Ok, Err, is_ok, is_err}
use mathlib.Core.Path.{◌≡◌, refl, sym, ◌∙◌, ap, subst}
use mathlib.Core.Bool.{Bool, true, false, ◌&&◌}
use mathlib.Core.Logic.{◌⊎◌, inl, inr}
use mathlib.Core.List.{List, [], ◌∷◌, ◌++◌, append_assoc, append-nil}
use Prim.Native.Nat.{ℕ, zero, suc, ◌+◌, ◌-◌, ◌*◌, ◌^◌, ◌≤◌, ◌<◌}
use native.Mathlib.Numerals.{add-one, sub-one}
use native.Mathlib.Nat.{zero-add}
use native.Mathlib.Omega.{arith}
use lib.ListN.{length, take, drop, replicate}
use lib.Seq.{take-append-le, take_all}
use lib.Dec.{leb}
use Rattle.blocks.proofs.Name.{and_left}
use borrow.Author.Tests.{le-leb, lt-leb, leb-true}
use Rattle.errors.proofs.Laws.{done_one, not_done, bound, bound_done}
use Rattle.errors.specs.Refusal.{Refusal, Outcome, done, refused, ◌>>=◌, at_type, plain, answered, ask, enough, unread}
use Rattle.errors.specs.Answer.{built}
use Rattle.errors.specs.declared.Refusal as code
use Rattle.errors.specs.declared.Reason.{Reason}
use Rattle.errors.specs.declared.Unread.{Unread}
use Rattle.errors.specs.Meaning.{number_of, refusal_of, length_of}
use Rattle.answers.specs.Answers.{refusal_in}
use Rattle.answers.proofs.Laws.{unanswered}
use Rattle.answers.proofs.Laws as answers
use Rattle.blocks.specs.Bytes.{le2, le4, bytes}
use Rattle.blocks.specs.Tree.{Tree, num, cons, nil, entries}
use Rattle.blocks.specs.Write.{write}
use Rattle.blocks.specs.Read.{small, read_set, read_layout}
use Rattle.accepted.specs.Accepted.{Accepted, tree, Listed}
use Rattle.accepted.proofs.Laws.{Enter, block_entry, none_left, opened as block_opened}
use Rattle.resolved.specs.Resolved.{ResolvedType}
use Rattle.resolved.specs.Set.{type_of, types_of}
use Rattle.ir.specs.Ir.{TypeIr}
use Rattle.ir.specs.Layout.{type_ir_tree, entries_tree, layout_tree}
use Rattle.builder.specs.Build.{build_type, build_types, holds, write_layout, build_set, output_after}
use Rattle.wire.specs.Poke.{Wrote, opened}
use Rattle.wire.proofs.Laws.{none, both, closed, poke_whole, poke_length}
use Rattle.reader_leaf.specs.Answer.{read_of}
use Rattle.reader.specs.Input.{input_of}
use Rattle.reader_calls.specs.Inputs.{read_call, passed}
use Rattle.reader_calls.proofs.Laws.{called, passed_no}
use Rattle.lookup.proofs.Types.{set_list}
use Rattle.builder_type.specs.Built.{BuildsType, ReadyWords as TypeReady}
use Rattle.builder_set.specs.Sets.{TypesAt, Ready, BuildsTypes, holds_at, layout_of, Leaves}

-- ---- the loop

-- the types that were built, then those that are built next
unfoldable pub prepend : List TypeIr → Outcome (List TypeIr) → Outcome (List TypeIr)
prepend xs (done ys) = done (xs ++ ys)
prepend xs (refused r) = refused r

-- `left` types are left, from an offset on: those before them stand in the output as far as p
pub record Reached (s xs : List ℕ) (at : ℕ) (ys : List ℕ) (left from place p : ℕ) (t : Tree) : Type 0 where
  pub list : Listed s 1 7 left from
  pub built : List TypeIr
  pub wrote : Wrote xs at (write (entries_tree type_ir_tree built)) ys p
  pub whole : build_types (types_of t) 0 (types_of t) ≡ prepend built (build_types (types_of t) place (entries type_of list.got.0))

-- the same of whatever tree the set has
pub record Loop (s xs : List ℕ) (at : ℕ) (ys : List ℕ) (left from place p : ℕ) : Type 0 where
  pub on : (t : Tree) → read_set s ≡ done t → Reached s xs at ys left from place p t

-- what the loop keeps: as many types are passed as `place` says, and the output is written as far as p
pub record Building (s xs₀ : List ℕ) (at : ℕ) (ws xs : List ℕ) (left from place p : ℕ) : Type 0 where
  pub types : place + left ≤ 256
  pub low : at ≤ p
  pub high : p ≤ at + 2 ^ 42 * place
  pub inside : from ≤ 65536
  pub ready : Ready s ws
  pub loop : Loop s xs₀ at xs left from place p

-- before the first type nothing was built
prepend_none : (o : Outcome (List TypeIr)) → o ≡ prepend [] o
unfolding prepend
prepend_none (done xs) = refl
prepend_none (refused r) = refl

-- the loop begins at the first type
pub begin : {s xs : List ℕ} {at left : ℕ} → left ≡ le2 s 6 → Loop s xs at xs left 8 0 at
unfolding write entries_tree
begin {s} {xs} {at} e = subst (λ (k : ℕ). Loop s xs at xs k 8 0 at) (sym e) (record {
  on = λ t r. let l = set_list r in record {
    list = l.1;
    built = [];
    wrote = none xs at;
    whole = ap (λ (ts : List ResolvedType). build_types (types_of t) 0 ts) l.2 ∙ prepend_none _;
  };
})

-- one more type tree behind others
entries_more : (ts : List TypeIr) (x : TypeIr) → write (entries_tree type_ir_tree (ts ++ (x ∷ []))) ≡ write (entries_tree type_ir_tree ts) ++ write (type_ir_tree x)
unfolding write entries_tree
entries_more [] x = append-nil (write (type_ir_tree x))
entries_more (t ∷ ts) x = ap (λ (bs : List ℕ). write (type_ir_tree t) ++ bs) (entries_more ts x) ∙ sym (append_assoc (write (type_ir_tree t)) (write (entries_tree type_ir_tree ts)) (write (type_ir_tree x)))

-- the next type builds, or refuses
module _ (types : List ResolvedType) (i : ℕ) (T : ResolvedType) (rest : List ResolvedType) (pre : List TypeIr) where
  -- a type that builds is one more of those that were built
  one_built : {x : TypeIr} → build_type types T ≡ done x → prepend pre (build_types types i (T ∷ rest)) ≡ prepend (pre ++ (x ∷ [])) (build_types types (i + 1) rest)
  unfolding build_types ◌>>=◌ at_type prepend
  one_built {x} e = rw (e, add-one) (go (build_types types (suc i) rest))
    where
      go : (o : Outcome (List TypeIr)) → prepend pre (o >>= (λ xs. done (x ∷ xs))) ≡ prepend (pre ++ (x ∷ [])) o
      go (done ys) = ap done (sym (append_assoc pre (x ∷ []) ys))
      go (refused r) = refl

  -- a type that is refused ends the set, with its place
  one_refused : {k : ℕ} → build_type types T ≡ refused (plain k) → prepend pre (build_types types i (T ∷ rest)) ≡ refused (record { number = k; place = i; offset = 0; value = 0 })
  unfolding build_types ◌>>=◌ at_type prepend
  one_refused e = rw e refl

-- ---- in the code's form: b is what building the type at `from` left

-- what building all types leaves
abbrev pub Made : (xs : List ℕ) (at : ℕ) (ys : List ℕ) (r : Result ℕ code.Refusal) (t : Tree) → Type 0
Made xs at ys r t = BuildsTypes xs at ys r (build_types (types_of t) 0 (types_of t))

-- what building the next type leaves
abbrev pub Makes : (s ys : List ℕ) (from p : ℕ) (zs : List ℕ) (b : Result ℕ Reason) → Type 0
Makes s ys from p zs b = (t : Tree) (a : Accepted s 1 7 from) → read_set s ≡ done t → BuildsType ys p zs b (build_type (types_of t) (type_of (tree a)))

module _ {s xs ys : List ℕ} {at left from place p : ℕ} {t : Tree} (q : Reached s xs at ys left from place p t) (e : Enter q.list) where
  -- the types that are left, by the next
  next_is : prepend q.built (build_types (types_of t) place (entries type_of q.list.got.0)) ≡
      prepend q.built (build_types (types_of t) place (type_of (tree e.child) ∷ entries type_of e.after.rest.got.0))
  unfolding entries
  next_is = ap (λ (u : Tree). prepend q.built (build_types (types_of t) place (entries type_of u))) e.after.tree

  -- the next type was built: its own tree stands behind the others
  reach_more : {zs : List ℕ} {end : ℕ} → BuildsType ys p zs (Ok end) (build_type (types_of t) (type_of (tree e.child))) →
      Reached s xs at zs (left - 1) (from + 4 + le4 s from) (place + 1) end t
  reach_more b =
      let (x, d, m) = answers.answered b in
      record {
        list = e.after.rest;
        built = q.built ++ (x ∷ []);
        wrote = rw (entries_more q.built x) (both q.wrote m.wrote);
        whole = q.whole ∙ next_is ∙ one_built (types_of t) place (type_of (tree e.child)) (entries type_of e.after.rest.got.0) q.built d;
      }

  -- the next type was refused: so is the set, with its reason and place
  reach_none : {zs vs : List ℕ} {d : Reason} {r : code.Refusal} → BuildsType ys p zs (Err d) (build_type (types_of t) (type_of (tree e.child))) →
      refusal_of r ≡ refusal_in place (number_of d) → Made xs at vs (Err r) t
  reach_none {r} b g =
      let i : build_types (types_of t) 0 (types_of t) ≡ refused (refusal_of r) =
      q.whole ∙ next_is ∙ one_refused (types_of t) place (type_of (tree e.child)) (entries type_of e.after.rest.got.0) q.built (unanswered b) ∙ ap refused (sym g) in
      rw i BuildsTypes.not

module _ {s xs ys : List ℕ} {at left from place p : ℕ} where
  -- the type that is next
  pub next_type : 0 < left → Loop s xs at ys left from place p → (t : Tree) → read_set s ≡ done t → Accepted s 1 7 from × (from + 4 + le4 s from ≤ length s)
  next_type h c t r =
      let e = block_entry (c.on t r).list h in
      let o = block_opened e.child refl refl in
      (e.child, omega (arith, o.high, e.child.fits))

  -- it is built, and the next one stands behind it
  pub go_on : {zs : List ℕ} {end u : ℕ} → 0 < left → Makes s ys from p zs (Ok end) → u ≡ le4 s from → Loop s xs at ys left from place p →
      Loop s xs at zs (left - 1) (from + (4 + u)) (place + 1) end
  go_on {zs} {end} {u} h f g c =
      let l : from + 4 + le4 s from ≡ from + (4 + u) = omega arith in
      subst (λ (k : ℕ). Loop s xs at zs (left - 1) k (place + 1) end) l (record {
        on = λ t r. let e = block_entry (c.on t r).list h in reach_more (c.on t r) e (f t e.child r);
      })

  -- it is refused
  pub stopped : {zs vs : List ℕ} {d : Reason} {r : code.Refusal} → 0 < left → Makes s ys from p zs (Err d) → refusal_of r ≡ refusal_in place (number_of d) →
      Loop s xs at ys left from place p → (t : Tree) → read_set s ≡ done t → Made xs at vs (Err r) t
  stopped h f g c t i = let e = block_entry (c.on t i).list h in reach_none (c.on t i) e (f t e.child i) g

-- no type is left
pub no_more : {s xs ys : List ℕ} {at left from place p : ℕ} → left ≤ 0 → Loop s xs at ys left from place p → (t : Tree) → read_set s ≡ done t → Made xs at ys (Ok p) t
unfolding prepend build_types entries
no_more {place} {p} h c t e =
    let q = c.on t e in
    let i : build_types (types_of t) 0 (types_of t) ≡ done q.built =
    q.whole ∙ ap (λ (v : Tree × ℕ). prepend q.built (build_types (types_of t) place (entries type_of v.0))) (none_left q.list h) ∙ ap done (append-nil q.built) in
    rw i (BuildsTypes.made q.built q.wrote)

-- ---- what the calls stand on

-- what building the next type stands on
pub type_ready : {s ws xs ys : List ℕ} {at left from place p : ℕ} → Ready s ws → 0 < left → Loop s xs at ys left from place p → p + 512 < 2 ^ 55 → TypeReady s ws from (p + 512)
type_ready r h c k = record { size = r.size; words = r.words; set = r.set; type_at = (next_type h c r.set.0 r.set.1).0; cursor = k }

-- the words may hold other entries
pub ready_again : {s ws us : List ℕ} → Ready s ws → length us ≡ length ws → Ready s us
ready_again r e = record { size = r.size; words = rw e r.words; set = r.set }

-- where the next type ends
pub next_end : {s ws xs ys : List ℕ} {at left from place p : ℕ} → Ready s ws → 0 < left → Loop s xs at ys left from place p → from + 4 + le4 s from ≤ 65536
next_end {s} {from} r h c = let n = (next_type h c r.set.0 r.set.1).1 in omega (arith, n, r.size)

-- the next type stands inside the set
pub next_inside : {s ws xs ys : List ℕ} {at left from place p : ℕ} → Ready s ws → 0 < left → Loop s xs at ys left from place p → from + 4 + le4 s from ≤ length s
next_inside r h c = (next_type h c r.set.0 r.set.1).1

-- a set has 8 bytes at least, and 256 types at most
pub set_counts : {s ws : List ℕ} → Ready s ws → (8 ≤ length s) × (le2 s 6 ≤ 256)
set_counts r = let l = set_list r.set.1 in (l.0, l.3)

-- ---- 18

-- what is read is what reading answers with a value
read_is : {A : Type 0} (r : Result A Unread) → is_ok r ≡ answered (read_of r)
read_is (Ok a) = refl
read_is (Err u) = refl

-- an input is read where its tree is
input_is : (m : ℕ) (o : Outcome Tree) → answered (input_of m o) ≡ answered o
unfolding input_of
input_is m (done t) = refl
input_is m (refused q) = refl

module _ (out : List ℕ) (n : ℕ) where
  -- the output is too short, or the layout too long
  pub holds_not : (length out < n) ⊎ ((n ≤ length out) × (65536 < n)) → false ≡ holds_at out n
  unfolding holds_at
  holds_not (inl h) = rw (lt-leb _ _ h) refl
  holds_not (inr h) = rw (le-leb _ _ h.0, lt-leb _ _ h.1) refl

  -- else it holds where it is read
  pub holds_read : (m : ℕ) (r : Result ℕ Unread) → n ≤ length out → n ≤ 65536 → read_of r ≡ input_of m (read_layout (take n out)) → is_ok r ≡ holds_at out n
  unfolding holds_at
  holds_read m r h k e = read_is r ∙ ap answered e ∙ input_is m (read_layout (take n out)) ∙ rw (le-leb _ _ h, le-leb _ _ k) refl

-- ---- the layout

-- as many types build as the set has
built_count : (types : List ResolvedType) (i : ℕ) (ts : List ResolvedType) {xs : List TypeIr} → build_types types i ts ≡ done xs → length xs ≡ length ts
unfolding build_types
built_count types i [] e = ap length (sym (done_one e))
built_count types i (t ∷ ts) e =
    let a = bound (at_type i (build_type types t)) _ _ e in
    let b = bound (build_types types (suc i) ts) _ _ a.2 in
    ap length (sym (done_one b.2)) ∙ ap suc (built_count types (suc i) ts b.1)

-- a list has as many entries as it counts
listed_count : {s : List ℕ} {A : Type 0} (f : Tree → A) {lo hi : ℕ} (n at : ℕ) (l : Listed s lo hi n at) → length (entries f l.got.0) ≡ n
unfolding entries
listed_count f zero at l = rw (none_left l (omega arith)) refl
listed_count {s} f {lo} {hi} (suc n) at l =
    let e = block_entry l (omega arith) in
    let g : (q : ℕ) (r : Listed s lo hi (suc n - 1) q) → length (entries f r.got.0) ≡ n = rw sub-one (listed_count f n) in
    rw e.after.tree (ap suc (g (at + 4 + le4 s at) e.after.rest))

-- the count that the code writes is that of the layout
pub set_count : (s : List ℕ) {t : Tree} {xs : List TypeIr} → read_set s ≡ done t → build_types (types_of t) 0 (types_of t) ≡ done xs → le2 s 6 ≡ length xs
set_count s {t} e d =
    let l = set_list e in
    sym (built_count (types_of t) 0 (types_of t) d ∙ ap length l.2 ∙ listed_count type_of (le2 s 6) 8 l.1)

-- the layout of so many types: its header, its count and its type trees, and then its length
pub layout_is : {xs xs₁ xs₂ xs₃ ys : List ℕ} {p q u v n : ℕ} (ts : List TypeIr) → Wrote xs 0 (opened 160) xs₁ p → Wrote xs₁ p (bytes 2 n) xs₂ q →
    Wrote xs₂ q (write (entries_tree type_ir_tree ts)) xs₃ u →
    Wrote xs₃ 0 (bytes 4 (u - 0 - 4)) ys v → n ≡ length ts → Wrote xs 0 (write (layout_tree ts)) ys u
unfolding layout_tree write
layout_is {xs} {xs₃} {u} {n} ts o k t c e =
    closed 0 160 (cons (cons (num 2 (length ts)) (entries_tree type_ir_tree ts)) nil)
    (subst (λ (bs : List ℕ). Wrote xs 0 bs xs₃ u)
    (ap (λ (bs : List ℕ). opened 160 ++ bs) (sym (append-nil _) ∙ ap (λ (m : ℕ). (bytes 2 m ++ write (entries_tree type_ir_tree ts)) ++ []) e)) (both o (both k t))) c

-- a write at the start that fits: what was written, then what stood behind
pub whole_is : {xs ys bs : List ℕ} {u : ℕ} → Wrote xs 0 bs ys u → length bs ≤ length xs → ys ≡ bs ++ drop (length bs) xs
whole_is w h = w.left ∙ poke_whole _ _ h

-- 18 is put to the layout's bytes where they stand in the output
same_holds : {xs ys bs : List ℕ} {u : ℕ} → Wrote xs 0 bs ys u → holds (length xs) bs ≡ holds_at ys u
unfolding holds_at
same_holds {xs} {ys} {bs} {u} w = go (leb (length bs) (length xs)) refl
  where
    long : length ys ≡ length xs
    long = ap length w.left ∙ poke_length xs 0 bs

    go : (b : Bool) → leb (length bs) (length xs) ≡ b →
        ((leb (length bs) (length xs) && leb (length bs) 65536) && answered (read_layout bs)) ≡ ((leb u (length ys) && leb u 65536) && answered (read_layout (take u ys)))
    go true e =
        let n : u ≡ length bs = w.end ∙ zero-add (length bs) in
        let h : ys ≡ bs ++ drop (length bs) xs = whole_is w (leb-true _ _ e) in
        let k : take (length bs) ys ≡ bs = ap (take (length bs)) h ∙ take-append-le (length bs) bs (drop (length bs) xs) (omega arith) ∙ take_all (length bs) bs (omega arith) in
        rw (n, long, k) refl
    go false e = let n : u ≡ length bs = w.end ∙ zero-add (length bs) in rw (n, long, e) refl

-- ---- in the code's form: r is what the types left, then the length is written

-- where the layout does not hold, 18
not_held : (out : ℕ) (ts : List TypeIr) → holds out (write (layout_tree ts)) ≡ false → write_layout out ts ≡ refused (plain 18)
unfolding write_layout ◌>>=◌ ask
not_held out ts h = rw h refl

-- where it holds, its bytes
is_held : (out : ℕ) (ts : List TypeIr) → holds out (write (layout_tree ts)) ≡ true → write_layout out ts ≡ done (write (layout_tree ts))
unfolding write_layout ◌>>=◌ ask
is_held out ts h = rw h refl

-- a layout was built: its length is answered
leaves_made : {xs ys : List ℕ} {r : Result ℕ code.Refusal} {o : Outcome (List ℕ)} (bs : List ℕ) → o ≡ done bs → length_of r ≡ done (length bs) → ys ≡ bs ++ drop (length bs) xs → Leaves xs ys r o
unfolding built
leaves_made {xs} {ys} bs e f w = record { is = rw (e, f); left = λ cs d. let g : bs ≡ cs = done_one (sym e ∙ d) in rw (← g) w }

-- none was: the refusal is answered
leaves_none : {xs ys : List ℕ} {r : Result ℕ code.Refusal} {o : Outcome (List ℕ)} {q : Refusal} → o ≡ refused q → length_of r ≡ refused q → Leaves xs ys r o
unfolding built
leaves_none e f = record { is = rw (e, f); left = λ cs d. absurd (not_done (sym e ∙ d)) }

-- the types are built: 18 decides
decided : (out : ℕ) (t : Tree) {ts : List TypeIr} → build_types (types_of t) 0 (types_of t) ≡ done ts → layout_of out t ≡ write_layout out ts
unfolding layout_of
decided out t e = bound_done (write_layout out) e

-- types that were refused
types_refused : {xs ys : List ℕ} {at : ℕ} {r : code.Refusal} {o : Outcome (List TypeIr)} → BuildsTypes xs at ys (Err r) o → o ≡ refused (refusal_of r)
types_refused BuildsTypes.not = refl

-- types that were built
types_done : {xs ys : List ℕ} {at end : ℕ} {o : Outcome (List TypeIr)} → BuildsTypes xs at ys (Ok end) o → (ts : List TypeIr) × (o ≡ done ts) × TypesAt xs at ys end ts
types_done (BuildsTypes.made ts w) = (ts, refl, w)

-- a type was refused
pub types_no : (s : List ℕ) {xs xs₂ xs₃ ys : List ℕ} {q : ℕ} {r : code.Refusal} → ((t : Tree) → read_set s ≡ done t → Made xs₂ q xs₃ (Err r) t) →
    (t : Tree) → read_set s ≡ done t → Leaves xs ys (Err r) (layout_of (length xs) t)
unfolding layout_of ◌>>=◌
types_no s {xs} {r} f t e =
    let h : build_types (types_of t) 0 (types_of t) ≡ refused (refusal_of r) = types_refused (f t e) in
    let d : layout_of (length xs) t ≡ refused (refusal_of r) = rw h in
    leaves_none d refl

-- all are built
module _ (s : List ℕ) {xs xs₁ xs₂ xs₃ ys : List ℕ} {p q end n v : ℕ} (o : Wrote xs 0 (opened 160) xs₁ p) (k : Wrote xs₁ p (bytes 2 n) xs₂ q) (c : n ≡ le2 s 6)
    (f : (t : Tree) → read_set s ≡ done t → Made xs₂ q xs₃ (Ok end) t) (d : Wrote xs₃ 0 (bytes 4 (end - 0 - 4)) ys v) (t : Tree) (e : read_set s ≡ done t) where
  -- their trees and their bytes
  all_made : (ts : List TypeIr) × (build_types (types_of t) 0 (types_of t) ≡ done ts) × Wrote xs 0 (write (layout_tree ts)) ys end
  all_made = let (ts, g, w) = types_done (f t e) in (ts, g, layout_is ts o k w d (c ∙ set_count s e g))

  -- the layout holds: its bytes stand at the start of the output
  pub layout_yes : true ≡ holds_at ys end → Leaves xs ys (Ok end) (layout_of (length xs) t)
  layout_yes h =
      let (ts, g, w) = all_made in
      let y : holds (length xs) (write (layout_tree ts)) ≡ true = same_holds w ∙ sym h in
      let l : length (write (layout_tree ts)) ≤ length xs = leb-true _ _ (and_left _ _ (and_left _ _ y)) in
      leaves_made (write (layout_tree ts)) (decided (length xs) t g ∙ is_held (length xs) ts y) (ap done (w.end ∙ zero-add _)) (whole_is w l)

  -- it does not
  pub layout_no : {x : code.Refusal} → false ≡ holds_at ys end → refusal_of x ≡ plain 18 → Leaves xs ys (Err x) (layout_of (length xs) t)
  layout_no h g =
      let (ts, b, w) = all_made in
      let y : holds (length xs) (write (layout_tree ts)) ≡ false = same_holds w ∙ sym h in
      leaves_none (decided (length xs) t b ∙ not_held (length xs) ts y) (ap refused g)

-- ---- the questions before building

-- the questions may be put first, and what follows them afterwards
asked_first : (n out : ℕ) (set : List ℕ) → build_set n out set ≡ (read_call read_set n set >>= layout_of out)
unfolding build_set read_call layout_of ◌>>=◌
asked_first n out set = go (enough n) (small set) (read_set set) (λ t. build_types (types_of t) 0 (types_of t) >>= write_layout out)
  where
    go : (a b : Outcome Unit) (x : Outcome Tree) (k : Tree → Outcome (List ℕ)) → (a >>= (λ _. b >>= (λ _. x >>= k))) ≡ ((a >>= (λ _. b >>= (λ _. x))) >>= k)
    go (refused r) b x k = refl
    go (done u) (refused r) x k = refl
    go (done u) (done v) (refused r) k = refl
    go (done u) (done v) (done t) k = refl

module _ (n : ℕ) (set : List ℕ) where
  -- a question was not passed: its refusal
  pub set_unread : (xs : List ℕ) (u : Unread) {x : code.Refusal} → refused (unread (number_of u.reason) u.offset) ≡ passed (read_call read_set n set) →
      refusal_of x ≡ unread (number_of u.reason) u.offset → Leaves xs xs (Err x) (build_set n (length xs) set)
  unfolding ◌>>=◌
  set_unread xs u d g =
      leaves_none (asked_first n (length xs) set ∙ ap (λ (z : Outcome Tree). z >>= layout_of (length xs)) (passed_no (read_call read_set n set) d)) (ap refused g)

  module _ (d : done tt ≡ passed (read_call read_set n set)) where
    -- all were: what the layout leaves
    pub set_read : (xs : List ℕ) {ys : List ℕ} {a : Result ℕ code.Refusal} → ((t : Tree) → read_set set ≡ done t → Leaves xs ys a (layout_of (length xs) t)) →
        Leaves xs ys a (build_set n (length xs) set)
    set_read xs {ys} {a} g =
        let j = called d in
        subst (Leaves xs ys a) (sym (asked_first n (length xs) set ∙ bound_done (layout_of (length xs)) j.is)) (g j.tree j.input_read)

    -- building stands on a set that was read, and on the words
    pub set_ready : {ws : List ℕ} → (8192 ≤ n → 1663 ≤ length ws) → Ready set ws
    set_ready h = let j = called d in record { size = j.size; words = h j.words; set = (j.tree, j.input_read) }

-- ---- what a call leaves

-- where a length is answered, the layout stands in the output
pub left_built : {xs ys : List ℕ} (r : Result ℕ code.Refusal) (o : Outcome (List ℕ)) → Leaves xs ys r o → false ≡ is_err r → ys ≡ output_after xs o
unfolding output_after built
left_built (Ok n) (done bs) l e = l.left bs refl
left_built (Ok n) (refused q) l e = absurd (not_done (sym l.is))
left_built (Err q) o l e = absurd (cc)

-- where a refusal is, the output is cleared
pub left_cleared : {xs ys zs : List ℕ} (r : Result ℕ code.Refusal) (o : Outcome (List ℕ)) → Leaves xs ys r o → true ≡ is_err r → zs ≡ replicate (length ys) 0 →
    length ys ≡ length xs → zs ≡ output_after xs o
unfolding output_after built
left_cleared (Ok n) o l e c h = absurd (cc)
left_cleared (Err q) (done bs) l e c h = absurd (not_done l.is)
left_cleared (Err q) (refused s) l e c h = c ∙ ap (λ (n : ℕ). replicate n 0) h
