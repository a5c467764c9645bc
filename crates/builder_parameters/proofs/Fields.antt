-- The jagged arrays among a struct's fields.
use mathlib.Core.Path.{◌≡◌, refl, sym, ◌∙◌, ap, subst}
use mathlib.Core.Bool.{Bool, true, false, ◌&&◌, ◌||◌}
use mathlib.Core.List.{List, []}
use mathlib.Core.Option.{Option, some, none}
use Prim.Native.Nat.{ℕ, ◌+◌, ◌-◌, ◌≤◌, ◌<◌}
use native.Mathlib.Omega.{arith}
use lib.Dec.{leb}
use borrow.Author.Tests.{leb-true, leb-false}
use Rattle.blocks.specs.Bytes.{le2, le4}
use Rattle.blocks.specs.Name.{Name, same}
use Rattle.blocks.specs.Tree.{Tree, block, cons, view}
use Rattle.blocks.proofs.Name.{false_true}
use Rattle.resolved.specs.Resolved.{ResolvedTypeKind, ResolvedField, kind_of, jagged_of, fields}
use Rattle.resolved.specs.Set.{type_of, thing_of, make_thing, form_of, fields_in}
use Rattle.accepted.specs.Accepted.{Accepted, tree, Item, name_at}
use Rattle.accepted.proofs.Laws.{opened, each, block_entry}
use Rattle.accepted.proofs.Lists.{Left, starts, steps, ended}
use Rattle.resolved_parts.specs.declared.ArrayParts.{ArrayParts}
use Rattle.resolved_parts.specs.declared.FieldParts.{FieldParts}
use Rattle.resolved_parts.specs.declared.ListParts.{ListParts}
use Rattle.resolved_parts.specs.Types.{ArrayAt, FieldAt, FieldsAt}
use Rattle.builder.specs.Names.{or_else, split, before_element, replace_colons}
use Rattle.builder.specs.BuildType.{fields_of, has_jagged, jagged_before, is_jagged_element_parameter}
use Rattle.builder_parameters.specs.Listed.{Jagged}

-- ---- kinds

-- what holds of every kind but one
but_one : {s : List ℕ} {at : ℕ} (P : Tree → Type 0) (m : ℕ) (a : Accepted s 1 7 at) → (le2 s (at + 4) ≡ m → ⊥) →
    ((u : Tree) (k : ℕ) → 1 ≤ k → k < m → P (block at k u)) → ((u : Tree) (k : ℕ) → m < k → k ≤ 7 → P (block at k u)) → P (tree a)
but_one {s} {at} P m a n lo hi =
    let o = opened a refl refl in
    subst P (sym o.tree) (go (leb (le2 s (at + 4)) m) refl o.parts.got.0 o.least o.most)
  where
    go : (b : Bool) → leb (le2 s (at + 4)) m ≡ b → (u : Tree) → 1 ≤ le2 s (at + 4) → le2 s (at + 4) ≤ 7 → P (block at (le2 s (at + 4)) u)
    go true h u l g = lo u (le2 s (at + 4)) l (omega (arith, leb-true (le2 s (at + 4)) m h, n))
    go false h u l g = hi u (le2 s (at + 4)) (leb-false (le2 s (at + 4)) m h) g

-- only kind 5 is an array
pub no_array : {s : List ℕ} {at : ℕ} (a : Accepted s 1 7 at) → (le2 s (at + 4) ≡ 5 → ⊥) → false ≡ or_else false (jagged_of (kind_of (type_of (tree a))))
unfolding type_of view thing_of make_thing form_of
no_array {at} a n =
    but_one (λ t. false ≡ or_else false (jagged_of (kind_of (type_of t)))) 5 a n
    (λ u k l h. each (λ k. false ≡ or_else false (jagged_of (kind_of (type_of (block at k u))))) 4 1 (refl, (refl, (refl, (refl, tt)))) k l (omega arith))
    (λ u k l h. each (λ k. false ≡ or_else false (jagged_of (kind_of (type_of (block at k u))))) 2 6 (refl, (refl, tt)) k (omega arith) (omega arith))

-- kind 5 says itself whether it is jagged
pub an_array : {s : List ℕ} {at : ℕ} (a : Accepted s 1 7 at) {r : ArrayParts} → ArrayAt a r → r.jagged ≡ or_else false (jagged_of (kind_of (type_of (tree a))))
an_array a h = ap (λ (k : ResolvedTypeKind). or_else false (jagged_of k)) (sym h.is)

-- only kind 2 has fields of its own
no_fields : {s : List ℕ} {at : ℕ} (a : Accepted s 1 7 at) → (le2 s (at + 4) ≡ 2 → ⊥) → fields_of (kind_of (type_of (tree a))) ≡ []
unfolding type_of view thing_of make_thing form_of
no_fields {at} a n =
    but_one (λ t. fields_of (kind_of (type_of t)) ≡ []) 2 a n
    (λ u k l h. each (λ k. fields_of (kind_of (type_of (block at k u))) ≡ []) 1 1 (refl, tt) k l (omega arith))
    (λ u k l h. each (λ k. fields_of (kind_of (type_of (block at k u))) ≡ []) 5 3 (refl, (refl, (refl, (refl, (refl, tt))))) k (omega arith) (omega arith))

-- ---- a field

-- whether fields have a jagged array of this name
abbrev pub within : Name → Tree → Bool
within n u = has_jagged n (fields (fields_in (view thing_of u)))

module _ {s : List ℕ} {at : ℕ} {a : Accepted s 33 33 at} {r : FieldParts} (f : FieldAt a r) (n : Name) (u : Tree) where
  -- the first field decides, or the fields behind it do
  of_field : {b j : Bool} → same (name_at s (at + 6)) n ≡ b → or_else false (jagged_of (kind_of (type_of (tree f.type)))) ≡ j →
      within n (cons (tree a) u) ≡ ((b && j) || within n u)
  unfolding has_jagged
  of_field {b} {j} p q =
      ap (has_jagged n) (f.is u)
      ∙ ap (λ (c : Bool). (c && or_else false (jagged_of (kind_of (type_of (tree f.type))))) || within n u) p
      ∙ ap (λ (c : Bool). (b && c) || within n u) q

  -- it has another name
  pub other_field : {o : Name} → o ≡ name_at s (at + 6) → false ≡ same o n → within n (cons (tree a) u) ≡ within n u
  other_field e g = of_field (ap (λ (m : Name). same m n) (sym e) ∙ sym g) refl

  -- it has the name
  pub that_field : {o : Name} {j : Bool} → o ≡ name_at s (at + 6) → true ≡ same o n →
      ((t : Accepted s 1 7 r.kind) → j ≡ or_else false (jagged_of (kind_of (type_of (tree t))))) →
      within n (cons (tree a) u) ≡ (j || within n u)
  that_field e g k = of_field (ap (λ (m : Name). same m n) (sym e) ∙ sym g) (sym (k f.type))

  -- it is no jagged array
  pub plain_field : {j : Bool} → ((t : Accepted s 1 7 r.kind) → j ≡ or_else false (jagged_of (kind_of (type_of (tree t))))) → j ≡ false →
      within n (cons (tree a) u) ≡ within n u
  plain_field k h = of_field refl (sym (k f.type) ∙ h) ∙ ap (λ (c : Bool). c || within n u) (neither (same (name_at s (at + 6)) n))
    where
      neither : (b : Bool) → (b && false) ≡ false
      neither true = refl
      neither false = refl

module _ {s : List ℕ} {at : ℕ} (n : Name) {r : Bool}
    (g : (b : Accepted s 33 33 at) (u : Tree) → within n (cons (tree b) u) ≡ (r || within n u)) (b : Accepted s 33 33 at) (u : Tree) where
  -- a field that is one ends the search
  pub hits : r ≡ true → within n (cons (tree b) u) ≡ true
  hits h = g b u ∙ ap (λ (c : Bool). c || within n u) h

  -- a field that is none leaves it to those behind it
  pub misses : r ≡ false → within n (cons (tree b) u) ≡ within n u
  misses h = g b u ∙ ap (λ (c : Bool). c || within n u) h

-- ---- the loop over the fields

-- those that were passed are no jagged arrays of the names meant
pub record Passed (N : Name → Type 0) (w u : Tree) : Type 0 where
  pub is : (n : Name) → N n → within n w ≡ within n u

-- of the fields, `left` are left, from `at` on
abbrev pub Search : (Name → Type 0) → List ℕ → ℕ → ℕ → ℕ → ℕ → Type 0
Search N s count first left at = Left (Passed N) s (Item.blocks 33 33) count first left at

module _ {s : List ℕ} {kind : ℕ} {a : Accepted s 1 7 kind} {r : ListParts} (f : FieldsAt a r) (N : Name → Type 0) where
  -- before the loop no field is passed
  pub begin : Search N s r.count r.first (r.count - 0) r.first
  begin = let e : r.count - 0 ≡ r.count = omega arith in rw e (starts (λ t. record { is = λ n h. refl }) f.list)

  module _ {left at : ℕ} (e : le2 s (kind + 4) ≡ 2) {n : Name} (m : N n) (c : Search N s r.count r.first left at) where
    -- the field at hand is one: so the struct has one
    pub found : (h : 0 < left) → ((b : Accepted s 33 33 at) (u : Tree) → within n (cons (tree b) u) ≡ true) →
        true ≡ has_jagged n (fields_of (kind_of (type_of (tree a))))
    found h g =
        let w = c.whole f.list in
        let k = block_entry w.0 h in
        sym (ap (λ (q : ResolvedTypeKind). has_jagged n (fields_of q)) (f.struct e)
        ∙ w.1.is n m
        ∙ ap (within n) k.after.tree
        ∙ g k.child k.after.rest.got.0)

    -- no field is left: it has none
    pub not_found : left ≤ 0 → false ≡ has_jagged n (fields_of (kind_of (type_of (tree a))))
    unfolding has_jagged fields fields_in view
    not_found h = sym (ap (λ (q : ResolvedTypeKind). has_jagged n (fields_of q)) (f.struct e) ∙ (ended h c f.list).0.is n m)

module _ {N : Name → Type 0} {s : List ℕ} {count first at : ℕ} (k : ℕ) (h : k < count) where
  -- k fields were passed: the field at hand is accepted
  pub next_field : Search N s count first (count - k) at → Accepted s 33 33 at
  next_field c = (block_entry c.here (omega arith)).child

  -- a field that is none is passed
  pub go_on : {z : ℕ} → ((n : Name) → N n → (b : Accepted s 33 33 at) (u : Tree) → within n (cons (tree b) u) ≡ within n u) → z ≡ le4 s at →
      Search N s count first (count - k) at → Search N s count first (count - (k + 1)) (at + 4 + z)
  go_on g e c =
      let l : 0 < count - k = omega arith in
      let f : count - (k + 1) ≡ count - k - 1 = omega arith in
      rw (e, f) (steps (λ x. (block_entry x l).child.got.0) (λ x. (block_entry x l).after)
      (λ x w t q. record { is = λ n m. q.is n m ∙ g n m (block_entry x l).child t }) c)

-- ---- names of elements

-- where no name is a jagged array's, no name is an element of one
none_before : (fs : List ResolvedField) → ((n : Name) → false ≡ has_jagged n fs) → (o : Option Name) → jagged_before fs o ≡ false
none_before fs h none = refl
none_before fs h (some n) = sym (h n)

-- a type that is no struct has no jagged array
pub no_struct : {s : List ℕ} {at k : ℕ} → k ≡ le2 s (at + 4) → (k ≡ 2 → ⊥) → Jagged s at false
unfolding is_jagged_element_parameter has_jagged
no_struct {s} {at} e n = record {
  struct = λ z. false_true z;
  no_element = λ z a m. none_before
      (fields_of (kind_of (type_of (tree a))))
      (λ o. ap (has_jagged o) (sym (no_fields a (λ u. n (e ∙ u)))))
      (before_element (split (replace_colons m)));
}

-- a struct in which no field is one
pub no_jagged : {s : List ℕ} {at k : ℕ} → k ≡ le2 s (at + 4) → k ≡ 2 →
    ((a : Accepted s 1 7 at) (n : Name) → false ≡ has_jagged n (fields_of (kind_of (type_of (tree a))))) → Jagged s at false
unfolding is_jagged_element_parameter
no_jagged e f h = record {
  struct = λ z. sym e ∙ f;
  no_element = λ z a m. none_before (fields_of (kind_of (type_of (tree a)))) (h a) (before_element (split (replace_colons m)));
}

-- a struct in which a field is one
pub one_jagged : {s : List ℕ} {at k : ℕ} → k ≡ le2 s (at + 4) → k ≡ 2 → Jagged s at true
one_jagged e f = record { struct = λ z. sym e ∙ f; no_element = λ z. false_true (sym z) }
