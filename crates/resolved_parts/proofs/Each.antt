-- What stands behind the head of a type, for each kind.
use mathlib.Core.Path.{◌≡◌, refl, sym, ◌∙◌, ap, subst}
use mathlib.Core.Bool.{Bool}
use mathlib.Core.List.{List, [], ◌∷◌}
use Prim.Native.Nat.{ℕ, ◌+◌, ◌≤◌}
use native.Mathlib.Omega.{arith}
use lib.Dec.{eqb}
use lib.ListN.{length, get_or}
use Rattle.blocks.specs.declared.Part.{Part}
use Rattle.blocks.specs.declared.Part.TheVariants.{Text, Key, Number, Flag, Size, Block, Blocks}
use Rattle.blocks.specs.Bytes.{le2, le4}
use Rattle.blocks.specs.Grammar.{parts_of, find_row, grammar, node_table}
use Rattle.blocks.specs.Tree.{Tree, num, block, cons, part, view, part_or, part_view}
use Rattle.expr.specs.Expr.{expr_of}
use Rattle.resolved.specs.Resolved.{ResolvedTypeKind, kind_of}
use Rattle.resolved.specs.Set.{type_of, thing_of, make_thing, form_of, variants_in}
use Rattle.accepted.specs.Accepted.{Accepted, tree, Parts, Listed, Counted}
use Rattle.accepted.proofs.Laws.{each, text_part, flag_part, block_part, list_part}
use Rattle.resolved_parts.specs.Places.{head_end}
use Rattle.resolved_parts.specs.declared.ListParts.{ListParts}
use Rattle.resolved_parts.specs.Types.{ArrayAt, EnumAt, FieldsAt, SizedAt, TargetAt}
use Rattle.resolved_parts.proofs.Laws.{named}
use Rattle.resolved_parts.proofs.Head.{head_tree, Headed, headed}

-- the kind of a type whose parts behind its head are t
kind_is : {s : List ℕ} {at k : ℕ} {ps : List Part} {a : Accepted s 1 7 at} {t : Tree} (h : Headed k ps a) → h.rest.got.0 ≡ t →
    kind_of (type_of (tree a)) ≡ kind_of (type_of (block at k (head_tree s at h.references.got.0 t)))
kind_is {s} {at} {k} h e = ap (λ (z : Tree). kind_of (type_of z)) (h.is ∙ ap (λ (t : Tree). block at k (head_tree s at h.references.got.0 t)) e)

-- ---- 5 array

-- the parts of an array behind its head, where the element and the size expression stand
record Array {s : List ℕ} {q : ℕ} (c : Parts s (Flag ∷ Block 1 7 ∷ Block 64 91 ∷ []) q) : Type 0 where
  element : Accepted s 1 7 (q + 1)
  size : Accepted s 64 91 (q + 1 + 4 + le4 s (q + 1))
  inside : q + 1 + 4 + le4 s (q + 1) + 4 + le4 s (q + 1 + 4 + le4 s (q + 1)) ≤ c.end
  last : Tree
  is : c.got.0 ≡ cons (num 1 (get_or s q 0)) (cons element.got.0 (cons size.got.0 last))

-- every accepted row of these parts is such
array : {s : List ℕ} {q : ℕ} (c : Parts s (Flag ∷ Block 1 7 ∷ Block 64 91 ∷ []) q) → Array c
array {s} {q} c =
    let f = (flag_part c).1 in
    let e = block_part f.rest in
    let x = block_part e.behind.rest in
    record {
      element = e.child;
      size = x.child;
      inside = omega (arith, x.behind.inside, e.behind.end, f.end);
      last = x.behind.rest.got.0;
      is = f.tree ∙ ap (λ (t : Tree). cons (num 1 (get_or s q 0)) t) (e.behind.tree ∙ ap (λ (t : Tree). cons e.child.got.0 t) x.behind.tree);
    }

-- a type of kind 5 has these parts behind its head
array_headed : {s : List ℕ} {at : ℕ} (a : Accepted s 1 7 at) → le2 s (at + 4) ≡ 5 → Headed 5 (Flag ∷ Block 1 7 ∷ Block 64 91 ∷ []) a
unfolding parts_of find_row grammar node_table
array_headed a ek = headed a ek refl

-- the flag and the length of the element lie inside the bytes
pub array_inside : {s : List ℕ} {at : ℕ} → Accepted s 1 7 at → le2 s (at + 4) ≡ 5 → head_end s at + 5 ≤ length s
array_inside a ek =
    let h = array_headed a ek in
    let d = array h.rest in
    omega (arith, d.inside, h.rest.fits)

module _ {s : List ℕ} {at : ℕ} {a : Accepted s 1 7 at} where
  -- its kind is an array of the element and the size that stand there
  array_kind : (h : Headed 5 (Flag ∷ Block 1 7 ∷ Block 64 91 ∷ []) a) (d : Array h.rest) →
      kind_of (type_of (tree a)) ≡ ResolvedTypeKind.Array (type_of d.element.got.0) (expr_of d.size.got.0) (eqb (get_or s (head_end s at) 0) 1)
  unfolding type_of view thing_of make_thing form_of part part_or
  array_kind h d = kind_is h d.is

  -- the answer of `array_parts`, with the offsets counted from the end of the head
  array_found : {j : Bool} (h : Headed 5 (Flag ∷ Block 1 7 ∷ Block 64 91 ∷ []) a) → Array h.rest → j ≡ eqb (get_or s (head_end s at) 0) 1 →
      ArrayAt a (record { jagged = j; element = head_end s at + 1; size = head_end s at + 1 + 4 + le4 s (head_end s at + 1) })
  array_found h d ej = record {
    element = d.element;
    size = d.size;
    room = omega (arith, h.low, h.end, d.inside);
    is = array_kind h d ∙ ap (λ (b : Bool). ResolvedTypeKind.Array (type_of d.element.got.0) (expr_of d.size.got.0) b) (sym ej);
    element_at = refl;
    size_at = refl;
  }

-- the same with the offsets as the code computes them
pub array_at : {s : List ℕ} {at q z : ℕ} {j : Bool} → le2 s (at + 4) ≡ 5 → q ≡ head_end s at → j ≡ eqb (get_or s q 0) 1 →
    z ≡ le4 s (q + 1) → (a : Accepted s 1 7 at) →
    ArrayAt a (record { jagged = j; element = q + 1; size = q + 1 + 4 + z })
array_at {s} {at} {q} {z} {j} ek eq ej ez a =
    let h = array_headed a ek in
    let g : j ≡ eqb (get_or s (head_end s at) 0) 1 = ej ∙ ap (λ (n : ℕ). eqb (get_or s n 0) 1) eq in
    subst (λ (w : ℕ). ArrayAt a (record { jagged = j; element = q + 1; size = q + 1 + 4 + w })) (sym ez)
    (subst (λ (n : ℕ). ArrayAt a (record { jagged = j; element = n + 1; size = n + 1 + 4 + le4 s (n + 1) })) (sym eq) (array_found h (array h.rest) g))

-- ---- 4 enum

-- the parts of an enum behind its head, where the tag expression and the list of variants stand
record Enum {s : List ℕ} {q : ℕ} (c : Parts s (Block 64 91 ∷ Blocks 34 34 64 ∷ []) q) : Type 0 where
  tag : Accepted s 64 91 q
  inside : q + 4 + le4 s q + 2 ≤ c.end
  few : le2 s (q + 4 + le4 s q) ≤ 64
  list : Listed s 34 34 (le2 s (q + 4 + le4 s q)) (q + 4 + le4 s q + 2)
  last : Tree
  is : c.got.0 ≡ cons tag.got.0 (cons (cons (num 2 (le2 s (q + 4 + le4 s q))) list.got.0) last)

-- every accepted row of these parts is such
enum : {s : List ℕ} {q : ℕ} (c : Parts s (Block 64 91 ∷ Blocks 34 34 64 ∷ []) q) → Enum c
enum {s} {q} c =
    let b = block_part c in
    let l = list_part Counted.any b.behind.rest in
    record {
      tag = b.child;
      inside = omega (arith, l.inside, b.behind.end);
      few = l.few;
      list = l.list;
      last = l.behind.rest.got.0;
      is = b.behind.tree ∙ ap (λ (t : Tree). cons b.child.got.0 t) l.behind.tree;
    }

-- a type of kind 4 has these parts behind its head
enum_headed : {s : List ℕ} {at : ℕ} (a : Accepted s 1 7 at) → le2 s (at + 4) ≡ 4 → Headed 4 (Block 64 91 ∷ Blocks 34 34 64 ∷ []) a
unfolding parts_of find_row grammar node_table
enum_headed a ek = headed a ek refl

-- the tag and the count of the variants lie inside the bytes
pub enum_inside : {s : List ℕ} {at : ℕ} → Accepted s 1 7 at → le2 s (at + 4) ≡ 4 → head_end s at + 4 + le4 s (head_end s at) + 2 ≤ length s
enum_inside a ek =
    let h = enum_headed a ek in
    let d = enum h.rest in
    omega (arith, d.inside, h.rest.fits)

module _ {s : List ℕ} {at : ℕ} {a : Accepted s 1 7 at} where
  -- its kind is an enum of the tag and the variants that stand there
  enum_kind : (h : Headed 4 (Block 64 91 ∷ Blocks 34 34 64 ∷ []) a) (d : Enum h.rest) →
      kind_of (type_of (tree a)) ≡ ResolvedTypeKind.Enum (expr_of d.tag.got.0) (variants_in (view thing_of d.list.got.0))
  unfolding type_of view thing_of make_thing form_of part part_view
  enum_kind h d = kind_is h d.is

  -- the answer of `enum_parts`, with the offsets counted from the end of the head
  enum_found : (h : Headed 4 (Block 64 91 ∷ Blocks 34 34 64 ∷ []) a) → Enum h.rest →
      EnumAt a (record { tag = head_end s at; count = le2 s (head_end s at + 4 + le4 s (head_end s at)); first = head_end s at + 4 + le4 s (head_end s at) + 2 })
  enum_found h d = record { tag = d.tag; few = d.few; list = d.list; is = enum_kind h d; tag_at = refl; first_at = refl }

-- the same with the offsets as the code computes them
pub enum_at : {s : List ℕ} {at q u : ℕ} {r : ListParts} → le2 s (at + 4) ≡ 4 → q ≡ head_end s at → u ≡ le4 s q →
    r.count ≡ le2 s (q + 4 + u) → r.first ≡ q + 4 + u + 2 → (a : Accepted s 1 7 at) →
    EnumAt a (record { tag = q; count = r.count; first = r.first })
enum_at ek eq eu ec ef a = let h = enum_headed a ek in rw (ec, ef, eu, eq) (enum_found h (enum h.rest))

-- ---- 2 struct, 3 union, 6 size-discriminated union

-- a type whose kind has one part behind its head, a list
pub record Holds {s : List ℕ} {at : ℕ} (a : Accepted s 1 7 at) (k : ℕ) : Type 0 where
  pub inside : head_end s at + 2 ≤ length s
  pub few : le2 s (head_end s at) ≤ 64
  pub list : Listed s k k (le2 s (head_end s at)) (head_end s at + 2)
  pub references : Tree
  pub last : Tree
  pub is : kind_of (type_of (tree a)) ≡ kind_of (type_of (block at (le2 s (at + 4)) (head_tree s at references (cons (cons (num 2 (le2 s (head_end s at))) list.got.0) last))))

-- a type whose kind has a list behind its head is such
holds : {s : List ℕ} {at k : ℕ} (a : Accepted s 1 7 at) → parts_of (le2 s (at + 4)) ≡ Key ∷ Size ∷ Number ∷ Block 32 32 ∷ Blocks k k 64 ∷ [] → Holds a k
holds a ep =
    let h = headed a refl ep in
    let l = list_part Counted.any h.rest in
    record {
      inside = omega (arith, l.inside, h.rest.fits);
      few = l.few;
      list = l.list;
      references = h.references.got.0;
      last = l.behind.rest.got.0;
      is = kind_is h l.behind.tree;
    }

-- a struct and a union hold fields (33)
pub fields_held : {s : List ℕ} {at : ℕ} → 2 ≤ le2 s (at + 4) → le2 s (at + 4) ≤ 3 → (a : Accepted s 1 7 at) → Holds a 33
unfolding parts_of find_row grammar node_table
fields_held {s} {at} lo hi a =
    holds a (each (λ k. parts_of k ≡ Key ∷ Size ∷ Number ∷ Block 32 32 ∷ Blocks 33 33 64 ∷ []) 2 2 (refl, (refl, tt)) (le2 s (at + 4)) lo (omega arith))

-- a size-discriminated union holds variants (35)
pub sized_held : {s : List ℕ} {at : ℕ} → le2 s (at + 4) ≡ 6 → (a : Accepted s 1 7 at) → Holds a 35
unfolding parts_of find_row grammar node_table
sized_held ek a = holds a (ap parts_of ek)

-- what the code reads of a list of fields lies inside the bytes
pub fields_inside : {s : List ℕ} {at : ℕ} → Accepted s 1 7 at → 2 ≤ le2 s (at + 4) → le2 s (at + 4) ≤ 3 → head_end s at + 2 ≤ length s
fields_inside a lo hi = (fields_held lo hi a).inside

-- and of a list of variants
pub sized_inside : {s : List ℕ} {at : ℕ} → Accepted s 1 7 at → le2 s (at + 4) ≡ 6 → head_end s at + 2 ≤ length s
sized_inside a ek = (sized_held ek a).inside

-- what holds of the list that stands behind the head holds of what was read there, at q
told : (s : List ℕ) {q : ℕ} (n : ℕ) {r : ListParts} (P : ListParts → Type 0) → q ≡ n → r.count ≡ le2 s q → r.first ≡ q + 2 →
    P (record { count = le2 s n; first = n + 2 }) → P r
told s n {r} P eq ec ef h =
    subst (λ (c : ℕ). P (record { count = c; first = r.first })) (sym (ec ∙ ap (le2 s) eq))
    (subst (λ (f : ℕ). P (record { count = le2 s n; first = f })) (sym (ef ∙ ap (λ (n : ℕ). n + 2) eq)) h)

module _ {s : List ℕ} {at q : ℕ} {r : ListParts} (eq : q ≡ head_end s at) (ec : r.count ≡ le2 s q) (ef : r.first ≡ q + 2) where
  -- the answer of `field_list`
  pub fields_at : 2 ≤ le2 s (at + 4) → le2 s (at + 4) ≤ 3 → (a : Accepted s 1 7 at) → FieldsAt a r
  unfolding type_of view thing_of make_thing form_of part_view
  fields_at lo hi a =
      let h = fields_held lo hi a in
      let T : Tree = head_tree s at h.references (cons (cons (num 2 (le2 s (head_end s at))) h.list.got.0) h.last) in
      told s (head_end s at) (FieldsAt a) eq ec ef (record {
        few = h.few;
        list = h.list;
        struct = λ e. h.is ∙ ap (λ (k : ℕ). kind_of (type_of (block at k T))) e;
        union = λ e. h.is ∙ ap (λ (k : ℕ). kind_of (type_of (block at k T))) e;
        first_at = refl;
      })

  -- the answer of `sized_list`
  pub sized_at : le2 s (at + 4) ≡ 6 → (a : Accepted s 1 7 at) → SizedAt a r
  unfolding type_of view thing_of make_thing form_of part_view
  sized_at ek a =
      let h = sized_held ek a in
      let T : Tree = head_tree s at h.references (cons (cons (num 2 (le2 s (head_end s at))) h.list.got.0) h.last) in
      told s (head_end s at) (SizedAt a) eq ec ef (record {
        few = h.few;
        list = h.list;
        is = h.is ∙ ap (λ (k : ℕ). kind_of (type_of (block at k T))) ek;
        first_at = refl;
      })

-- ---- 7 type reference

-- the answer of `target`
pub target_at : {s : List ℕ} {at q : ℕ} → q ≡ head_end s at → le2 s (at + 4) ≡ 7 → (a : Accepted s 1 7 at) → TargetAt a q
unfolding parts_of find_row grammar node_table type_of view thing_of make_thing form_of part
target_at {s} {at} eq ek a =
    let h : Headed 7 (Text ∷ []) a = headed a ek refl in
    let t = text_part h.rest in
    subst (TargetAt a) (sym eq) (record { named = named (omega (arith, t.1.inside, h.rest.fits)) t.0; is = kind_is h t.1.tree; name_place = refl })
