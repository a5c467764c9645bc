-- The blocks inside a type that begin with a name: fields (33), variants (34, 35), owners (37).
use mathlib.Core.Path.{◌≡◌, refl, sym, ◌∙◌, ap, subst}
use mathlib.Core.Bool.{Bool, true, false, cond}
use mathlib.Core.List.{List, [], ◌∷◌}
use mathlib.Core.Option.{Option, some, none}
use Prim.Native.Nat.{ℕ, ◌+◌, ◌≤◌}
use Rattle.std.specs.Prelude.{Some, None}
use native.Mathlib.Omega.{arith}
use lib.Dec.{eqb}
use lib.ListN.{length, get_or}
use borrow.Author.Tests.{eq-eqb, ne_eqb}
use Rattle.blocks.specs.declared.Part.TheVariants.{Text, Number, Block}
use Rattle.blocks.specs.Bytes.{le2, le8}
use Rattle.blocks.specs.Grammar.{parts_of, find_row, grammar, node_table}
use Rattle.blocks.specs.Tree.{Tree, name, num, block, nil, cons, number, text, part, optional, view, part_or}
use Rattle.resolved.specs.Resolved.{fields, variants}
use Rattle.resolved.specs.Set.{owner_of, type_of, thing_of, make_thing, form_of, fields_in, variants_in}
use Rattle.accepted.specs.Accepted.{Accepted, tree, name_at, Counted}
use Rattle.accepted.proofs.Laws.{opened, sole_kind, each, behind_at, optional_tree, text_part, key_part, number_part, opt_number_part, block_part, list_part}
use Rattle.resolved_parts.specs.Places.{name_end}
use Rattle.resolved_parts.specs.Types.{Named, FieldAt, VariantAt, PathsAt, OwnerAt}
use Rattle.resolved_parts.proofs.Laws.{named}

-- ---- 37 owner

-- the parts of an owner: its name and its paths
record Owned {s : List ℕ} {at : ℕ} (a : Accepted s 37 37 at) : Type 0 where
  named : Named s (at + 6)
  paths : PathsAt s (name_end s at)
  last : Tree
  is : a.got.0 ≡ block at 37 (cons (name (name_at s (at + 6))) (cons (cons (num 2 (le2 s (name_end s at))) paths.list.got.0) last))

-- every accepted owner is such
owned : {s : List ℕ} {at : ℕ} (a : Accepted s 37 37 at) → Owned a
unfolding parts_of find_row grammar node_table
owned {s} {at} a =
    let o = opened a (sole_kind a) refl in
    let k = key_part o.parts in
    let l = list_part Counted.paths k.2.rest in
    record {
      named = named (omega (arith, k.2.inside, o.parts.fits)) k.0;
      paths = record { inside = omega (arith, l.inside, k.2.rest.fits); few = l.few; list = l.list };
      last = l.behind.rest.got.0;
      is = o.tree ∙ ap (block at 37) (k.2.tree ∙ ap (λ (t : Tree). cons (name (name_at s (at + 6))) t) l.behind.tree);
    }

-- the name of an owner lies inside the bytes
pub owner_named : {s : List ℕ} {at : ℕ} → Accepted s 37 37 at → Named s (at + 6)
owner_named a = (owned a).named

-- and so does its end
pub owner_inside : {s : List ℕ} {at : ℕ} → Accepted s 37 37 at → name_end s at ≤ length s
owner_inside a = (owner_named a).inside

-- the answer of `owner_paths`
pub owner_at : {s : List ℕ} {at q : ℕ} → q ≡ name_end s at → (a : Accepted s 37 37 at) → OwnerAt a q
unfolding part
owner_at eq a =
    let o = owned a in
    subst (OwnerAt a) (sym eq) (record { named = o.named; paths = o.paths; is = ap owner_of o.is; paths_at = refl })

-- ---- 34, 35 variant

-- the parts of a variant: its name, its number and its type
record Variant {s : List ℕ} {k at : ℕ} (a : Accepted s k k at) : Type 0 where
  named : Named s (at + 6)
  type : Accepted s 1 7 (name_end s at + 8)
  inside : name_end s at + 8 + 4 ≤ length s
  last : Tree
  is : a.got.0 ≡ block at k (cons (name (name_at s (at + 6))) (cons (num 8 (le8 s (name_end s at))) (cons type.got.0 last)))

-- every accepted block of these parts is such
variant : {s : List ℕ} {k at : ℕ} (a : Accepted s k k at) → parts_of k ≡ Text ∷ Number ∷ Block 1 7 ∷ [] → Variant a
variant {s} {k} {at} a ep =
    let o = opened a (sole_kind a) ep in
    let t = text_part o.parts in
    let n = number_part t.1.rest in
    let b = block_part n.rest in
    record {
      named = named (omega (arith, t.1.inside, o.parts.fits)) t.0;
      type = b.child;
      inside = omega (arith, b.behind.inside, n.rest.fits);
      last = b.behind.rest.got.0;
      is =
          o.tree ∙
          ap (block at k) (t.1.tree ∙ ap (λ (t : Tree). cons (name (name_at s (at + 6))) t) (n.tree ∙ ap (λ (t : Tree). cons (num 8 (le8 s (name_end s at))) t) b.behind.tree));
    }

-- the kinds 34 and 35 have these parts
variant_parts : (k : ℕ) → 34 ≤ k → k ≤ 35 → parts_of k ≡ Text ∷ Number ∷ Block 1 7 ∷ []
unfolding parts_of find_row grammar node_table
variant_parts k lo hi = each (λ k. parts_of k ≡ Text ∷ Number ∷ Block 1 7 ∷ []) 2 34 (refl, (refl, tt)) k lo (omega arith)

-- the typed view of a block of these parts, before other variants
variant_is : (at : ℕ) (n v t x u : Tree) (k : ℕ) → 34 ≤ k → k ≤ 35 →
    variants (variants_in (view thing_of (cons (block at k (cons n (cons v (cons t x)))) u))) ≡
    record { name = text n; number = number v; variant_type = type_of t } ∷ variants (variants_in (view thing_of u))
unfolding view thing_of make_thing form_of variants variants_in type_of part part_or
variant_is at n v t x u k lo hi =
    each
    (λ k. variants (variants_in (view thing_of (cons (block at k (cons n (cons v (cons t x)))) u))) ≡
    record { name = text n; number = number v; variant_type = type_of t } ∷ variants (variants_in (view thing_of u)))
    2 34 (refl, (refl, tt)) k lo (omega arith)

module _ {s : List ℕ} {k at : ℕ} (lo : 34 ≤ k) (hi : k ≤ 35) where
  -- what the code reads of a variant lies inside the bytes
  pub variant_inside : Accepted s k k at → name_end s at + 8 + 4 ≤ length s
  variant_inside a = (variant a (variant_parts k lo hi)).inside

  -- the answer of `variant_parts`
  pub variant_at : {p v : ℕ} → p ≡ name_end s at → v ≡ le8 s p → (a : Accepted s k k at) → VariantAt a (record { number = v; kind = p + 8 })
  variant_at {p} ep ev a =
      let d = variant a (variant_parts k lo hi) in
      subst (λ (n : ℕ). VariantAt a (record { number = n; kind = p + 8 })) (sym ev)
      (subst (λ (n : ℕ). VariantAt a (record { number = le8 s n; kind = n + 8 })) (sym ep) (record {
        named = d.named;
        type = d.type;
        type_at = refl;
        is = λ u. ap (λ (t : Tree). variants (variants_in (view thing_of (cons t u)))) d.is ∙
            variant_is at (name (name_at s (at + 6))) (num 8 (le8 s (name_end s at))) d.type.got.0 d.last u k lo hi;
      }))

-- ---- 33 field

-- its type begins at q
record Field {s : List ℕ} {at : ℕ} (q : ℕ) (a : Accepted s 33 33 at) : Type 0 where
  named : Named s (at + 6)
  type : Accepted s 1 7 q
  inside : q + 4 ≤ length s
  last : Tree
  is : a.got.0 ≡ block at 33 (cons (name (name_at s (at + 6))) (cons (optional_tree s (name_end s at) 1 (num 8 (le8 s (name_end s at + 1)))) (cons type.got.0 last)))

-- every accepted field is such, where q is the offset behind its optional number
field : {s : List ℕ} {at q : ℕ} (a : Accepted s 33 33 at) → cond (eqb (get_or s (name_end s at) 0) 1) (name_end s at + 1 + 8) (name_end s at + 1) ≡ q → Field q a
unfolding parts_of find_row grammar node_table
field {s} {at} a eq =
    let o = opened a (sole_kind a) refl in
    let t = text_part o.parts in
    let n = behind_at eq (opt_number_part t.1.rest) in
    let b = block_part n.rest in
    record {
      named = named (omega (arith, t.1.inside, o.parts.fits)) t.0;
      type = b.child;
      inside = omega (arith, b.behind.inside, n.rest.fits);
      last = b.behind.rest.got.0;
      is =
          o.tree ∙
          ap (block at 33) (t.1.tree ∙ ap (λ (t : Tree). cons (name (name_at s (at + 6))) t) (n.tree ∙
          ap (λ (t : Tree). cons (optional_tree s (name_end s at) 1 (num 8 (le8 s (name_end s at + 1)))) t) b.behind.tree));
    }

module _ {s : List ℕ} {at : ℕ} where
  -- where its flag says that it has an offset, and where it says that it has none
  field_placed : (a : Accepted s 33 33 at) → get_or s (name_end s at) 0 ≡ 1 → Field (name_end s at + 1 + 8) a
  field_placed a e = field a (ap (λ (b : Bool). cond b (name_end s at + 1 + 8) (name_end s at + 1)) (eq-eqb _ 1 e))

  -- a field without an offset: its type stands behind the flag
  field_free : (a : Accepted s 33 33 at) → (get_or s (name_end s at) 0 ≡ 1 → ⊥) → Field (name_end s at + 1) a
  field_free a e = field a (ap (λ (b : Bool). cond b (name_end s at + 1 + 8) (name_end s at + 1)) (ne_eqb _ 1 e))

  -- the typed view of a field, before other fields
  field_is : {q : ℕ} {o : Option ℕ} (a : Accepted s 33 33 at) (d : Field q a) →
      optional number (optional_tree s (name_end s at) 1 (num 8 (le8 s (name_end s at + 1)))) ≡ o → (u : Tree) →
      fields (fields_in (view thing_of (cons (tree a) u))) ≡ record { name = name_at s (at + 6); offset = o; field_type = type_of d.type.got.0 } ∷ fields (fields_in (view thing_of u))
  unfolding view thing_of make_thing form_of fields fields_in type_of part part_or
  field_is a d e u = ap (λ (t : Tree). fields (fields_in (view thing_of (cons t u)))) d.is ∙
      ap (λ (o : Option ℕ). record { name = name_at s (at + 6); offset = o; field_type = type_of d.type.got.0 } ∷ fields (fields_in (view thing_of u))) e

-- a flag of 1 gives the number behind it
some_offset : (b w : ℕ) → b ≡ 1 → optional number (cons (num 1 b) (cond (eqb b 1) (num 8 w) nil)) ≡ some w
some_offset b w e = rw e

-- any other flag gives none
no_offset : (b w : ℕ) → (b ≡ 1 → ⊥) → optional number (cons (num 1 b) (cond (eqb b 1) (num 8 w) nil)) ≡ none
no_offset b w e = rw (ne_eqb b 1 e)

-- what the code reads of a field lies inside the bytes
pub field_inside : {s : List ℕ} {at : ℕ} → Accepted s 33 33 at → name_end s at + 5 ≤ length s
field_inside {s} {at} a = go (eqb (get_or s (name_end s at) 0) 1) (field a refl).inside
  where
    go : (b : Bool) → cond b (name_end s at + 1 + 8) (name_end s at + 1) + 4 ≤ length s → name_end s at + 5 ≤ length s
    go true h = omega arith
    go false h = omega arith

-- and, where its flag says that it has an offset, the offset too
pub offset_inside : {s : List ℕ} {at p : ℕ} → Accepted s 33 33 at → p ≡ name_end s at → get_or s p 0 ≡ 1 → p + 13 ≤ length s
offset_inside {s} {at} {p} a ep e = omega (arith, ep, (field_placed a (ap (λ (n : ℕ). get_or s n 0) (sym ep) ∙ e)).inside)

pub ruleset field_insides = (field_inside, offset_inside)

module _ {s : List ℕ} {at p : ℕ} (ep : p ≡ name_end s at) where
  -- the answer of `field_parts` where there is an offset
  pub field_some : {v : ℕ} → get_or s p 0 ≡ 1 → v ≡ le8 s (p + 1) → (a : Accepted s 33 33 at) →
      FieldAt a (record { offset = Some v; kind = p + 1 + 8 })
  field_some {v} e ev a =
      let f : get_or s (name_end s at) 0 ≡ 1 = ap (λ (n : ℕ). get_or s n 0) (sym ep) ∙ e in
      let d = field_placed a f in
      subst (λ (n : ℕ). FieldAt a (record { offset = Some n; kind = p + 1 + 8 })) (sym ev)
      (subst (λ (n : ℕ). FieldAt a (record { offset = Some (le8 s (n + 1)); kind = n + 1 + 8 })) (sym ep) (record {
        named = d.named;
        type = d.type;
        type_at = refl;
        is = field_is a d (some_offset _ _ f);
      }))

  -- the answer where there is none
  pub field_none : (get_or s p 0 ≡ 1 → ⊥) → (a : Accepted s 33 33 at) → FieldAt a (record { offset = None; kind = p + 1 })
  field_none e a =
      let f : get_or s (name_end s at) 0 ≡ 1 → ⊥ = λ g. e (ap (λ (n : ℕ). get_or s n 0) ep ∙ g) in
      let d = field_free a f in
      subst (λ (n : ℕ). FieldAt a (record { offset = None; kind = n + 1 })) (sym ep) (record {
        named = d.named;
        type = d.type;
        type_at = omega arith;
        is = field_is a d (no_offset _ _ f);
      })
