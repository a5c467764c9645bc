-- What the first block of a name says of a set and of a layout.
use mathlib.Core.Path.{◌≡◌, refl, sym, ◌∙◌, ap, subst}
use mathlib.Core.Bool.{Bool, true, false, cond}
use mathlib.Core.List.{List, ◌∷◌}
use mathlib.Core.Option.{Option as option, some, none}
use Prim.Native.Nat.{ℕ, suc, ◌+◌, ◌≤◌}
use native.Mathlib.Numerals.{add-one}
use native.Mathlib.Omega.{arith}
use lib.ListN.{length}
use Rattle.errors.specs.Refusal.{Outcome, done, refused, plain, UnknownType}
use Rattle.blocks.specs.declared.Part.{Part}
use Rattle.blocks.specs.declared.Part.TheVariants.{Key}
use Rattle.blocks.specs.Bytes.{le2}
use Rattle.blocks.specs.Name.{Name, same}
use Rattle.blocks.specs.Blocks.{block_at, Stand}
use Rattle.blocks.proofs.Blocks.{passed_at}
use Rattle.blocks.specs.Grammar.{parts_of, find_row, grammar, node_table}
use Rattle.blocks.specs.Tree.{Tree, name, num, block, nil, cons, body, part, text, rest, entries, view}
use Rattle.blocks.specs.Read.{read_set, read_layout}
use Rattle.accepted.specs.Accepted.{Accepted, Listed, Counted}
use Rattle.accepted.proofs.Laws.{opened, each, All, all_entries, sole, input}
use Rattle.accepted.proofs.Named.{Keys, first_named, stand, named_first, named_none}
use Rattle.std.specs.Prelude.{Option, Some, None}
use Rattle.wire.specs.declared.Position.{Position}
use Rattle.wire.specs.Named.{BlockNamed}
use Rattle.resolved.specs.Resolved.{ResolvedType, head, get_type_info}
use Rattle.resolved.specs.Set.{type_of, types_of, thing_of, make_thing, form_of}
use Rattle.ir.specs.Ir.{TypeIr}
use Rattle.ir.specs.Layout.{type_ir_of, layout_of}
use Rattle.interpreter.specs.Eval.{lookup_type}
use Rattle.lookup.specs.Found.{types_before, TypeFound, TreeFound}

-- ---- the kinds of types and of type trees begin with a name

-- the kinds of types do
type_keyed : Keys 1 7
unfolding parts_of find_row grammar node_table
type_keyed k a b = each (λ k. (ps : List Part) × (parts_of k ≡ Key ∷ ps)) 7 1 ((_, refl), ((_, refl), ((_, refl), ((_, refl), ((_, refl), ((_, refl), ((_, refl), tt))))))) k a (omega arith)

-- the name that a type's block begins with is the type's name
type_named : (at : ℕ) (t : Tree) (k : ℕ) → 1 ≤ k → k ≤ 7 → (head (type_of (block at k t))).name ≡ text (part 0 t)
unfolding type_of view thing_of make_thing form_of
type_named at t k a b = each (λ k. (head (type_of (block at k t))).name ≡ text (part 0 t)) 7 1 (refl, (refl, (refl, (refl, (refl, (refl, (refl, tt))))))) k a (omega arith)

-- and so does the kind of type trees
pub tree_keyed : Keys 161 161
unfolding parts_of find_row grammar node_table
tree_keyed k a b = each (λ k. (ps : List Part) × (parts_of k ≡ Key ∷ ps)) 1 161 ((_, refl), tt) k a (omega arith)

-- ---- lists

-- the types of a set, as a list of accepted blocks
pub set_list : {s : List ℕ} {t : Tree} → read_set s ≡ done t → (8 ≤ length s) × (l : Listed s 1 7 (le2 s 6) 8) × (types_of t ≡ entries type_of l.got.0) × (le2 s 6 ≤ 256)
unfolding types_of parts_of find_row grammar node_table
set_list {s} e =
    let a = input 32 36 s e in
    let o = sole a.0 refl Counted.distinct in
    (o.inside, o.list, ap (λ (z : Tree × ℕ). entries type_of (rest (part 0 (body z.0)))) (sym a.1) ∙ ap (entries type_of) o.tree, o.few)

-- the type trees of a layout
layout_list : {s : List ℕ} {t : Tree} → read_layout s ≡ done t → (8 ≤ length s) × (l : Listed s 161 161 (le2 s 6) 8) × (layout_of t ≡ entries type_ir_of l.got.0)
unfolding layout_of parts_of find_row grammar node_table
layout_list {s} e =
    let a = input 256 160 s e in
    let o = sole a.0 refl Counted.distinct in
    (o.inside, o.list, ap (λ (z : Tree × ℕ). entries type_ir_of (rest (part 0 (body z.0)))) (sym a.1) ∙ ap (entries type_ir_of) o.tree)

-- ---- the first block of a name is the first type, or type tree, of that name

-- the type that a block stands for has the block's name
abbrev Titled : Tree → Type 0
Titled u = (head (type_of u)).name ≡ text (part 0 (body u))

-- which holds of every accepted type
titled : {s : List ℕ} (at : ℕ) (a : Accepted s 1 7 at) → Titled a.got.0
titled {s} at a =
    let o = opened a refl refl in
    subst Titled (sym o.tree) (type_named at o.parts.got.0 (le2 s (at + 4)) o.least o.most)

-- the type of the block that was found
abbrev typed : option (ℕ × Tree) → option ResolvedType
typed none = none
typed (some x) = some (type_of x.1)

-- the first type of a name is the one of the first block of it
types_same : (n : Name) (i : ℕ) {u : Tree} → All Titled u → get_type_info n (entries type_of u) ≡ typed (first_named n i u)
unfolding get_type_info first_named entries
types_same n i All.none = refl
types_same n i (All.more {a} {b} h g) = rw h (go (same n (text (part 0 (body a)))) (types_same n (i + 1) g))
  where
    go : (t : Bool) → get_type_info n (entries type_of b) ≡ typed (first_named n (i + 1) b) →
        cond t (some (type_of a)) (get_type_info n (entries type_of b)) ≡ typed (cond t (some (i, a)) (first_named n (i + 1) b))
    go true e = refl
    go false e = e

-- the place of the first block of a name is the number of types before the first of that name
first_place : (n : Name) (i j : ℕ) {u a : Tree} → All Titled u → first_named n i u ≡ some (j, a) → j ≡ i + types_before n (entries type_of u)
unfolding types_before first_named entries
first_place n i j All.none e = let z : ◌≡◌ {A = ℕ} 0 1 = cc in absurd (omega arith)
first_place n i j {a = x} (All.more {a} {b} h g) e = rw h (go (same n (text (part 0 (body a)))) e (λ f. first_place n (i + 1) j g f))
  where
    go : (t : Bool) → cond t (some (i, a)) (first_named n (i + 1) b) ≡ some (j, x) → (first_named n (i + 1) b ≡ some (j, x) → j ≡ i + 1 + types_before n (entries type_of b)) →
        j ≡ i + cond t 0 (types_before n (entries type_of b) + 1)
    go true f r =
        let y : ◌≡◌ {A = ℕ × Tree} (i, a) (j, x) = cc in
        omega (arith, ap (λ (z : ℕ × Tree). z.0) y)
    go false f r = let z = r f in omega arith

-- the type tree of the block that was found, with its place
abbrev pub looked : option (ℕ × Tree) → Outcome (ℕ × TypeIr)
looked none = refused (plain UnknownType)
looked (some x) = done (x.0, type_ir_of x.1)

-- the first type tree of a name is the one of the first block of it
pub trees_same : (n : Name) (i : ℕ) (u : Tree) → lookup_type i n (entries type_ir_of u) ≡ looked (first_named n i u)
unfolding lookup_type first_named entries
trees_same n i (name m) = refl
trees_same n i (num w v) = refl
trees_same n i (block at k t) = refl
trees_same n i nil = refl
trees_same n i (cons a b) = go (same n (text (part 0 (body a)))) (rw add-one at (trees_same n (i + 1) b))
  where
    go : (t : Bool) → lookup_type (suc i) n (entries type_ir_of b) ≡ looked (first_named n (suc i) b) →
        elim t [ true ↦ done (i, type_ir_of a) | false ↦ lookup_type (suc i) n (entries type_ir_of b) ] ≡ looked (cond t (some (i, a)) (first_named n (i + 1) b))
    go true e = refl
    go false e = rw add-one e

-- ---- in the code's form: u is the count that was read, r what the search among so many blocks answered

-- the offset alone
abbrev offset_of : Option Position → Option ℕ
offset_of (Some x) = Some x.at
offset_of None = None

-- the names of a set's types lie inside the bytes
pub set_stands : (s : List ℕ) {t : Tree} (u : ℕ) → read_set s ≡ done t → u ≡ le2 s 6 → Stand s 8 u
set_stands s u e g = let l = set_list e in subst (Stand s 8) (sym g) (stand type_keyed l.1)

-- and those of a layout's type trees
pub layout_stands : (s : List ℕ) {t : Tree} (u : ℕ) → read_layout s ≡ done t → u ≡ le2 s 6 → Stand s 8 u
layout_stands s u e g = let l = layout_list e in subst (Stand s 8) (sym g) (stand tree_keyed l.1)

module _ {s : List ℕ} {n : Name} {u : ℕ} {r : Option Position} (g : u ≡ le2 s 6) (f : BlockNamed s n 8 u r) where
  -- what it answers in a set
  set_found : (t : Tree) → read_set s ≡ done t → TypeFound s n (types_of t) (offset_of r)
  set_found t e =
      let l = set_list e in
      subst (λ (ts : List ResolvedType). TypeFound s n ts (offset_of r)) (sym l.2) (go l.1 (subst (λ (m : ℕ). BlockNamed s n 8 m r) g f))
    where
      go : {r : Option Position} (l : Listed s 1 7 (le2 s 6) 8) → BlockNamed s n 8 (le2 s 6) r → TypeFound s n (entries type_of l.got.0) (offset_of r)
      go l (BlockNamed.at {i} h p e) =
          let w = named_first type_keyed p h e l in
          let t = all_entries Titled titled l in
          let q : i ≡ types_before n (entries type_of l.got.0) = omega (arith, first_place n 0 i t w.1) in
          TypeFound.at w.0 (types_same n 0 t ∙ ap typed w.1) (passed_at p ∙ ap (block_at s 8) q)
      go l (BlockNamed.missing p) = TypeFound.missing (types_same n 0 (all_entries Titled titled l) ∙ ap typed (named_none type_keyed p l))

  -- it answered with a block
  pub type_there : {x : Position} → r ≡ Some x → (t : Tree) → read_set s ≡ done t → TypeFound s n (types_of t) (Some x.at)
  type_there h t e = subst (λ (q : Option Position). TypeFound s n (types_of t) (offset_of q)) h (set_found t e)

  -- it answered that there is none
  pub type_missing : r ≡ None → (t : Tree) → read_set s ≡ done t → TypeFound s n (types_of t) None
  type_missing h t e = subst (λ (q : Option Position). TypeFound s n (types_of t) (offset_of q)) h (set_found t e)

  -- what it answers in a layout
  pub tree_found : (t : Tree) → read_layout s ≡ done t → TreeFound s n (layout_of t) r
  tree_found t e =
      let l = layout_list e in
      subst (λ (ts : List TypeIr). TreeFound s n ts r) (sym l.2) (go l.1 (subst (λ (m : ℕ). BlockNamed s n 8 m r) g f))
    where
      go : {r : Option Position} (l : Listed s 161 161 (le2 s 6) 8) → BlockNamed s n 8 (le2 s 6) r → TreeFound s n (entries type_ir_of l.got.0) r
      go l (BlockNamed.at h p e) =
          let w = named_first tree_keyed p h e l in
          TreeFound.at w.0 (h, passed_at p) (trees_same n 0 l.got.0 ∙ ap looked w.1)
      go l (BlockNamed.missing p) = TreeFound.missing (trees_same n 0 l.got.0 ∙ ap looked (named_none tree_keyed p l))
