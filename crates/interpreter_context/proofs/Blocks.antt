-- The blocks of a layout that are no nodes: type trees, parameters, cases, arguments.
use mathlib.Core.Path.{◌≡◌, refl, sym, ◌∙◌, ap, subst}
use mathlib.Core.List.{List, [], ◌∷◌}
use Prim.Native.Nat.{ℕ, ◌+◌, ◌≤◌}
use native.Mathlib.Omega.{arith}
use lib.ListN.{length}
use Rattle.blocks.specs.declared.Part.TheVariants.{Block, Blocks}
use Rattle.blocks.specs.Bytes.{le2, le4, le8}
use Rattle.blocks.specs.Grammar.{parts_of, find_row, grammar}
use Rattle.blocks.specs.Tree.{Tree, name, num, block, cons, first, rest, body, part}
use Rattle.ir.specs.Layout.{node_of, argument_of, parameter_of, type_ir_of}
use Rattle.accepted.specs.Accepted.{Accepted, tree, Parts, Listed, name_at, Counted}
use Rattle.accepted.proofs.Laws.{opened, sole_kind, key_part, text_part, number_part, block_part, list_part}

-- 164: name, value name
pub record IsArgument {s : List ℕ} {at : ℕ} (a : Accepted s 164 164 at) (v : ℕ) : Type 0 where
  pub name : at + 6 + 2 + le2 s (at + 6) ≤ length s
  pub value : v + 2 + le2 s v ≤ length s
  pub is : argument_of (tree a) ≡ record { at = at; name = name_at s (at + 6); value = name_at s v }

-- every accepted block 164 is one, its value name right behind its name
pub argument : {s : List ℕ} {at v : ℕ} (a : Accepted s 164 164 at) → v ≡ at + 6 + 2 + le2 s (at + 6) → IsArgument a v
unfolding parts_of find_row grammar part
argument {s} {at} {v} a ev =
    let o = opened a (sole_kind a) refl in
    let b = (text_part o.parts).1 in
    let d = (text_part b.rest).1 in
    let g : tree a ≡ block at 164 (cons (name (name_at s (at + 6))) (cons (name (name_at s (at + 6 + 2 + le2 s (at + 6)))) d.rest.got.0)) =
    o.tree ∙ ap (block at 164) (b.tree ∙ ap (λ (z : Tree). cons (name (name_at s (at + 6))) z) d.tree) in
    record {
      name = omega (arith, b.inside, o.parts.fits);
      value = rw ev (omega (arith, d.inside, b.rest.fits));
      is = ap argument_of g ∙ ap (λ (n : ℕ). record { at = at; name = name_at s (at + 6); value = name_at s n }) (sym ev);
    }

-- 162: name, flag with description, derived flag
pub record IsParameter {s : List ℕ} {at : ℕ} (a : Accepted s 162 162 at) : Type 0 where
  pub name : at + 6 + 2 + le2 s (at + 6) ≤ length s
  pub is : (parameter_of (tree a)).name ≡ name_at s (at + 6)

-- every accepted block 162 is one
pub parameter : {s : List ℕ} {at : ℕ} (a : Accepted s 162 162 at) → IsParameter a
unfolding parts_of find_row grammar part
parameter {s} {at} a =
    let o = opened a (sole_kind a) refl in
    let b = (text_part o.parts).1 in
    record {
      name = omega (arith, b.inside, o.parts.fits);
      is = ap (λ (z : Tree). (parameter_of z).name) (o.tree ∙ ap (block at 162) b.tree);
    }

-- 161: name, alignment, root, count, parameters
pub record IsTree {s : List ℕ} {at : ℕ} (a : Accepted s 161 161 at) (r : ℕ) : Type 0 where
  pub name : at + 6 + 2 + le2 s (at + 6) ≤ length s
  pub root : Accepted s 128 144 r
  pub is : (type_ir_of (tree a)).root ≡ node_of (tree root)
  pub low : r + 6 ≤ length s
  pub count : r + 4 + le4 s r + 2 ≤ length s
  pub list : Listed s 162 162 (le2 s (r + 4 + le4 s r)) (r + 4 + le4 s r + 2)
  pub parameters : rest (part 3 (body (tree a))) ≡ list.got.0

-- the last two parts of a type tree begin at r
abbrev LastParts : {s : List ℕ} {at : ℕ} → Accepted s 161 161 at → ℕ → Type 0
LastParts {s} {at} a r =
    (c : Parts s (Block 128 144 ∷ Blocks 162 162 512 ∷ []) r) × (at + 6 + 2 + le2 s (at + 6) ≤ length s) × (u : Tree) × (v : Tree) × (tree a ≡ block at 161 (cons u (cons v c.got.0)))

-- they stand behind its name and its alignment
tree_parts : {s : List ℕ} {at r : ℕ} (a : Accepted s 161 161 at) → r ≡ at + 6 + 2 + le2 s (at + 6) + 8 → LastParts a r
unfolding parts_of find_row grammar
tree_parts {s} {at} {r} a er =
    let o = opened a (sole_kind a) refl in
    let b = (key_part o.parts).2 in
    let d = number_part b.rest in
    subst (LastParts a) (sym er) (
      d.rest,
      omega (arith, b.inside, o.parts.fits),
      name (name_at s (at + 6)),
      num 8 (le8 s (at + 6 + 2 + le2 s (at + 6))),
      o.tree
          ∙ ap (block at 161) (b.tree ∙ ap (λ (z : Tree). cons (name (name_at s (at + 6))) z) d.tree),
    )

-- what these two parts say of the type tree
tree_root : {s : List ℕ} {at r : ℕ} (a : Accepted s 161 161 at) (c : Parts s (Block 128 144 ∷ Blocks 162 162 512 ∷ []) r) → at + 6 + 2 + le2 s (at + 6) ≤ length s →
    (u v : Tree) → tree a ≡ block at 161 (cons u (cons v c.got.0)) → IsTree a r
unfolding part
tree_root {s} {at} {r} a c h u v e =
    let b = block_part c in
    let l = list_part Counted.any b.behind.rest in
    let k = opened b.child refl refl in
    record {
      name = h;
      root = b.child;
      is = ap (λ (z : Tree). (type_ir_of z).root) e ∙ ap (λ (z : Tree). node_of (first z)) b.behind.tree;
      low = omega (arith, k.long, k.high, b.child.fits);
      count = omega (arith, l.inside, b.behind.rest.fits);
      list = l.list;
      parameters = ap (λ (z : Tree). rest (part 3 (body z))) e ∙ ap (λ (z : Tree). rest (first (rest z))) b.behind.tree ∙ ap (λ (z : Tree). rest (first z)) l.behind.tree;
    }

-- every accepted block 161 is one, its root behind its name and its alignment
pub type_tree : {s : List ℕ} {at r : ℕ} (a : Accepted s 161 161 at) → r ≡ at + 6 + 2 + le2 s (at + 6) + 8 → IsTree a r
type_tree a er = let x = tree_parts a er in tree_root a x.0 x.1 x.2 x.3 x.4
