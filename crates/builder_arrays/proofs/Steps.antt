-- An array by the definition, step by step. Assumes nothing.
use mathlib.Core.Path.{◌≡◌, refl, sym, ◌∙◌, ap}
use mathlib.Core.Bool.{Bool, true, false, ◌&&◌}
use mathlib.Core.List.{List}
use mathlib.Core.Option.{some, none}
use Prim.Native.Nat.{ℕ, ◌+◌, ◌≤◌, ◌<◌}
use native.Mathlib.Numerals.{add-one}
use native.Mathlib.Omega.{arith}
use lib.Dec.{leb}
use borrow.Author.Tests.{leb-true, leb-false}
use Rattle.errors.specs.Refusal.{Outcome, done, refused, plain, UnsupportedArrayElement}
use Rattle.errors.specs.Refusal.{◌>>=◌ as ◌and_then◌}
use Rattle.blocks.specs.Bytes.{le2}
use Rattle.blocks.specs.Name.{Name}
use Rattle.blocks.specs.Tree.{Tree, block, view, flag, part}
use Rattle.accepted.specs.Accepted.{Accepted, tree}
use Rattle.accepted.proofs.Laws.{opened, each}
use Rattle.expr.specs.Expr.{ExprKind}
use Rattle.resolved.specs.Resolved.{Size, ResolvedType, ResolvedTypeKind, head, kind_of, target_of, jagged_of}
use Rattle.resolved.specs.Set.{type_of, thing_of, make_thing, form_of}
use Rattle.ir.specs.Ir.{IrNode, aligned, unplaced}
use Rattle.builder.specs.Names.{extend_element_prefix}
use Rattle.builder.specs.Registry.{Registry, Build, ◌>>=◌, give, extend_with}
use Rattle.builder.specs.Nodes.{product, is_variable, build_expr_ir, build_element, build_elements, build_array_node_with_prefix, build_array_kind}
use Rattle.builder.proofs.Steps.{need_some, need_none}
use Rattle.builder_paths.specs.Joined.{prefix_of}
use Rattle.builder_nodes.proofs.Laws.{step_assoc, step_same}
use Rattle.builder_arrays.specs.Array.{counted, summed}

-- ---- actions

-- an action between a value and what is done with it
module _ {A B : Type 0} (m : Build A) (x : Build Unit) (k : A → Build B) where
  -- the action comes before what is done with the value: first all of it, then that
  pub between : (g : Registry) → (m >>= (λ a. x >>= (λ _. k a))) g ≡ ((m >>= (λ a. x >>= (λ _. give a))) >>= k) g
  unfolding ◌>>=◌ ◌and_then◌ give
  between g =
      step_same m g (λ a. x >>= (λ _. k a)) (λ a. (x >>= (λ _. give a)) >>= k) (λ a h. sym (step_assoc x h (λ _. give a) k))
      ∙ sym (step_assoc m g (λ a. x >>= (λ _. give a)) k)

-- ---- an array

-- the element as it is built inside
abbrev pub element_of : Name → Name → ResolvedType → Build IrNode
element_of owner prefix t = build_element (build_array_node_with_prefix owner (extend_element_prefix prefix) t) (head t).size (head t).alignment (kind_of t)

module _ (owner prefix : Name) (t e : ResolvedType) (x : ExprKind) (j : Bool) (g : Registry) (k : kind_of t ≡ ResolvedTypeKind.Array e x j) where
  -- an array by its head and its kind
  by_kind : (u : ResolvedType) → build_array_node_with_prefix owner prefix u ≡ build_array_kind owner prefix (head u) (kind_of u)
  unfolding build_array_node_with_prefix
  by_kind (ResolvedType.resolved h w) = refl

  -- the count, then the elements, which sum or multiply
  abbrev steps : Bool → Outcome (IrNode × Registry)
  steps b =
      (build_expr_ir owner prefix x >>= (λ count. build_elements (build_array_node_with_prefix owner (extend_element_prefix prefix) e)
      (head t) owner count b (head e) (kind_of e))) g

  -- the definition of an array, in these steps
  array_steps : build_array_node_with_prefix owner prefix t g ≡ steps (j && is_variable (head e).size)
  unfolding build_array_kind
  array_steps = ap (λ (m : Build IrNode). m g) (by_kind t ∙ ap (build_array_kind owner prefix (head t)) k)

  -- a jagged array of variable elements
  pub array_sums : (j && is_variable (head e).size) ≡ true → build_array_node_with_prefix owner prefix t g ≡ summed (head t) owner prefix x (kind_of e) g
  unfolding build_elements summed
  array_sums b = array_steps ∙ ap steps b

  -- every other array
  pub array_multiplies : (j && is_variable (head e).size) ≡ false →
      build_array_node_with_prefix owner prefix t g ≡
      (counted owner prefix x (head e).dynamic_params >>= (λ count. element_of owner prefix e >>= (λ element. give (product (head t) count element)))) g
  unfolding build_elements counted
  array_multiplies b =
      array_steps ∙ ap steps b
      ∙ between (build_expr_ir owner prefix x) (extend_with (head e).dynamic_params) (λ count. element_of owner prefix e >>= (λ element. give (product (head t) count element))) g

-- ---- an element

module _ (inside : Build IrNode) (a : ℕ) (k : ResolvedTypeKind) (g : Registry) {z : Size} where
  -- an element of constant size is a constant
  pub element_constant : {v : ℕ} → z ≡ Size.Const v → build_element inside z a k g ≡ done (IrNode.Const unplaced (aligned a) v, g)
  unfolding build_element give
  element_constant e = rw e

  -- an element of variable size that is an array is built inside
  pub element_inside : {j : Bool} → z ≡ Size.Variable → jagged_of k ≡ some j → build_element inside z a k g ≡ inside g
  unfolding build_element
  element_inside e f = rw e (need_some UnsupportedArrayElement (λ _. inside) g f)

  -- any other element of variable size is refused: 13
  pub element_refused : z ≡ Size.Variable → jagged_of k ≡ none → build_element inside z a k g ≡ refused (plain 13)
  unfolding build_element
  element_refused e f = rw e (need_none UnsupportedArrayElement (λ _. inside) g f)

-- one array deeper
pub deeper : (depth : ℕ) → prefix_of (depth + 1) ≡ extend_element_prefix (prefix_of depth)
unfolding prefix_of
deeper depth = rw (add-one depth)

-- ---- the kinds of types

-- a type of this kind is no type reference
abbrev NoTarget : ℕ → ℕ → Type 0
NoTarget at k = (t : Tree) → target_of (kind_of (type_of (block at k t))) ≡ none

-- a type of this kind is no array
abbrev NoArray : ℕ → ℕ → Type 0
NoArray at k = (t : Tree) → jagged_of (kind_of (type_of (block at k t))) ≡ none

-- the kinds 1 to 6 are no type references
no_target : (at k : ℕ) → 1 ≤ k → k < 7 → NoTarget at k
unfolding type_of view thing_of make_thing form_of
no_target at k l h = each (NoTarget at) 6 1 ((λ t. refl), ((λ t. refl), ((λ t. refl), ((λ t. refl), ((λ t. refl), ((λ t. refl), tt)))))) k l (omega arith)

-- the kinds 1 to 4 are no arrays
array_below : (at k : ℕ) → 1 ≤ k → k < 5 → NoArray at k
unfolding type_of view thing_of make_thing form_of
array_below at k l h = each (NoArray at) 4 1 ((λ t. refl), ((λ t. refl), ((λ t. refl), ((λ t. refl), tt)))) k l (omega arith)

-- the kinds 6 and 7 are no arrays
array_above : (at k : ℕ) → 6 ≤ k → k ≤ 7 → NoArray at k
unfolding type_of view thing_of make_thing form_of
array_above at k l h = each (NoArray at) 2 6 ((λ t. refl), ((λ t. refl), tt)) k l (omega arith)

-- kind 5 is an array, with its flag
an_array : (at : ℕ) (t : Tree) → jagged_of (kind_of (type_of (block at 5 t))) ≡ some (flag (part 4 t))
unfolding type_of view thing_of make_thing form_of
an_array at t = refl

module _ {s : List ℕ} {at : ℕ} (a : Accepted s 1 7 at) where
  -- an accepted type of kind 5 is an array
  pub is_array : le2 s (at + 4) ≡ 5 → (j : Bool) × (jagged_of (kind_of (type_of (tree a))) ≡ some j)
  is_array e =
      let o = opened a e refl in
      (flag (part 4 o.parts.got.0), ap (λ (t : Tree). jagged_of (kind_of (type_of t))) o.tree ∙ an_array at o.parts.got.0)

  -- an accepted type of another kind than 7 is no type reference
  pub not_target : (le2 s (at + 4) ≡ 7 → ⊥) → target_of (kind_of (type_of (tree a))) ≡ none
  not_target h =
      let o = opened a refl refl in
      rw o.tree (no_target at (le2 s (at + 4)) o.least (omega (arith, o.most)) o.parts.got.0)

  -- an accepted type of another kind than 5 is no array
  pub not_array : (le2 s (at + 4) ≡ 5 → ⊥) → jagged_of (kind_of (type_of (tree a))) ≡ none
  not_array h = go (leb (le2 s (at + 4)) 4) refl
    where
      go : (b : Bool) → leb (le2 s (at + 4)) 4 ≡ b → jagged_of (kind_of (type_of (tree a))) ≡ none
      go true e =
          let o = opened a refl refl in
          let l : le2 s (at + 4) ≤ 4 = leb-true _ _ e in
          rw o.tree (array_below at (le2 s (at + 4)) o.least (omega arith) o.parts.got.0)
      go false e =
          let o = opened a refl refl in
          let l : 4 < le2 s (at + 4) = leb-false _ _ e in
          rw o.tree (array_above at (le2 s (at + 4)) (omega arith) o.most o.parts.got.0)
