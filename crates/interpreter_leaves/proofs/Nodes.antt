-- The nodes that hold no node, the tag of a switch, and the root of a type.
use mathlib.Core.Path.{◌≡◌, refl, sym, ◌∙◌, ap, subst}
use mathlib.Core.Bool.{true}
use mathlib.Core.List.{List}
use Rattle.std.specs.Prelude.{Option, Result}
use mathlib.Core.Option.{Option as Maybe}
use Prim.Native.Nat.{ℕ, ◌+◌, ◌-◌, ◌≤◌, ◌<◌}
use native.Mathlib.Omega.{arith}
use lib.Dec.{leb}
use lib.ListN.{length, get_or, get_or-replicate}
use borrow.Author.Tests.{leb-true}
use Rattle.ir_nodes.proofs.Table.{entry}
use Rattle.errors.specs.Refusal.{done, MissingIrParameter}
use Rattle.errors.specs.declared.Reason.{Reason}
use Rattle.blocks.specs.Bytes.{le2, le8}
use Rattle.blocks.specs.Name.{Name}
use Rattle.blocks.specs.Grammar.{parts_of, node_table}
use Rattle.blocks.specs.Tree.{Tree, text, number, body, part}
use Rattle.value.specs.declared.Value.{Value}
use Rattle.ir.specs.Layout.{form_of, make_thing, node_of, layout_of}
use Rattle.accepted.specs.Accepted.{Accepted, tree, name_at}
use Rattle.interpreter.specs.Eval.{Handlers, ParamMap, find, refusal_at as refusal, value_or, lift, chosen, eval_node}
use Rattle.interpreter_context.proofs.Laws.{Standing}
use Rattle.interpreter_context.proofs.Shape.{body_of, text_at, number_at, MaybeText, maybe_text, node_is, located}
use Rattle.interpreter_arithmetic.specs.Num.{result_of}
use Rattle.wire.specs.declared.Position.{Position}
use Rattle.lookup.specs.Named.{Placed}
use Rattle.lookup.specs.Found.{TreeFound}
use Rattle.interpreter_context.specs.Names.{found_in}
use Rattle.interpreter_context.specs.Context.{Context, Here, tree_at}
use Rattle.interpreter_leaves.specs.Steps.{FieldName}

-- ---- arithmetic

-- what the code was given is what it tells apart
pub lifted_as : (p a : ℕ) {n m : Result Value Reason} → n ≡ m → lift p a (result_of m) ≡ lift p a (result_of n)
lifted_as p a e = ap (λ (n : Result Value Reason). lift p a (result_of n)) (sym e)

-- ---- Const

-- the value of a Const node
pub const_at : {s : List ℕ} {at p : ℕ} → Standing s at 2 p → (a : Accepted s 128 144 at) → le2 s (at + 4) ≡ 129 → (p + 8 ≤ length s) × (number (part 2 (body_of a)) ≡ le8 s p)
unfolding parts_of node_table
const_at st a k = number_at (located 2 st a k refl)

-- it is what the node evaluates to
pub const_is : {s : List ℕ} {at p v : ℕ} → Standing s at 2 p → le2 s (at + 4) ≡ 129 → v ≡ le8 s p →
    (handle : Handlers) (pl : ℕ) (γ : ParamMap) (a : Accepted s 128 144 at) → done v ≡ eval_node handle pl γ (node_of (tree a))
unfolding form_of make_thing eval_node
const_is st k ev handle pl γ a = sym (ap (eval_node handle pl γ) (node_is a k refl) ∙ ap done ((const_at st a k).1 ∙ sym ev))

-- ---- FieldRef

-- the path of a FieldRef node
ref_two : {s : List ℕ} {at p : ℕ} → Standing s at 2 p → (a : Accepted s 128 144 at) → le2 s (at + 4) ≡ 130 → (p + 2 + le2 s p ≤ length s) × (text (part 2 (body_of a)) ≡ name_at s p)
unfolding parts_of node_table
ref_two st a k = text_at (located 2 st a k refl)

-- and its optional parameter
pub ref_three : {s : List ℕ} {at q : ℕ} → Standing s at 3 q → (a : Accepted s 128 144 at) → le2 s (at + 4) ≡ 130 → MaybeText a 3 q
unfolding parts_of node_table
ref_three st a k = maybe_text (located 3 st a k refl)

module _ {s : List ℕ} {at p q : ℕ} (st : Standing s at 2 p) (su : Standing s at 3 q) (k : le2 s (at + 4) ≡ 130) (a : Accepted s 128 144 at) where
  -- where there is a parameter, the node looks for that
  pub by_parameter : get_or s q 0 ≡ 1 → FieldName s at (q + 1)
  by_parameter h = record {
    inside = ((ref_three su a k).given h).0;
    is = λ b. ap (chosen (text (part 2 (body_of b)))) ((ref_three su b k).given h).1;
  }

  -- else for its path
  pub by_path : (get_or s q 0 ≡ 1 → ⊥) → FieldName s at p
  by_path h = record {
    inside = (ref_two st a k).0;
    is = λ b. ap (chosen (text (part 2 (body_of b)))) ((ref_three su b k).plain h) ∙ (ref_two st b k).1;
  }

-- the context has what the code tells apart: a value, or none
pub found_as : (o : Maybe ℕ) {r h : Option Value} → found_in r ≡ o → r ≡ h → o ≡ found_in h
found_as o e f = sym e ∙ ap found_in f

-- a FieldRef node evaluates to what the context has of that name
ref_is : {s : List ℕ} {at q : ℕ} → FieldName s at q → le2 s (at + 4) ≡ 130 → (handle : Handlers) (pl : ℕ) (γ : ParamMap) (a : Accepted s 128 144 at) →
    eval_node handle pl γ (node_of (tree a)) ≡ value_or (refusal pl at MissingIrParameter 0) (find (name_at s q) γ)
unfolding form_of make_thing eval_node
ref_is {at} n k handle pl γ a = ap (eval_node handle pl γ) (node_is a k refl) ∙ ap (λ (m : Name). value_or (refusal pl at MissingIrParameter 0) (find m γ)) (n.is a)

-- so what was found of its name is what the node comes to, and else the refusal
pub ref_answers : {s : List ℕ} {at q : ℕ} (pl : ℕ) {r : Option Value} (γ : ParamMap) → FieldName s at q → le2 s (at + 4) ≡ 130 → found_in r ≡ find (name_at s q) γ →
    {x : Option Value} → r ≡ x → (handle : Handlers) (a : Accepted s 128 144 at) → value_or (refusal pl at MissingIrParameter 0) (found_in x) ≡ eval_node handle pl γ (node_of (tree a))
ref_answers {s} {at} {q} pl γ n k f e handle a =
    ap (λ (r : Option Value). value_or (refusal pl at MissingIrParameter 0) (found_in r)) (sym e)
    ∙ ap (value_or (refusal pl at MissingIrParameter 0)) f
    ∙ sym (ref_is n k handle pl γ a)

-- ---- ZeroSize

-- a ZeroSize node evaluates to 0
pub zero_is : {s : List ℕ} {at k : ℕ} → k ≡ le2 s (at + 4) → k ≡ 128 → (handle : Handlers) (pl : ℕ) (γ : ParamMap) (a : Accepted s 128 144 at) → done 0 ≡ eval_node handle pl γ (node_of (tree a))
unfolding form_of make_thing eval_node
zero_is ek k handle pl γ a = sym (ap (eval_node handle pl γ) (node_is a (sym ek ∙ k) refl))

-- ---- the tag of a Switch, the type of a CallNested

-- where the name of a Switch's tag stands
pub switch_tag : {s : List ℕ} {at p : ℕ} → Standing s at 2 p → (a : Accepted s 128 144 at) → le2 s (at + 4) ≡ 132 → (p + 2 + le2 s p ≤ length s) × (text (part 2 (body_of a)) ≡ name_at s p)
unfolding parts_of node_table
switch_tag st a k = text_at (located 2 st a k refl)

-- where the name of a called type stands
pub call_type : {s : List ℕ} {at p : ℕ} → Standing s at 2 p → (a : Accepted s 128 144 at) → le2 s (at + 4) ≡ 133 → (p + 2 + le2 s p ≤ length s) × (text (part 2 (body_of a)) ≡ name_at s p)
unfolding parts_of node_table
call_type st a k = text_at (located 2 st a k refl)

-- what was found of the tag's name is the tag
pub tag_is : {s values : List ℕ} {block len : ℕ} {words : List ℕ} {depth at p : ℕ} (r : Option Value) → Standing s at 2 p → le2 s (at + 4) ≡ 132 →
    ((γ : ParamMap) → Context s values block len words depth γ → found_in r ≡ find (name_at s p) γ) →
    (γ : ParamMap) → Context s values block len words depth γ → (a : Accepted s 128 144 at) → found_in r ≡ find (text (part 2 (body (tree a)))) γ
tag_is r st k e γ c a = e γ c ∙ ap (λ (n : Name). find n γ) (sym (switch_tag st a k).1)

-- what was found of the type's name is the type
pub type_is : {s : List ℕ} {at p : ℕ} {m : Name} {r : Option Position} → Standing s at 2 p → le2 s (at + 4) ≡ 133 → m ≡ name_at s p → (t : Tree) →
    TreeFound s m (layout_of t) r → (a : Accepted s 128 144 at) → TreeFound s (text (part 2 (body (tree a)))) (layout_of t) r
type_is {s} {r} st k e t f a = subst (λ (n : Name). TreeFound s n (layout_of t) r) (e ∙ sym (call_type st a k).1) f

-- the type that holds a node, where a call has opened it
pub held_here : (s words : List ℕ) (depth place : ℕ) → Here s words depth place → (depth ≡ 0 → ⊥) → (depth - 1 < length words) × Placed s place (tree_at (get_or words (depth - 1) 0))
held_here s words depth place f h = f (depth - 1) (omega arith)

-- ---- how many parts a kind has

-- every kind but ZeroSize has three or more
pub three_parts : (k : ℕ) → 129 ≤ k → k ≤ 144 → 3 ≤ length (parts_of k)
unfolding parts_of node_table
three_parts k lo hi =
    let e : 129 + (k - 129) ≡ k = omega arith in
    let g : k - 129 < 16 = omega arith in
    let t = sym (entry 16 (λ i. leb 3 (length (parts_of (129 + i)))) (k - 129) true g) ∙ get_or-replicate 16 (k - 129) true true g in
    leb-true 3 (length (parts_of k)) (rw e at t)
