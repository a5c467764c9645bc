-- What the code returns for each kind of node is what the node evaluates to; premises as the code's places have them.
use mathlib.Core.Path.{◌≡◌, refl, sym, ◌∙◌, ap, subst, fun_ext}
use mathlib.Core.Bool.{Bool, true, false, cond}
use mathlib.Core.List.{List, [], ◌∷◌, ◌++◌}
use mathlib.Core.Option.{Option as Maybe, some, none}
use Rattle.std.specs.Prelude.{Option, Some, None, Result}
use Prim.Native.Nat.{ℕ, zero, suc, ◌+◌, ◌-◌, ◌*◌, ◌≤◌, ◌<◌}
use native.Mathlib.Numerals.{add-one, sub-one}
use native.Mathlib.Omega.{arith}
use lib.Dec.{eqb}
use lib.ListN.{length, get_or, set, drop, length-set}
use lib.Seq.{get_or-set_same}
use borrow.Author.Tests.{ne_eqb, le-leb}
use Rattle.errors.specs.Refusal.{Outcome, done, refused, ◌>>=◌, plain, UnknownType, MissingIrParameter, InvalidTagValue, UnsupportedOperation}
use Rattle.errors.specs.Refusal as definition
use Rattle.errors.specs.declared.Refusal.{Refusal}
use Rattle.errors.proofs.Laws.{bound_done}
use Rattle.blocks.specs.Bytes.{le2, le4, le8}
use Rattle.blocks.specs.Name.{Name}
use Rattle.blocks.specs.Grammar.{parts_of, node_table}
use Rattle.blocks.specs.Tree.{Tree, text, body, part, view, part_view}
use Rattle.blocks.specs.Read.{read_layout}
use Rattle.blocks.specs.declared.Part.TheVariants.{Block}
use Rattle.ir.specs.Ir.{BinaryOp, IrNode, SwitchCases, DefaultNode, TypeIr}
use Rattle.ir.specs.Layout.{Form, form_of, make_thing, thing_of, node_in, default_in, node_of, layout_of, type_ir_of, operations}
use Rattle.value.specs.declared.Value.{Value}
use Rattle.value.specs.Number.{number_of}
use Rattle.accepted.specs.Accepted.{Accepted, tree}
use Rattle.accepted.proofs.Laws.{each}
use Rattle.interpreter.specs.Arithmetic.{operate, align_up, bits}
use Rattle.interpreter.specs.Arithmetic as arithmetic
use Rattle.interpreter.specs.Eval.{Handlers, ParamMap, find, refusal_at as refusal, value_or, lift, eval_node, eval_cases, eval_default, collect_arguments, inherited, lookup_type, eval_call, eval_within, handlers, Enter, no_more_calls}
use Rattle.interpreter_context.proofs.Laws.{Standing}
use Rattle.interpreter_context.proofs.Shape.{body_of, child_at, node_is, node_in_lem, cases_in_lem, default_in_lem, located}
use Rattle.wire.specs.declared.Position.{Position}
use Rattle.lookup.specs.Named.{Placed}
use Rattle.lookup.specs.Found.{TreeFound}
use Rattle.interpreter_context.specs.Names.{found_in}
use Rattle.interpreter_context.specs.Context.{Context, Pair, Open, call_at, tree_at, arguments_of, parameters_of}
use Rattle.interpreter_context.proofs.Calls.{context_kept, bottom}
use Rattle.interpreter_values.specs.Remembered.{Remembered, Kept}
use Rattle.interpreter_values.proofs.Laws.{kept_none, kept_fewer, kept_back, kept_set}
use Rattle.interpreter_context.proofs.Lists.{ends}
use Rattle.interpreter_leaves.specs.declared.Frame.{Frame}
use Rattle.interpreter_leaves.specs.declared.Inputs.{Inputs}
use Rattle.interpreter_leaves.specs.Steps.{ContextOver, Rooted, pick, cases_of, default_of, PickedAt, Unwrapped}
use Rattle.interpreter_leaves.proofs.Align.{align_child, align_node, unwrap_same}
use Rattle.interpreter_leaves.proofs.Nodes.{found_as}
use Rattle.interpreter_eval.specs.Evaluates.{Ready, Evaluates}

-- ---- the allowance of open calls

-- what a call does with its type's place, context and root
abbrev entering : ℕ → List TypeIr → Enter
entering zero types p a i δ root = no_more_calls p a i δ root
entering (suc left) types p a i δ root = eval_within left types i δ root

-- what a call does with so many calls left
abbrev pub handlers_at : ℕ → List TypeIr → Handlers
handlers_at left types = handlers (entering left types) types

-- what an accepted node comes to, in the tree of the type at place pl, with so many calls left
abbrev outcome_at : {s : List ℕ} {at : ℕ} → ℕ → List TypeIr → ℕ → ParamMap → Accepted s 128 144 at → Outcome ℕ
outcome_at left types pl γ a = eval_within left types pl γ (node_of (tree a))

-- evaluating with so many calls left is evaluating with these handlers
pub within_is : (left : ℕ) (types : List TypeIr) (p : ℕ) (γ : ParamMap) (n : IrNode) → eval_within left types p γ n ≡ eval_node (handlers_at left types) p γ n
unfolding eval_within
within_is zero types p γ n = refl
within_is (suc left) types p γ n = refl

-- a call that may open leaves one call less
opens : (left : ℕ) → (left ≡ 0 → ⊥) → (types : List TypeIr) (p a i : ℕ) (δ : ParamMap) (n : IrNode) → entering left types p a i δ n ≡ eval_within (left - 1) types i δ n
opens zero h types p a i δ n = absurd (h refl)
opens (suc left) h types p a i δ n = ap (λ (l : ℕ). eval_within l types i δ n) (sym (sub-one (suc left)))

-- ---- AlignUp

-- without those that change nothing
pub unwrapped_is : {s : List ℕ} {at q : ℕ} → ((a : Accepted s 128 144 at) → Unwrapped a q) →
    (left : ℕ) (types : List TypeIr) (pl : ℕ) (γ : ParamMap) {o : Outcome ℕ} → ((c : Accepted s 128 144 q) → o ≡ outcome_at left types pl γ c)
    → (a : Accepted s 128 144 at) → o ≡ outcome_at left types pl γ a
unwrapped_is f left types pl γ e a =
    let u = f a in
    let h = handlers_at left types in
    e u.node ∙ within_is left types pl γ (node_of (tree u.node)) ∙ ap (eval_node h pl γ) u.is ∙ unwrap_same h pl γ (node_of (tree a)) ∙ sym (within_is left types pl γ (node_of (tree a)))

module _ {s : List ℕ} {at p q : ℕ} (st : Standing s at 2 p) (su : Standing s at 3 q) (k : le2 s (at + 4) ≡ 131)
    (left : ℕ) (types : List TypeIr) (pl : ℕ) (γ : ParamMap) (a : Accepted s 128 144 at) where
  -- an AlignUp node comes to what its operand does, aligned
  align_is : outcome_at left types pl γ a ≡ (outcome_at left types pl γ (align_child su a k).0 >>= (λ v. lift pl at (align_up bits v (le8 s p))))
  align_is =
      within_is left types pl γ (node_of (tree a)) ∙ align_node st su k (handlers_at left types) pl γ a
      ∙ ap (λ (o : Outcome ℕ). o >>= (λ v. lift pl at (align_up bits v (le8 s p)))) (sym (within_is left types pl γ (node_of (tree (align_child su a k).0))))

  -- the operand is refused
  pub align_stops : {d : definition.Refusal} → ((c : Accepted s 128 144 q) → refused d ≡ outcome_at left types pl γ c) → refused d ≡ outcome_at left types pl γ a
  unfolding ◌>>=◌
  align_stops e = sym (align_is ∙ ap (λ (o : Outcome ℕ). o >>= (λ v. lift pl at (align_up bits v (le8 s p)))) (sym (e (align_child su a k).0)))

  -- the operand comes to a count, which is aligned
  pub align_goes : {v m : ℕ} {z : arithmetic.Result} {o : Outcome ℕ} → ((c : Accepted s 128 144 q) → done v ≡ outcome_at left types pl γ c) → m ≡ le8 s p → z ≡ align_up bits v m →
      o ≡ lift pl at z → o ≡ outcome_at left types pl γ a
  align_goes {v} e em ez eo =
      eo ∙ ap (lift pl at) (ez ∙ ap (align_up bits v) em)
      ∙ sym (align_is ∙ bound_done (λ v. lift pl at (align_up bits v (le8 s p))) (sym (e (align_child su a k).0)))

-- ---- two operands

-- the operation of a kind
abbrev op_of : ℕ → BinaryOp
op_of k = get_or operations (k - 134) BinaryOp.AddChecked

-- the ten kinds of two operands are one form
binary_form : (k : ℕ) → 134 ≤ k → k ≤ 143 → form_of k ≡ Form.binary (op_of k)
unfolding form_of
binary_form k lo hi =
    rw (
      ne_eqb k 128 (λ e. absurd (omega arith)),
      ne_eqb k 129 (λ e. absurd (omega arith)),
      ne_eqb k 130 (λ e. absurd (omega arith)),
      ne_eqb k 131 (λ e. absurd (omega arith)),
      ne_eqb k 132 (λ e. absurd (omega arith)),
      ne_eqb k 133 (λ e. absurd (omega arith)),
      le-leb 134 k lo,
      le-leb k 143 hi,
    )

-- an operation on two outcomes, left before right
abbrev combined : ℕ → ℕ → BinaryOp → Outcome ℕ → Outcome ℕ → Outcome ℕ
combined pl at op l r = l >>= (λ x. r >>= (λ y. lift pl at (operate bits op x y)))

-- behind the metadata of a kind stand two nodes
two_nodes : ℕ → Type 0
two_nodes k = (drop 2 (parts_of k) ≡ Block 128 144 ∷ Block 128 144 ∷ []) × (drop 3 (parts_of k) ≡ Block 128 144 ∷ [])

-- so it is with these ten
binary_parts : (k : ℕ) → 134 ≤ k → k ≤ 143 → two_nodes k
unfolding parts_of node_table two_nodes
binary_parts k lo hi =
    let e : two_nodes 134 = (refl, refl) in
    each two_nodes 10 134 (e, (e, (e, (e, (e, (e, (e, (e, (e, (e, tt)))))))))) k lo (omega arith)

-- part i of a node is a node at q, which is shorter
abbrev pub Child : {s : List ℕ} {at : ℕ} → Accepted s 128 144 at → ℕ → ℕ → Type 0
Child {s} {at} a i q = (c : Accepted s 128 144 q) × (node_of (part i (body_of a)) ≡ node_of (tree c)) × (le4 s q < le4 s at) × (q + 4 + le4 s q ≤ length s)

module _ {s : List ℕ} {at : ℕ} (a : Accepted s 128 144 at) (lo : 134 ≤ le2 s (at + 4)) (hi : le2 s (at + 4) ≤ 143) where
  -- the left operand
  pub left_child : {q : ℕ} → Standing s at 2 q → Child a 2 q
  unfolding two_nodes
  left_child st = child_at (located 2 st a refl (binary_parts (le2 s (at + 4)) lo hi).0)

  -- the right operand
  pub right_child : {q : ℕ} → Standing s at 3 q → Child a 3 q
  unfolding two_nodes
  right_child st = child_at (located 3 st a refl (binary_parts (le2 s (at + 4)) lo hi).1)

  module _ {p q : ℕ} (st : Standing s at 2 p) (su : Standing s at 3 q) (left : ℕ) (types : List TypeIr) (pl : ℕ) (γ : ParamMap) where
    -- an operand comes to what the node there does
    operand : (i : ℕ) {o : ℕ} (c : Child a i o) → eval_node (handlers_at left types) pl γ (node_in i (view thing_of (body_of a))) ≡ outcome_at left types pl γ c.0
    operand i c = ap (eval_node (handlers_at left types) pl γ) (node_in_lem i (body_of a) ∙ c.1) ∙ sym (within_is left types pl γ (node_of (tree c.0)))

    -- the node comes to the operation on what its operands come to
    binary_is : outcome_at left types pl γ a ≡ combined pl at (op_of (le2 s (at + 4))) (outcome_at left types pl γ (left_child st).0) (outcome_at left types pl γ (right_child su).0)
    unfolding make_thing eval_node
    binary_is =
        let handle = handlers_at left types in
        let op = op_of (le2 s (at + 4)) in
        within_is left types pl γ (node_of (tree a)) ∙ ap (eval_node handle pl γ) (node_is a refl (binary_form (le2 s (at + 4)) lo hi))
        ∙ ap (λ (o : Outcome ℕ). combined pl at op o (eval_node handle pl γ (node_in 3 (view thing_of (body_of a))))) (operand 2 (left_child st))
        ∙ ap (combined pl at op (outcome_at left types pl γ (left_child st).0)) (operand 3 (right_child su))

    -- the left operand is refused
    pub left_stops : {d : definition.Refusal} → ((c : Accepted s 128 144 p) → refused d ≡ outcome_at left types pl γ c) → refused d ≡ outcome_at left types pl γ a
    unfolding ◌>>=◌
    left_stops e = sym (binary_is ∙ ap (λ (o : Outcome ℕ). combined pl at (op_of (le2 s (at + 4))) o (outcome_at left types pl γ (right_child su).0)) (sym (e (left_child st).0)))

    module _ {v : ℕ} (e : (c : Accepted s 128 144 p) → done v ≡ outcome_at left types pl γ c) where
      -- the left operand comes to a count
      left_goes : outcome_at left types pl γ a ≡ (outcome_at left types pl γ (right_child su).0 >>= (λ y. lift pl at (operate bits (op_of (le2 s (at + 4))) v y)))
      left_goes = binary_is ∙ bound_done (λ x. outcome_at left types pl γ (right_child su).0 >>= (λ y. lift pl at (operate bits (op_of (le2 s (at + 4))) x y))) (sym (e (left_child st).0))

      -- and the right one is refused
      pub right_stops : {d : definition.Refusal} → ((c : Accepted s 128 144 q) → refused d ≡ outcome_at left types pl γ c) → refused d ≡ outcome_at left types pl γ a
      unfolding ◌>>=◌
      right_stops g = sym (left_goes ∙ ap (λ (o : Outcome ℕ). o >>= (λ y. lift pl at (operate bits (op_of (le2 s (at + 4))) v y))) (sym (g (right_child su).0)))

      -- both come to counts, on which the operation is done
      pub both_go : {k w : ℕ} {z : arithmetic.Result} {o : Outcome ℕ} → ((c : Accepted s 128 144 q) → done w ≡ outcome_at left types pl γ c) → k ≡ le2 s (at + 4) →
          z ≡ operate bits (op_of k) v w → o ≡ lift pl at z → o ≡ outcome_at left types pl γ a
      both_go {w} g ek ez eo =
          eo ∙ ap (lift pl at) (ez ∙ ap (λ (k : ℕ). operate bits (op_of k) v w) ek)
          ∙ sym (left_goes ∙ bound_done (λ y. lift pl at (operate bits (op_of (le2 s (at + 4))) v y)) (sym (g (right_child su).0)))

-- ---- Switch

-- what a Switch does with the node that it picked
picking : Handlers → ℕ → ParamMap → ℕ → ℕ → Maybe IrNode → Outcome ℕ
picking handle p γ a v none = refused (refusal p a InvalidTagValue v)
picking handle p γ a v (some n) = eval_node handle p γ n

-- the first case of the value, or else the default, is what is picked
pick_is : (handle : Handlers) (p : ℕ) (γ : ParamMap) (a v : ℕ) (cs : SwitchCases) (d : DefaultNode) → eval_cases handle p γ v cs (eval_default handle p γ a v d) ≡ picking handle p γ a v (pick v cs d)
unfolding eval_node eval_cases eval_default pick picking
pick_is handle p γ a v SwitchCases.no_case DefaultNode.no_default = refl
pick_is handle p γ a v SwitchCases.no_case (DefaultNode.or_else n) = refl
pick_is handle p γ a v (SwitchCases.case t n ps cs) d = go (eqb t v) (pick_is handle p γ a v cs d)
  where
    go : (b : Bool) → eval_cases handle p γ v cs (eval_default handle p γ a v d) ≡ picking handle p γ a v (pick v cs d) →
        elim b [ true ↦ eval_node handle p γ n | false ↦ eval_cases handle p γ v cs (eval_default handle p γ a v d) ] ≡ picking handle p γ a v (cond b (some n) (pick v cs d))
    go true h = refl
    go false h = h

module _ {s : List ℕ} {at : ℕ} (k : le2 s (at + 4) ≡ 132) (left : ℕ) (types : List TypeIr) (pl : ℕ) (γ : ParamMap) (a : Accepted s 128 144 at) where
  -- the refusal where the context lacks the tag
  abbrev pub missed : definition.Refusal
  missed = refusal pl at MissingIrParameter 0

  -- what the node does with the tag's value
  abbrev picks : ℕ → Outcome ℕ
  picks v = picking (handlers_at left types) pl γ at v (pick v (cases_of (body_of a)) (default_of (body_of a)))

  -- a Switch node comes to what the node of the tag's value does
  switch_is : outcome_at left types pl γ a ≡ (value_or missed (find (text (part 2 (body_of a))) γ) >>= picks)
  unfolding form_of make_thing eval_node
  switch_is =
      let handle = handlers_at left types in
      let t = body_of a in
      let o = value_or missed (find (text (part 2 t)) γ) in
      within_is left types pl γ (node_of (tree a)) ∙ ap (eval_node handle pl γ) (node_is a k refl)
      ∙ ap (λ (cs : SwitchCases). o >>= (λ v. eval_cases handle pl γ v cs (eval_default handle pl γ at v (default_in (part 4 t) (part_view 4 (view thing_of t)))))) (cases_in_lem 3 t)
      ∙ ap (λ (d : DefaultNode). o >>= (λ v. eval_cases handle pl γ v (cases_of (body_of a)) (eval_default handle pl γ at v d))) (default_in_lem 4 (body_of a))
      ∙ ap (λ (f : ℕ → Outcome ℕ). o >>= f) (fun_ext (λ v. pick_is handle pl γ at v (cases_of (body_of a)) (default_of (body_of a))))

  module _ {r : Option Value} (er : found_in r ≡ find (text (part 2 (body_of a))) γ) where
    -- the context lacks the tag
    pub switch_misses : r ≡ None → refused missed ≡ outcome_at left types pl γ a
    unfolding value_or ◌>>=◌
    switch_misses f = sym (switch_is ∙ ap (λ (o : Maybe ℕ). value_or missed o >>= picks) (found_as (find (text (part 2 (body_of a))) γ) er f))

    module _ {v : Value} (f : r ≡ Some v) where
      -- the context has it
      switch_picks : outcome_at left types pl γ a ≡ picks (number_of v)
      unfolding value_or ◌>>=◌
      switch_picks = switch_is ∙ ap (λ (o : Maybe ℕ). value_or missed o >>= picks) (found_as (find (text (part 2 (body_of a))) γ) er f)

      -- no case has its value, and there is no default
      pub switch_ends : pick (number_of v) (cases_of (body_of a)) (default_of (body_of a)) ≡ none → refused (refusal pl at InvalidTagValue (number_of v)) ≡ outcome_at left types pl γ a
      unfolding picking
      switch_ends g = sym (switch_picks ∙ ap (picking (handlers_at left types) pl γ at (number_of v)) g)

      -- what the picked node comes to is the answer
      pub switch_goes : {q : ℕ} {o : Outcome ℕ} → PickedAt a (number_of v) q → ((c : Accepted s 128 144 q) → o ≡ outcome_at left types pl γ c) → o ≡ outcome_at left types pl γ a
      unfolding picking
      switch_goes x e = e x.node ∙ within_is left types pl γ (node_of (tree x.node)) ∙ sym (switch_picks ∙ ap (picking (handlers_at left types) pl γ at (number_of v)) x.is)

-- ---- CallNested

-- the type of a name has place i, and its tree stands at o
abbrev FoundAt : List ℕ → Name → List TypeIr → ℕ → ℕ → Type 0
FoundAt s n ts i o = (c : Accepted s 161 161 o) × (lookup_type 0 n ts ≡ done (i, type_ir_of (tree c))) × Placed s i o

-- a type was found, at its place and offset
pub found_at_lem : {s : List ℕ} {n : Name} {ts : List TypeIr} {r : Option Position} {p : Position} → r ≡ Some p → TreeFound s n ts r → FoundAt s n ts p.place p.at
found_at_lem {s} {n} {ts} {p} e (TreeFound.at {i} {o} a l h) =
    let f : ◌≡◌ {A = Position} (record { place = i; at = o }) p = cc in
    subst (λ (p : Position). FoundAt s n ts p.place p.at) f (a, h, l)
found_at_lem e (TreeFound.missing h) = cc

-- no type has the name
pub found_none : {s : List ℕ} {n : Name} {ts : List TypeIr} {r : Option Position} → r ≡ None → TreeFound s n ts r → lookup_type 0 n ts ≡ refused (plain UnknownType)
found_none e (TreeFound.at a l h) = cc
found_none e (TreeFound.missing h) = h

-- the arguments of a call were found
abbrev pub Collected : {s : List ℕ} {at : ℕ} → ℕ → ParamMap → Accepted s 128 144 at → Type 0
Collected p γ a = (δ : ParamMap) × (collect_arguments p γ (arguments_of (tree a)) [] ≡ done δ)

-- what a call does with its arguments and the type that it found
abbrev enters : ℕ → List TypeIr → ℕ → ℕ → ParamMap → ParamMap → ℕ × TypeIr → Outcome ℕ
enters left types pl at γ δ t = entering left types pl at t.0 (δ ++ inherited γ t.1.parameters) t.1.root

module _ {s : List ℕ} {at : ℕ} (k : le2 s (at + 4) ≡ 133) (left : ℕ) (types : List TypeIr) (pl : ℕ) (γ : ParamMap) (a : Accepted s 128 144 at) where
  -- a CallNested node comes to what its call comes to
  call_is : outcome_at left types pl γ a ≡ eval_call (entering left types) types pl γ at (text (part 2 (body_of a))) (arguments_of (tree a))
  unfolding form_of make_thing eval_node
  call_is = within_is left types pl γ (node_of (tree a)) ∙ ap (eval_node (handlers_at left types) pl γ) (node_is a k refl)

  -- the call is refused at the argument whose value is lacking
  pub call_lacks : {d : definition.Refusal} → collect_arguments pl γ (arguments_of (tree a)) [] ≡ refused d → refused d ≡ outcome_at left types pl γ a
  unfolding eval_call ◌>>=◌
  call_lacks b = sym (call_is ∙ ap (λ (o : Outcome ParamMap). o >>= (λ δ. lookup_type 0 (text (part 2 (body_of a))) types >>= (enters left types pl at γ δ))) b)

  module _ {δ : ParamMap} (b : collect_arguments pl γ (arguments_of (tree a)) [] ≡ done δ) where
    -- else its type is looked for
    looked_up : outcome_at left types pl γ a ≡ (lookup_type 0 (text (part 2 (body_of a))) types >>= (enters left types pl at γ δ))
    unfolding eval_call ◌>>=◌
    looked_up = call_is ∙ ap (λ (o : Outcome ParamMap). o >>= (λ δ. lookup_type 0 (text (part 2 (body_of a))) types >>= (enters left types pl at γ δ))) b

    -- which is not there
    pub call_unknown : {r : Option Position} → r ≡ None → TreeFound s (text (part 2 (body_of a))) types r → refused (plain UnknownType) ≡ outcome_at left types pl γ a
    unfolding ◌>>=◌
    call_unknown e f = sym (looked_up ∙ ap (λ (o : Outcome (ℕ × TypeIr)). o >>= (enters left types pl at γ δ)) (found_none e f))

    module _ {i : ℕ} {t : TypeIr} (f : lookup_type 0 (text (part 2 (body_of a))) types ≡ done (i, t)) where
      -- it is there, and the call goes to its root
      call_enters : outcome_at left types pl γ a ≡ entering left types pl at i (δ ++ inherited γ t.parameters) t.root
      unfolding ◌>>=◌
      call_enters = looked_up ∙ ap (λ (o : Outcome (ℕ × TypeIr)). o >>= (enters left types pl at γ δ)) f

      -- no call may open
      pub call_stops : left ≡ 0 → refused (refusal pl at 27 0) ≡ outcome_at left types pl γ a
      call_stops z = sym (call_enters ∙ ap (λ (l : ℕ). entering l types pl at i (δ ++ inherited γ t.parameters) t.root) z)

      -- the call opens
      call_goes : (left ≡ 0 → ⊥) → eval_within (left - 1) types i (δ ++ inherited γ t.parameters) t.root ≡ outcome_at left types pl γ a
      call_goes n = sym (call_enters ∙ opens left n types pl at i (δ ++ inherited γ t.parameters) t.root)

-- ---- words

-- what the words of a node that is ready remember
pub remembers : {i : Inputs} {ws : List ℕ} {f : Frame} {at : ℕ} → Ready i ws f at → Remembered i.values.now i.root.block ws
remembers r = (bottom r.context.1).1

-- where no word is written, they are kept
pub unchanged : {i : Inputs} {ws : List ℕ} {f : Frame} {at : ℕ} → Ready i ws f at → Kept i.values.now i.root.block f.depth ws ws
unchanged r = kept_none (remembers r)

-- what is ready stays ready where the words of the open calls are kept
pub still_ready : {i : Inputs} {ws us : List ℕ} {f : Frame} {at q : ℕ} → Ready i ws f at → Accepted i.layout.now 128 144 q →
    length us ≡ length ws → Kept i.values.now i.root.block f.depth ws us → Ready i us f q
still_ready {i} {f = f} r c l e = record {
  node = c;
  layout = r.layout;
  context = (r.context.0, context_kept f.depth (omega arith) l e r.context.1);
  here = λ d g. let w = r.here d g in (omega (arith, w.0), subst (λ (v : ℕ). Placed i.layout.now f.place (tree_at v)) (sym (e.same d (omega arith))) w.1);
  calls = r.calls;
  room = omega (arith, r.room);
  small = r.small;
}

-- Words that are kept from those of a node that is ready on:
module _ {i : Inputs} {ws us : List ℕ} {f : Frame} {at : ℕ} (x : Ready i ws f at) (l : length us ≡ length ws) (k : Kept i.values.now i.root.block 16 ws us) where
  -- the context is the same
  pub context_now : {γ : ParamMap} → ContextOver i ws f.depth γ → ContextOver i us f.depth γ
  context_now c = context_kept 16 x.calls l k c

  -- what the node comes to over the words of now is what it comes to
  pub evaluates_now : (r : Result Value Refusal) → Evaluates i us f at r → Evaluates i ws f at r
  evaluates_now r e γ c = e γ (context_now c)

  -- the arguments that were found are those over the words of now
  pub bound_now : ((γ : ParamMap) → ContextOver i ws f.depth γ → (a : Accepted i.layout.now 128 144 at) → Collected f.place γ a) →
      (γ : ParamMap) → ContextOver i us f.depth γ → (a : Accepted i.layout.now 128 144 at) → Collected f.place γ a
  bound_now b γ c = b γ (context_kept 16 x.calls (sym l) (kept_back (remembers x) k) c)

  -- the words of the calls that are open are kept
  pub kept_now : Kept i.values.now i.root.block f.depth ws us
  kept_now = kept_fewer x.calls k

-- what is ready for a node is ready for another of the same tree
pub child_ready : {i : Inputs} {ws : List ℕ} {f : Frame} {at q : ℕ} → Ready i ws f at → Accepted i.layout.now 128 144 q → Ready i ws f q
child_ready r c = record { node = c; layout = r.layout; context = r.context; here = r.here; calls = r.calls; room = r.room; small = r.small }

-- the word of a call
pub packed : (call callee : ℕ) → call < 4294967296 → (call_at (call + callee * 4294967296) ≡ call) × (tree_at (call + callee * 4294967296) ≡ callee)
packed call callee h = (omega arith, omega arith)

-- the word of a call that opens
open_word : {s : List ℕ} {at callee : ℕ} {γ δ : ParamMap} (p w : ℕ) → call_at w ≡ at → tree_at w ≡ callee → (a : Accepted s 128 144 at) → le2 s (at + 4) ≡ 133 →
    (t : Accepted s 161 161 callee) → collect_arguments p γ (arguments_of (tree a)) [] ≡ done δ → Open s w γ (δ ++ inherited γ (parameters_of (tree t)))
open_word {s} {at} {callee} {γ} {δ} p w f g a k t e = record { pair = z.0; place = p; arguments = δ; collected = z.1; is = z.2 }
  where
    ε : ParamMap
    ε = δ ++ inherited γ (parameters_of (tree t))

    Held_by : ℕ → ℕ → Type 0
    Held_by x y = (pr : Pair s x y) × (collect_arguments p γ (arguments_of (tree pr.call)) [] ≡ done δ) × (ε ≡ δ ++ inherited γ (parameters_of (tree pr.type)))

    z : Held_by (call_at w) (tree_at w)
    z = subst (λ (x : ℕ). Held_by x (tree_at w)) (sym f) (subst (λ (y : ℕ). Held_by at y) (sym g) (record { call = a; kind = k; type = t }, e, refl))

-- the context of a call that opens
pub opened_call : {s values : List ℕ} {block len : ℕ} {ws : List ℕ} {depth at callee w : ℕ} {γ δ : ParamMap} (p : ℕ) → depth < 16 → depth < length ws → at < 4294967296 →
    w ≡ at + callee * 4294967296 → Context s values block len ws depth γ →
    (a : Accepted s 128 144 at) → le2 s (at + 4) ≡ 133 → (t : Accepted s 161 161 callee) → collect_arguments p γ (arguments_of (tree a)) [] ≡ done δ →
    Context s values block len (set ws depth w) (depth + 1) (δ ++ inherited γ (parameters_of (tree t)))
opened_call {s} {values} {block} {len} {ws} {depth} {at} {callee} {w} {γ} {δ} p few h l ew c a k t e =
    let x = packed at callee l in
    let ε : ParamMap = δ ++ inherited γ (parameters_of (tree t)) in
    let o : Open s w γ ε = open_word p w (ap call_at ew ∙ x.0) (ap tree_at ew ∙ x.1) a k t e in
    let u : Open s (get_or (set ws depth w) depth 0) γ ε = subst (λ (v : ℕ). Open s v γ ε) (sym (get_or-set_same ws depth w 0 h)) o in
    let b : Kept values block depth ws (set ws depth w) = kept_set depth w few (bottom c).1 in
    let m : Context s values block len (set ws depth w) depth γ = context_kept depth (omega arith) (length-set ws depth w) b c in
    let n : depth < length (set ws depth w) = subst (λ (z : ℕ). depth < z) (sym (length-set ws depth w)) h in
    subst (λ (z : ℕ). Context s values block len (set ws depth w) z ε) (sym (add-one depth)) (Context.call m n u)

-- what opening a call needs: its word is below 2^64, and there is room for it
pub record Opening (s ws : List ℕ) (f : Frame) (at callee : ℕ) : Type 0 where
  pub call : at < 65536
  pub type : callee < 65536
  pub word : f.depth < length ws
  pub more : f.depth < 16

-- a call may open where fewer than 16 are open and its type was found
pub call_opens : {i : Inputs} {ws : List ℕ} {f : Frame} {at : ℕ} {r : Option Position} {p : Position} → Ready i ws f at → r ≡ Some p →
    ((t : Tree) → read_layout i.layout.now ≡ done t → (a : Accepted i.layout.now 128 144 at) → TreeFound i.layout.now (text (part 2 (body (tree a)))) (layout_of t) r) → (f.depth ≡ 16 → ⊥) → Opening i.layout.now ws f at p.at
call_opens x e d n =
    let a = ends x.node in
    let c = ends (found_at_lem e (d x.layout.0 x.layout.1 x.node)).0 in
    record {
      call = omega (arith, a.1, x.small);
      type = omega (arith, c.1, x.small);
      word = omega (arith, x.room, x.calls, n);
      more = omega (arith, x.calls, n);
    }

-- the frame of a call that opens
abbrev in_call : Frame → ℕ → Frame
in_call f i = record { depth = f.depth + 1; place = i }

module _ (i : Inputs) {ws : List ℕ} (f : Frame) {at w q : ℕ} {r : Option Position} {p : Position} (h : f.depth < length ws) (l : at < 4294967296)
    (ew : w ≡ at + p.at * 4294967296) (k : le2 i.layout.now (at + 4) ≡ 133) (er : r ≡ Some p)
    (b : (γ : ParamMap) → ContextOver i ws f.depth γ → (a : Accepted i.layout.now 128 144 at) → Collected f.place γ a)
    (d : (t : Tree) → read_layout i.layout.now ≡ done t → (a : Accepted i.layout.now 128 144 at) → TreeFound i.layout.now (text (part 2 (body (tree a)))) (layout_of t) r)
    (e : (t : Accepted i.layout.now 161 161 p.at) → Rooted t q) (n : f.depth < 16) where
  -- the root of the called type is ready
  pub call_ready : Ready i ws f at → Ready i (set ws f.depth w) (in_call f p.place) q
  call_ready x =
      let t = found_at_lem er (d x.layout.0 x.layout.1 x.node) in
      let y = b x.context.0 x.context.1 x.node in
      record {
        node = (e t.0).root;
        layout = x.layout;
        context = (_, opened_call f.place n h l ew x.context.1 x.node k t.0 y.1);
        here = λ d g. here t.2 d (omega arith);
        calls = omega (arith, n);
        room = subst (λ (z : ℕ). 16 ≤ z) (sym (length-set ws f.depth w)) x.room;
        small = x.small;
      }
    where
      here : Placed i.layout.now p.place p.at → (d : ℕ) → d ≡ f.depth → (d < length (set ws f.depth w)) × Placed i.layout.now p.place (tree_at (get_or (set ws f.depth w) d 0))
      here y d g =
          let v : get_or (set ws f.depth w) d 0 ≡ w = ap (λ (d : ℕ). get_or (set ws f.depth w) d 0) g ∙ get_or-set_same ws f.depth w 0 h in
          let t : tree_at (get_or (set ws f.depth w) d 0) ≡ p.at = ap tree_at (v ∙ ew) ∙ (packed at p.at l).1 in
          (omega (arith, length-set ws f.depth w), subst (λ (o : ℕ). Placed i.layout.now p.place o) (sym t) y)

  -- what it comes to is what the call comes to
  pub call_answers : (o : Result Value Refusal) → Evaluates i (set ws f.depth w) (in_call f p.place) q o → Evaluates i ws f at o
  call_answers o ev γ x t rd a =
      let c = found_at_lem er (d t rd a) in
      let y = b γ x a in
      let z = e c.0 in
      ev (y.0 ++ inherited γ (parameters_of (tree c.0))) (opened_call f.place n h l ew x a k c.0 y.1) t rd z.root
      ∙ ap (eval_within (16 - (f.depth + 1)) (layout_of t) p.place (y.0 ++ inherited γ (parameters_of (tree c.0)))) (sym z.is)
      ∙ ap (λ (l : ℕ). eval_within l (layout_of t) p.place (y.0 ++ inherited γ (parameters_of (tree c.0))) (type_ir_of (tree c.0)).root) one_less
      ∙ call_goes k (16 - f.depth) (layout_of t) f.place γ a y.1 c.1 (λ e. absurd (omega (arith, n)))
    where
      one_less : 16 - (f.depth + 1) ≡ 16 - f.depth - 1
      one_less = omega arith

-- "`SumOverArray` gives 24 always."
pub sum_is : {s : List ℕ} {at k : ℕ} → k ≡ le2 s (at + 4) → k ≡ 144 → (left : ℕ) (types : List TypeIr) (pl : ℕ) (γ : ParamMap) (a : Accepted s 128 144 at) →
    refused (refusal pl at UnsupportedOperation 0) ≡ outcome_at left types pl γ a
unfolding form_of make_thing eval_node
sum_is ek k left types pl γ a = sym (within_is left types pl γ (node_of (tree a)) ∙ ap (eval_node (handlers_at left types) pl γ) (node_is a (sym ek ∙ k) refl))

-- a node that holds none
pub leaf_answers : {s : List ℕ} {at : ℕ} (left : ℕ) (types : List TypeIr) (pl : ℕ) (γ : ParamMap) (a : Accepted s 128 144 at) {o : Outcome ℕ} →
    ((handle : Handlers) → o ≡ eval_node handle pl γ (node_of (tree a))) → o ≡ outcome_at left types pl γ a
leaf_answers left types pl γ a e = e (handlers_at left types) ∙ sym (within_is left types pl γ (node_of (tree a)))
