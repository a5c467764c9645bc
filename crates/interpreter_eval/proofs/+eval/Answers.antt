use mathlib.Core.Path.{refl, sym, ◌∙◌, ap}
use Prim.Native.Nat.{ℕ}
use native.Mathlib.Omega.{arith}
use Rattle.errors.specs.Refusal.{done, refused}
use Rattle.errors.specs.Meaning.{outcome_of}
use Rattle.ir.specs.Layout.{layout_of}
use Rattle.interpreter_context.proofs.Lists.{ends}
use Rattle.interpreter_context.proofs.Calls.{context_kept}
use Rattle.interpreter_context.proofs.Laws.{kinds, within}
use Rattle.interpreter_leaves.proofs.Exits.{no_value}
use Rattle.interpreter_leaves.proofs.Nodes.{three_parts, zero_is}
use Rattle.interpreter_leaves.proofs.Align.{align_number, align_child}
use Rattle.interpreter_values.proofs.Laws.{kept_both}
use Rattle.interpreter_eval.proofs.Laws.{sum_is, unwrapped_is, align_stops, align_goes, left_child, right_child, left_stops, right_stops, both_go, switch_misses, switch_ends, switch_goes, found_at_lem, call_lacks, call_unknown, call_stops, Opening, call_opens, call_ready, call_answers, unchanged, still_ready, context_now, bound_now, kept_now, child_ready, leaf_answers}
use Rattle.interpreter_eval.proofs.+eval.Goals.{eval_call-After-root-top}
use Rattle.interpreter_eval.proofs.+eval.Goals as goal

-- ---- eval_node

pub eval_node-eval_kind-requires : goal.eval_node-eval_kind-requires
eval_node-eval_kind-requires t c =
    let u = c.unwrapped-inner.ensures c.requires.node in
    (omega (arith, c.decreases, u.short), child_ready c.requires u.node)

pub eval_node-returns-clause-evaluates : goal.eval_node-returns-clause-evaluates
eval_node-returns-clause-evaluates t c =
    λ γ x t rd a. unwrapped_is c.unwrapped-inner.ensures _ (layout_of t) _ γ (c.eval_kind.ensures.evaluates γ x t rd) a

-- ---- eval_kind

pub eval_kind-overflow_add-at : goal.eval_kind-overflow_add-at
eval_kind-overflow_add-at t c = omega (arith, within c.requires.node)

pub eval_kind-read2-kind-requires : goal.eval_kind-read2-kind-requires
eval_kind-read2-kind-requires t c = omega (arith, within c.requires.node)

pub eval_kind-eval_binary-requires : goal.eval_kind-eval_binary-requires
eval_kind-eval_binary-requires t c =
    let k = kinds c.requires.node in (
      omega (arith, c.decreases),
      (c.requires, (omega (arith, k.0, c.read2-kind.ensures.0), omega (arith, k.1, c.read2-kind.ensures.0))),
    )

pub eval_kind-returns-in-128-clause-kept : goal.eval_kind-returns-in-128-clause-kept
eval_kind-returns-in-128-clause-kept t c = unchanged c.requires

pub eval_kind-returns-in-128-clause-evaluates : goal.eval_kind-returns-in-128-clause-evaluates
eval_kind-returns-in-128-clause-evaluates t c =
    λ γ x t rd a. leaf_answers _ (layout_of t) _ γ a (λ k. ap outcome_of c.counted.ensures ∙ ap done c.of.ensures ∙ zero_is c.read2-kind.ensures.0 c.in-128.is k _ γ a)

pub eval_kind-returns-in-129-clause-kept : goal.eval_kind-returns-in-129-clause-kept
eval_kind-returns-in-129-clause-kept t c = unchanged c.requires

pub eval_kind-returns-in-129-clause-evaluates : goal.eval_kind-returns-in-129-clause-evaluates
eval_kind-returns-in-129-clause-evaluates t c =
    λ γ x t rd a. leaf_answers _ (layout_of t) _ γ a (λ k. ap outcome_of c.counted-in-129.ensures ∙ c.constant.ensures k _ γ a)

pub eval_kind-returns-in-130-clause-evaluates : goal.eval_kind-returns-in-130-clause-evaluates
eval_kind-returns-in-130-clause-evaluates t c =
    λ γ x t rd a. leaf_answers _ (layout_of t) _ γ a (λ k. c.field.ensures.tells k γ x a)

pub eval_kind-returns-in-144-clause-kept : goal.eval_kind-returns-in-144-clause-kept
eval_kind-returns-in-144-clause-kept t c = unchanged c.requires

pub eval_kind-returns-in-144-clause-evaluates : goal.eval_kind-returns-in-144-clause-evaluates
eval_kind-returns-in-144-clause-evaluates t c =
    λ γ x t rd a. no_value _ _ c.refused.ensures c.of-in-144.ensures ∙ sum_is c.read2-kind.ensures.0 c.in-144.is _ (layout_of t) _ γ a

-- ---- eval_align

pub eval_align-second_part-q-requires : goal.eval_align-second_part-q-requires
eval_align-second_part-q-requires t c = (
  c.requires.0.node,
  three_parts _ (omega (arith, c.requires.1)) (omega (arith, c.requires.1)),
)

pub eval_align-eval_node-requires : goal.eval_align-eval_node-requires
eval_align-eval_node-requires t c =
    let k = align_child c.second_part-q.ensures c.requires.0.node c.requires.1 in
    (omega (arith, c.decreases, k.2), child_ready c.requires.0 k.0)

pub eval_align-returns-in_default-clause-evaluates : goal.eval_align-returns-in_default-clause-evaluates
eval_align-returns-in_default-clause-evaluates t c =
    λ γ x t rd a. rw c.in_default.is
    (align_stops c.first_part-p.ensures c.second_part-q.ensures c.requires.1 _ (layout_of t) _ γ a (rw c.in_default.is at (c.eval_node.ensures.evaluates γ x t rd)))

pub eval_align-read8-alignment-requires : goal.eval_align-read8-alignment-requires
eval_align-read8-alignment-requires t c = (align_number c.first_part-p.ensures c.requires.0.node c.requires.1).0

pub eval_align-returns-clause-evaluates : goal.eval_align-returns-clause-evaluates
eval_align-returns-clause-evaluates t c =
    λ γ x t rd a. align_goes
    c.first_part-p.ensures
    c.second_part-q.ensures
    c.requires.1 _
    (layout_of t) _ γ a
    (rw c.in-Ok.is at (c.eval_node.ensures.evaluates γ x t rd))
    c.read8-alignment.ensures
    c.align_up.ensures
    c.lifted.ensures

-- ---- eval_operand

pub eval_operand-overflow_add-inner : goal.eval_operand-overflow_add-inner
eval_operand-overflow_add-inner t c = omega (arith, within (c.unwrapped-inner.ensures c.requires.node).node)

pub eval_operand-read2-requires : goal.eval_operand-read2-requires
eval_operand-read2-requires t c = omega (arith, within (c.unwrapped-inner.ensures c.requires.node).node)

pub eval_operand-constant-requires : goal.eval_operand-constant-requires
eval_operand-constant-requires t c = ((c.unwrapped-inner.ensures c.requires.node).node, sym c.read2.ensures.0 ∙ c.if-read2-eq129.true)

pub eval_operand-returns-then-read2-eq129-clause-kept : goal.eval_operand-returns-then-read2-eq129-clause-kept
eval_operand-returns-then-read2-eq129-clause-kept t c = unchanged c.requires

pub eval_operand-returns-then-read2-eq129-clause-evaluates : goal.eval_operand-returns-then-read2-eq129-clause-evaluates
eval_operand-returns-then-read2-eq129-clause-evaluates t c =
    λ γ x t rd a. unwrapped_is c.unwrapped-inner.ensures _ (layout_of t) _ γ (λ b. leaf_answers _ (layout_of t) _ γ b (λ k. ap outcome_of c.counted.ensures ∙ c.constant.ensures k _ γ b)) a

pub eval_operand-eval_node-requires : goal.eval_operand-eval_node-requires
eval_operand-eval_node-requires t c =
    let u = c.unwrapped-inner.ensures c.requires.node in
    (omega (arith, c.decreases, u.short), child_ready c.requires u.node)

pub eval_operand-returns-clause-evaluates : goal.eval_operand-returns-clause-evaluates
eval_operand-returns-clause-evaluates t c =
    λ γ x t rd a. unwrapped_is c.unwrapped-inner.ensures _ (layout_of t) _ γ (c.eval_node.ensures.evaluates γ x t rd) a

-- ---- eval_binary

pub eval_binary-overflow_add-at : goal.eval_binary-overflow_add-at
eval_binary-overflow_add-at t c = omega (arith, within c.requires.0.node)

pub eval_binary-read2-kind-requires : goal.eval_binary-read2-kind-requires
eval_binary-read2-kind-requires t c = omega (arith, within c.requires.0.node)

pub eval_binary-second_part-q-requires : goal.eval_binary-second_part-q-requires
eval_binary-second_part-q-requires t c = (
  c.requires.0.node,
  three_parts _ (omega (arith, c.requires.1.0)) (omega (arith, c.requires.1.1)),
)

pub eval_binary-eval_operand-requires : goal.eval_binary-eval_operand-requires
eval_binary-eval_operand-requires t c =
    let k = left_child c.requires.0.node c.requires.1.0 c.requires.1.1 c.first_part-p.ensures in
    (omega (arith, c.decreases, k.2), child_ready c.requires.0 k.0)

pub eval_binary-returns-in_default-clause-evaluates : goal.eval_binary-returns-in_default-clause-evaluates
eval_binary-returns-in_default-clause-evaluates t c =
    λ γ x t rd a. rw c.in_default.is
    (left_stops a
    c.requires.1.0
    c.requires.1.1
    c.first_part-p.ensures
    c.second_part-q.ensures _
    (layout_of t) _ γ
    (rw c.in_default.is at (c.eval_operand.ensures.evaluates γ x t rd)))

pub eval_binary-eval_node-requires : goal.eval_binary-eval_node-requires
eval_binary-eval_node-requires t c =
    let k = right_child c.requires.0.node c.requires.1.0 c.requires.1.1 c.second_part-q.ensures in
    (omega (arith, c.decreases, k.2), still_ready c.requires.0 k.0 (omega arith) c.eval_operand.ensures.kept)

pub eval_binary-returns-in_default-answer-clause-kept : goal.eval_binary-returns-in_default-answer-clause-kept
eval_binary-returns-in_default-answer-clause-kept t c = kept_both c.eval_operand.ensures.kept c.eval_node.ensures.kept

pub eval_binary-returns-in_default-answer-clause-evaluates : goal.eval_binary-returns-in_default-answer-clause-evaluates
eval_binary-returns-in_default-answer-clause-evaluates t c =
    λ γ x t rd a. rw c.in_default-answer.is
    (right_stops a
    c.requires.1.0
    c.requires.1.1
    c.first_part-p.ensures
    c.second_part-q.ensures _
    (layout_of t) _ γ
    (rw c.in-Ok.is at (c.eval_operand.ensures.evaluates γ x t rd))
    (rw c.in_default-answer.is at (c.eval_node.ensures.evaluates γ (context_kept _ (omega arith) (omega arith) c.eval_operand.ensures.kept x) t rd)))

pub eval_binary-returns-clause-kept : goal.eval_binary-returns-clause-kept
eval_binary-returns-clause-kept t c = kept_both c.eval_operand.ensures.kept c.eval_node.ensures.kept

pub eval_binary-returns-clause-evaluates : goal.eval_binary-returns-clause-evaluates
eval_binary-returns-clause-evaluates t c =
    λ γ x t rd a. both_go a
    c.requires.1.0
    c.requires.1.1
    c.first_part-p.ensures
    c.second_part-q.ensures _
    (layout_of t) _ γ
    (rw c.in-Ok.is at (c.eval_operand.ensures.evaluates γ x t rd))
    (rw c.in-Ok-answer.is at (c.eval_node.ensures.evaluates γ (context_kept _ (omega arith) (omega arith) c.eval_operand.ensures.kept x) t rd))
    c.read2-kind.ensures.0
    c.operate.ensures
    c.lifted.ensures

-- ---- eval_switch

pub eval_switch-returns-in_default-clause-evaluates : goal.eval_switch-returns-in_default-clause-evaluates
eval_switch-returns-in_default-clause-evaluates t c =
    λ γ x t rd a. ap refused c.missing.ensures
    ∙ switch_misses c.requires.1 _ (layout_of t) _ γ a (c.tag.ensures.result_value γ x a) c.in_default.is

pub eval_switch-returns-in_default-selected-clause-evaluates : goal.eval_switch-returns-in_default-selected-clause-evaluates
eval_switch-returns-in_default-selected-clause-evaluates t c =
    λ γ x t rd a. let picked = rw c.in_default-selected.is at (c.selected.ensures a) in
    ap refused c.refused.ensures
    ∙ switch_ends c.requires.1 _ (layout_of t) _ γ a (c.tag.ensures.result_value γ x a) c.in-Some.is picked

pub eval_switch-eval_node-requires : goal.eval_switch-eval_node-requires
eval_switch-eval_node-requires t c =
    let ready = still_ready c.requires.0 c.requires.0.node (omega arith) (kept_now c.requires.0 (omega arith) c.tag.ensures.kept) in
    let picked = rw c.in-Some-selected.is at (c.selected.ensures ready.node) in
    (omega (arith, c.decreases, picked.short), child_ready ready picked.node)

pub eval_switch-returns-clause-evaluates : goal.eval_switch-returns-clause-evaluates
eval_switch-returns-clause-evaluates t c =
    λ γ x t rd a. let picked = rw c.in-Some-selected.is at (c.selected.ensures a) in
    switch_goes
    c.requires.1 _
    (layout_of t) _ γ a
    (c.tag.ensures.result_value γ x a)
    c.in-Some.is
    picked
    (c.eval_node.ensures.evaluates γ (context_now c.requires.0 (omega arith) c.tag.ensures.kept x) t rd)

-- ---- eval_call

pub eval_call-returns-in-Err-clause-evaluates : goal.eval_call-returns-in-Err-clause-evaluates
eval_call-returns-in-Err-clause-evaluates t c =
    λ γ x t rd a. call_lacks c.requires.1 _ (layout_of t) _ γ a (rw c.in-Err.is at (c.collect_arguments.ensures.by_index γ x a))

pub eval_call-returns-in_default-called-clause-evaluates : goal.eval_call-returns-in_default-called-clause-evaluates
eval_call-returns-in_default-called-clause-evaluates t c =
    λ γ x t rd a. ap refused c.plain.ensures
    ∙ call_unknown
    c.requires.1 _
    (layout_of t) _ γ a
    (rw c.in_default.is at (c.collect_arguments.ensures.by_index γ x a)).1
    c.in_default-called.is
    (c.called.ensures t rd a)

pub eval_call-returns-then-f-eq16-clause-evaluates : goal.eval_call-returns-then-f-eq16-clause-evaluates
eval_call-returns-then-f-eq16-clause-evaluates t c =
    λ γ x t rd a. no_value _ _ c.refused.ensures c.of.ensures
    ∙ call_stops
    c.requires.1 _
    (layout_of t) _ γ a
    (rw c.in_default.is at (c.collect_arguments.ensures.by_index γ x a)).1
    (found_at_lem c.in-Some.is (c.called.ensures t rd a)).1
    (omega (arith, c.if-f-eq16.true))

pub eval_call-root-top-requires : goal.eval_call-root-top-requires
eval_call-root-top-requires t c =
    let l = c.requires.0.layout in
    (found_at_lem c.in-Some.is (c.called.ensures l.0 l.1 c.requires.0.node)).0

-- the call may open
opening : (t : ℕ) (c : eval_call-After-root-top t) → Opening c.args.inputs.now.layout.now c.collect_arguments.new.words c.args.f c.args.at c.in-Some.callee.at
opening t c =
    let kept = kept_now c.requires.0 (omega arith) c.collect_arguments.ensures.kept in
    let ready = still_ready c.requires.0 c.requires.0.node (omega arith) kept in
    call_opens ready c.in-Some.is c.called.ensures c.if-f-eq16.false

pub eval_call-overflow_mul-words : goal.eval_call-overflow_mul-words
eval_call-overflow_mul-words t c = let o = opening t c in omega arith

pub eval_call-overflow_add-words : goal.eval_call-overflow_add-words
eval_call-overflow_add-words t c = let o = opening t c in omega arith

pub eval_call-eval_node-requires : goal.eval_call-eval_node-requires
eval_call-eval_node-requires t c =
    let o = opening t (goal.at.eval_call-eval_node-requires t c).After-root-top in
    let ready = still_ready c.requires.0 c.requires.0.node (omega arith) (kept_now c.requires.0 (omega arith) c.collect_arguments.ensures.kept) in
    let type = (found_at_lem c.in-Some.is (c.called.ensures ready.layout.0 ready.layout.1 ready.node)).0 in (
      omega (arith, c.decreases, ready.small, (ends (c.root-top.ensures type).root).1),
      call_ready c.args.inputs.now _
          o.word
          (omega arith) refl
          c.requires.1
          c.in-Some.is
          (bound_now c.requires.0 (omega arith) c.collect_arguments.ensures.kept (λ γ x a. rw c.in_default.is at (c.collect_arguments.ensures.by_index γ x a)))
          c.called.ensures
          c.root-top.ensures
          o.more ready,
    )

pub eval_call-returns-clause-evaluates : goal.eval_call-returns-clause-evaluates
eval_call-returns-clause-evaluates t c =
    let o = opening t (goal.at.eval_call-returns-clause-evaluates t c).After-root-top in
    λ γ x. call_answers c.args.inputs.now _
    o.word
    (omega arith) refl
    c.requires.1
    c.in-Some.is
    (bound_now c.requires.0 (omega arith) c.collect_arguments.ensures.kept (λ γ x a. rw c.in_default.is at (c.collect_arguments.ensures.by_index γ x a)))
    c.called.ensures
    c.root-top.ensures
    o.more _
    c.eval_node.ensures.evaluates γ
    (context_now c.requires.0 (omega arith) c.collect_arguments.ensures.kept x)
