use borrow.Author.Rules.{rules}
use native.Mathlib.Omega.{arith}
use Rattle.answers.proofs.Laws.{hands}
use Rattle.builder_registry.proofs.Laws.{standing, kept_index}
use Rattle.builder_registry.proofs.Extend.{paths_begin, path_named, paths_more, paths_stop, paths_end}
use Rattle.builder_registry.proofs.ensure_all.Goals as goal

pub loop-init : goal.loop-init
loop-init c = (omega (arith, c.requires.0.count), search rules, paths_begin _ _ c.requires.2, c.requires.0.index)

pub ensure-requires : goal.ensure-requires
ensure-requires c = (
  standing c.requires.0 c.loop.invariant.1 c.loop.invariant.0 c.loop.invariant.3,
  omega (arith, c.marked_owner-marked.ensures.at_value),
  rw c.marked_owner-marked.ensures.at_value c.marked_owner-marked.ensures.mark_value,
  omega (arith, path_named _ _ _ (omega arith) c.loop.invariant.2),
)

pub returns-in_err-count-clause-kept : goal.returns-in_err-count-clause-kept
returns-in_err-count-clause-kept c = λ p. hands _ c.from_residual.ensures.1
    (paths_stop _ _ _ (omega arith) (rw c.marked_owner-marked.ensures.at_value at c.in_err-count.ensures.kept) c.loop.invariant.2 p)

pub next_name-at-requires : goal.next_name-at-requires
next_name-at-requires c = (path_named _ _ _ (omega arith) c.loop.invariant.2).inside

pub loop-preserved : goal.loop-preserved
loop-preserved c = (
  c.in_ok-count.ensures.count_bound,
  search rules,
  paths_more _ _ _ (omega arith) c.next_name-at.ensures (rw c.marked_owner-marked.ensures.at_value at c.in_ok-count.ensures.kept) c.loop.invariant.2,
  kept_index c.in_ok-count.ensures.kept,
)

pub returns-clause-kept : goal.returns-clause-kept
returns-clause-kept c = paths_end _ _ (omega arith) c.loop.invariant.3 c.loop.invariant.2
