use borrow.Author.Rules.{rules}
use native.Mathlib.Omega.{arith}
use Rattle.answers.proofs.Laws.{hands}
use Rattle.resolved_parts.proofs.Owners.{references_inside}
use Rattle.builder_registry.proofs.Laws.{standing, kept_index}
use Rattle.builder_registry.proofs.Extend.{owners_begin, owner_at, owner_inside, owners_more, owners_stop, owners_end}
use Rattle.builder_registry.proofs.extend_with.Goals as goal

pub overflow_add-at : goal.overflow_add-at
overflow_add-at c = omega (arith, references_inside c.requires.1)

pub overflow_add-at-2 : goal.overflow_add-at-2
overflow_add-at-2 c = omega (arith, references_inside c.requires.1)

pub overflow_add-references : goal.overflow_add-references
overflow_add-references c = omega (arith, references_inside c.requires.1)

pub read2-end-requires : goal.read2-end-requires
read2-end-requires c = omega (arith, references_inside c.requires.1)

pub loop-init : goal.loop-init
loop-init c = (omega (arith, c.requires.0.count), search rules, owners_begin _ c.requires.1, c.requires.0.index)

pub owner_paths-paths-requires : goal.owner_paths-paths-requires
owner_paths-paths-requires c = owner_at _ _ (omega arith) c.loop.invariant.2

pub overflow_add-at-in-loop : goal.overflow_add-at-in-loop
overflow_add-at-in-loop c = omega (arith, owner_inside _ _ (omega arith) c.loop.invariant.2)

pub ensure_all-requires : goal.ensure_all-requires
ensure_all-requires c = let o = c.owner_paths-paths.ensures (owner_at _ _ (omega arith) c.loop.invariant.2) in
    (standing c.requires.0 c.loop.invariant.1 c.loop.invariant.0 c.loop.invariant.3, omega (arith, o.named), o.paths)

pub returns-in_err-count-clause-kept : goal.returns-in_err-count-clause-kept
returns-in_err-count-clause-kept c = λ a. hands _ c.from_residual.ensures.1
    (owners_stop _ _ (omega arith) _ c.owner_paths-paths.ensures c.in_err-count.ensures.kept c.loop.invariant.2 a)

pub overflow_add-at-in-loop-2 : goal.overflow_add-at-in-loop-2
overflow_add-at-in-loop-2 c = omega (arith, owner_inside _ _ (omega arith) c.loop.invariant.2)

pub read4-requires : goal.read4-requires
read4-requires c = omega (arith, owner_inside _ _ (omega arith) c.loop.invariant.2)

pub overflow_add-at-in-loop-3 : goal.overflow_add-at-in-loop-3
overflow_add-at-in-loop-3 c = omega (arith, c.read4.ensures.0, owner_inside _ _ (omega arith) c.loop.invariant.2)

pub loop-preserved : goal.loop-preserved
loop-preserved c = let o = c.owner_paths-paths.ensures (owner_at _ _ (omega arith) c.loop.invariant.2) in (
  c.in_ok-count.ensures.count_bound,
  search rules,
  owners_more _ _ (omega arith) _ c.owner_paths-paths.ensures c.read4.ensures.0 c.in_ok-count.ensures.kept c.loop.invariant.2,
  kept_index (c.in_ok-count.ensures.kept o.paths),
)

pub returns-clause-kept : goal.returns-clause-kept
returns-clause-kept c = owners_end _ (omega arith) c.loop.invariant.3 c.loop.invariant.2
