use Rattle.std.proofs.Common.{refl, arith}
use Rattle.answers.proofs.Laws.{hands}
use Rattle.builder_registry.proofs.Laws.{standing}
use Rattle.builder_switches.proofs.Cases.{cases_begin, next_block, next_low, cases_stop, cases_more, cases_end}
use Rattle.builder_switches.proofs.put_cases.Goals as goal

pub loop-index-init : goal.loop-index-init
loop-index-init c = cases_begin c.args.list.kind c.requires.standing.count c.requires.standing.index c.requires.list

pub put_case-requires : goal.put_case-requires
put_case-requires c = record {
  standing = standing c.requires.standing refl c.loop-index.invariant.within.count c.loop-index.invariant.index;
  references_at = c.requires.references_at;
  block_at = next_block c.loop-index-test.true c.loop-index.invariant;
  cursor = omega (arith, c.requires.cursor, c.requires.most, c.loop-index.invariant.within.high, c.loop-index-test.true);
}

pub returns-in_err-built-clause-cases : goal.returns-in_err-built-clause-cases
returns-in_err-built-clause-cases c =
    λ l a. hands _ c.from_residual.ensures.1 (cases_stop c.loop-index-test.true c.loop-index.invariant c.in_err-built.ensures.case_at l a)

pub overflow_add-block : goal.overflow_add-block
overflow_add-block c = omega (arith, next_low c.loop-index-test.true c.loop-index.invariant)

pub read4-requires : goal.read4-requires
read4-requires c = omega (arith, next_low c.loop-index-test.true c.loop-index.invariant)

pub overflow_add-block-in-loop-index : goal.overflow_add-block-in-loop-index
overflow_add-block-in-loop-index c = omega (arith, next_low c.loop-index-test.true c.loop-index.invariant, c.read4.ensures.0)

pub loop-index-preserved : goal.loop-index-preserved
loop-index-preserved c =
    cases_more
    c.loop-index-test.true
    c.loop-index.invariant
    c.in_ok-built.ensures.case_at
    c.requires.references_at
    c.in_ok-built.ensures.within
    c.read4.ensures.0

pub returns-clause-cases : goal.returns-clause-cases
returns-clause-cases c = cases_end c.loop-index-test.false c.loop-index.invariant
