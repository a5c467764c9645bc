use Prim.Native.Nat.{◌-◌}
use borrow.Author.Rules.{rules}
use native.Mathlib.Omega.{arith}
use lib.ListN.{length}
use Rattle.interpreter.specs.Validate.{validate_run}
use Rattle.interpreter.specs.Runs.{validate_runs}
use mathlib.Core.Path.{◌≡◌, refl, ◌∙◌}
use Rattle.interpreter_runs.proofs.Loop.{Answering, answering_start, answering_end, answering_full, answering_more}
use Rattle.interpreter_runs.proofs.answer_all.Goals as goal

pub loop-i-init : goal.loop-i-init
loop-i-init c = (refl, answering_start _ _ _)

pub returns-then-out-at-lt4 : goal.returns-then-out-at-lt4
unfolding validate_runs
returns-then-out-at-lt4 c = record {
  words_len_unchanged = c.loop-i.invariant.0;
  wrote = answering_full c.loop-i.invariant.1 c.if-out-at-lt4.true;
}

pub loop-i-preserved : goal.loop-i-preserved
loop-i-preserved c = (
  c.answer-a.ensures.words_len_unchanged ∙ c.loop-i.invariant.0,
  answering_more
      c.loop-i.invariant.1
      c.loop-i-test.true
      c.if-out-at-lt4.false
      c.run_end-end.ensures
      c.answer-a.ensures.result_value
      c.put_answer-at.ensures,
)

pub returns : goal.returns
unfolding validate_runs
returns c = record {
  words_len_unchanged = c.loop-i.invariant.0;
  wrote = answering_end c.loop-i.invariant.1 c.loop-i-test.false;
}
