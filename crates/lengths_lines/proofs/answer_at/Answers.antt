-- `answer_at` meets its contract: a count is at most the buffer length, so the fill is that of the definition.
use native.Mathlib.Omega.{arith}
use Rattle.lengths_lines.proofs.Laws.{layout_passed, run_accepted, run_within, answers_count, answers_stop, answers_refused}
use Rattle.lengths_lines.proofs.answer_at.Goals as goal

pub answer_alone-requires : goal.answer_alone-requires
answer_alone-requires c = layout_passed c.requires.0

pub run_length-len-requires : goal.run_length-len-requires
run_length-len-requires c =
    run_accepted _ _ _ c.answer_alone.ensures c.in-Ok.is c.low-n.ensures

pub fill-part-requires : goal.fill-part-requires
fill-part-requires c =
    run_within _ _ _
    c.answer_alone.ensures
    c.in-Ok.is
    c.low-n.ensures
    c.run_length-len.ensures

pub returns-then-number-le-LAST_OF_INPUT : goal.returns-then-number-le-LAST_OF_INPUT
returns-then-number-le-LAST_OF_INPUT c = record {
  answered = answers_stop _ _ _
      c.answer_alone.ensures
      c.in-Err.is _
      (rw c.number-number.ensures at c.if-number-le-LAST_OF_INPUT.true)
      (rw c.number-number.ensures at c.put_stopped.ensures.wrote);
  result_bound = omega arith;
}

pub returns-in-Ok : goal.returns-in-Ok
returns-in-Ok c = record {
  answered = answers_count _ _ _
      c.answer_alone.ensures
      c.in-Ok.is
      c.low-n.ensures _
      c.run_length-len.ensures
      c.fill-part.ensures
      c.put_line.ensures.wrote;
  result_bound = omega arith;
}

pub returns-else-number-le-LAST_OF_INPUT : goal.returns-else-number-le-LAST_OF_INPUT
returns-else-number-le-LAST_OF_INPUT c = record {
  answered = answers_refused _ _ _
      c.answer_alone.ensures
      c.in-Err.is _
      (rw c.number-number.ensures at c.if-number-le-LAST_OF_INPUT.false)
      c.low.ensures
      (rw c.number-number.ensures at c.put_line-in-Err.ensures.wrote);
  result_bound = omega arith;
}
