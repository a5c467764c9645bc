-- A refusal ends it, else the run is evaluated.
use Rattle.std.proofs.Common.{[], refl}
use Rattle.interpreter_validate.proofs.Laws.{stops, goes, given, asked_room}
use Rattle.interpreter_validate.proofs.counted_run.Goals as goal

pub run_lent-requires : goal.run_lent-requires
run_lent-requires c =
    (given c.requires.1.questions c.in_ok-judged.was, asked_room c.requires.1 c.in_ok-judged.was)

pub returns-in_err-judged : goal.returns-in_err-judged
returns-in_err-judged c = record {
  words_len_unchanged = refl;
  called = λ n asked. stops asked.questions [] c.from_residual.result c.in_err-judged.was c.from_residual.ensures.1;
}

pub returns : goal.returns
returns c = record {
  words_len_unchanged = c.run_lent.ensures.words_len_unchanged;
  called = λ n asked. goes asked.questions c.in_ok-judged.was [] c.run_lent.result c.run_lent.ensures.answers;
}
