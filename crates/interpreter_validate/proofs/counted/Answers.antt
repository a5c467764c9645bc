-- A refusal ends it, else the type is evaluated.
use Rattle.std.proofs.Common.{refl}
use Rattle.interpreter_validate.proofs.Laws.{stops, goes, given, asked_room, values_located, values_answer}
use Rattle.interpreter_validate.proofs.counted.Goals as goal

pub type_lent-requires : goal.type_lent-requires
type_lent-requires c =
    (values_located (given c.requires.1.questions c.in_ok-judged.was), asked_room c.requires.1 c.in_ok-judged.was)

pub returns-in_err-judged : goal.returns-in_err-judged
returns-in_err-judged c = record {
  words_len_unchanged = refl;
  called = λ n asked. stops asked.questions _ c.from_residual.result c.in_err-judged.was c.from_residual.ensures.1;
}

pub returns : goal.returns
returns c = record {
  words_len_unchanged = c.type_lent.ensures.words_len_unchanged;
  called = λ n asked. goes asked.questions c.in_ok-judged.was _ c.type_lent.result
      (values_answer _ _ _ _ c.type_lent.result c.type_lent.ensures.type_answers);
}
