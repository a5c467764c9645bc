-- The words are cleared, then the questions are put.
use Rattle.std.proofs.Common.{ap, ◌∙◌}
use Rattle.errors.specs.Answer.{read}
use Rattle.reader_calls.proofs.Laws.{hands_refusal, read_passed}
use Rattle.reader_calls.proofs.read_call.Goals as goal

pub returns-in_err-one_read-clause-result_value : goal.returns-in_err-one_read-clause-result_value
unfolding read
returns-in_err-one_read-clause-result_value c =
    hands_refusal _ c.from_residual.result c.from_residual.ensures.1 ∙ (ap read c.in_err-one_read.ensures ∙ read_passed _)

pub returns-clause-result_value : goal.returns-clause-result_value
unfolding read
returns-clause-result_value c = rw c.of.ensures (ap read c.in_ok-one_read.ensures ∙ read_passed _)
