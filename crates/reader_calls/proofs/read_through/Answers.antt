-- What was read is forgotten.
use Rattle.std.proofs.Common.{◌∙◌}
use Rattle.reader_calls.specs.Inputs.{passed}
use Rattle.reader_calls.proofs.Laws.{hands, input_passed}
use Rattle.reader_calls.proofs.read_through.Goals as goal

pub returns : goal.returns
unfolding passed
returns c = input_passed _ _ c.in_ok-read_input.ensures

pub returns-in_err-read_input : goal.returns-in_err-read_input
unfolding passed
returns-in_err-read_input c =
    hands _ c.from_residual.result c.from_residual.ensures.1 ∙ input_passed _ _ c.in_err-read_input.ensures
