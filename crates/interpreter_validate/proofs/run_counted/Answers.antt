-- A refusal ends it, else the run is evaluated with words of its own.
use Rattle.std.proofs.Common.{[]}
use Rattle.interpreter_validate.proofs.Laws.{stops, goes, given}
use Rattle.interpreter_validate.proofs.run_counted.Goals as goal

pub run_alone-requires : goal.run_alone-requires
run_alone-requires c = given c.requires.1 c.in_ok-judged.was

pub returns-in_err-judged : goal.returns-in_err-judged
returns-in_err-judged c =
    λ n q. stops q [] c.from_residual.result c.in_err-judged.was c.from_residual.ensures.1

pub returns : goal.returns
returns c = λ n q. goes q c.in_ok-judged.was [] c.run_alone.result c.run_alone.ensures
