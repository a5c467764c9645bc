-- 19 and 1 of the other input, then the layout's answer, then the reading of the other input.
use Rattle.std.proofs.Common.{◌∙◌}
use Rattle.errors.specs.Refusal.{◌>>=◌}
use Rattle.reader_calls.proofs.Laws.{hands, other_stops, other_goes}
use Rattle.reader_calls.proofs.other_read.Goals as goal

pub returns-in_err-asked : goal.returns-in_err-asked
returns-in_err-asked c =
    λ l d. hands _ c.from_residual.result c.from_residual.ensures.1 ∙ other_stops _ l _ _ c.in_err-asked.ensures

pub returns-in_err-layout : goal.returns-in_err-layout
unfolding ◌>>=◌
returns-in_err-layout c =
    λ l d. hands _ c.from_residual-in_err-layout.result c.from_residual-in_err-layout.ensures.1
    ∙ other_goes c.args.n l c.args.input.now c.args.kind c.in_ok-asked.ensures (rw c.in_err-layout.was at d)

pub returns : goal.returns
unfolding ◌>>=◌
returns c =
    λ l d. c.read_through.ensures
    ∙ other_goes c.args.n l c.args.input.now c.args.kind c.in_ok-asked.ensures (rw c.in_ok-layout.was at d)
