-- 19 and 1 of the other input, then the layout's questions, then the reading of the other input.
use Rattle.std.proofs.Common.{◌∙◌}
use Rattle.errors.specs.Refusal.{◌>>=◌}
use Rattle.reader_calls.proofs.Laws.{hands, other_stops, other_goes}
use Rattle.reader_calls.proofs.both_read.Goals as goal

pub returns-in_err-asked : goal.returns-in_err-asked
returns-in_err-asked c =
    hands _ c.from_residual.result c.from_residual.ensures.1 ∙ other_stops _ _ _ _ c.in_err-asked.ensures

pub returns-in_err-one_read : goal.returns-in_err-one_read
unfolding ◌>>=◌
returns-in_err-one_read c =
    hands _ c.from_residual-in_err-one_read.result c.from_residual-in_err-one_read.ensures.1
    ∙ other_goes c.args.n c.args.layout.now c.args.other.now c.args.kind c.in_ok-asked.ensures c.in_err-one_read.ensures

pub returns : goal.returns
unfolding ◌>>=◌
returns c =
    c.read_through.ensures
    ∙ other_goes c.args.n c.args.layout.now c.args.other.now c.args.kind c.in_ok-asked.ensures c.in_ok-one_read.ensures
