-- 19 and 1, then the reading.
use Rattle.std.proofs.Common.{◌∙◌}
use Rattle.errors.specs.Refusal.{◌>>=◌}
use Rattle.reader_calls.proofs.Laws.{hands, one_asked}
use Rattle.reader_calls.proofs.one_read.Goals as goal

pub returns-in_err-asked : goal.returns-in_err-asked
unfolding ◌>>=◌
returns-in_err-asked c =
    hands _ c.from_residual.result c.from_residual.ensures.1 ∙ one_asked c.args.n c.args.s.now c.args.room c.args.kind c.in_err-asked.ensures

pub returns : goal.returns
unfolding ◌>>=◌
returns c = c.read_through.ensures ∙ one_asked c.args.n c.args.s.now c.args.room c.args.kind c.in_ok-asked.ensures
