-- The three questions of 18.
use Rattle.std.proofs.Common.{◌∙◌, arith}
use Rattle.builder_set.proofs.Laws.{holds_not, holds_read}
use Rattle.builder_set.proofs.holds.Goals as goal

pub returns-then-out-n : goal.returns-then-out-n
returns-then-out-n c = holds_not _ _ c.then-out-n.either

pub returns : goal.returns
returns c = c.is_ok.ensures.value ∙ holds_read _ _ _ _ (omega arith) (omega arith) c.read_input.ensures
