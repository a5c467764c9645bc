-- The references enter behind the node, or are refused.
use Rattle.answers.proofs.Laws.{hands}
use Rattle.builder_structs.proofs.Field.{own_stops, own_enters}
use Rattle.builder_structs.proofs.enter_behind.Goals as goal

pub returns-in_err-count-clause-enters_own : goal.returns-in_err-count-clause-enters_own
returns-in_err-count-clause-enters_own c = λ a xs ys at m g b.
    hands _ c.from_residual.ensures.1 (own_stops _ (c.in_err-count.ensures.kept a) xs ys at m g b)

pub returns-clause-enters_own : goal.returns-clause-enters_own
returns-clause-enters_own c = λ a. own_enters _ (c.in_ok-count.ensures.kept a)
