-- A table without slots has zeros for its heads.
use Rattle.std.proofs.lemmas.List.{length-take-le}
use Rattle.marks.proofs.Tables.{linked_clear}
use Rattle.marks.proofs.clear.Goals as goal

pub returns : goal.returns
returns c = λ f. linked_clear f _ _ _ (length-take-le 127 c.args.table.now c.requires) (c.fill.ensures.after (λ y e. e))
