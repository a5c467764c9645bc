-- the parameter where the owner is the same, and one more is counted
use Rattle.builder_registry.proofs.Puts.{puts_yes, puts_no, counts_yes, counts_no}
use Rattle.builder_registry.proofs.put_one.Goals as goal

pub returns-then-mine-clause-wrote : goal.returns-then-mine-clause-wrote
returns-then-mine-clause-wrote c = puts_yes _ _ _ c.if-mine.true c.put_parameter-end.ensures.wrote

pub returns-then-mine-clause-count_value : goal.returns-then-mine-clause-count_value
returns-then-mine-clause-count_value c = counts_yes _ _ _ _ c.if-mine.true

pub returns-clause-wrote : goal.returns-clause-wrote
returns-clause-wrote c = puts_no _ _ _ _ _ c.if-mine.false

pub returns-clause-count_value : goal.returns-clause-count_value
returns-clause-count_value c = counts_no _ _ _ _ c.if-mine.false
