-- `nearest` meets its contract: the rest held against what is missing decides as twice the rest held against the length.
use Rattle.lengths_lines.proofs.Laws.{nearest_down, nearest_up, nearest_even}
use Rattle.lengths_lines.proofs.nearest.Goals as goal

pub returns-then-rest-missing : goal.returns-then-rest-missing
returns-then-rest-missing c = nearest_down _ _ _ c.requires.1 c.if-rest-missing.true

pub returns-then-missing-rest : goal.returns-then-missing-rest
returns-then-missing-rest c = nearest_up _ _ _ c.requires.1 c.if-missing-rest.true

pub returns : goal.returns
returns c = nearest_even _ _ _ c.requires.1 c.if-rest-missing.false c.if-missing-rest.false
