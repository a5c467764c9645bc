-- The table says whether the part is a list of cases or of arguments.
use Rattle.builder_nodes.proofs.Parts.{count_there, count_other}
use Rattle.builder_nodes.proofs.put_count_part.Goals as goal

pub returns-then-code-eq-CASES-clause-wrote : goal.returns-then-code-eq-CASES-clause-wrote
returns-then-code-eq-CASES-clause-wrote c = count_there c.node_part-code.ensures _ c.then-code-eq-CASES.either c.put_le.ensures.wrote

pub returns-clause-wrote : goal.returns-clause-wrote
returns-clause-wrote c = count_other c.node_part-code.ensures _ c.if-code-eq-CASES.false c.if-code-eq-ARGUMENTS.false
