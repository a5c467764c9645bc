-- The node inside, in an AlignUp node.
use Rattle.answers.proofs.Laws.{hands}
use Rattle.builder_structs.proofs.Field.{inner_stops, inner_aligned}
use Rattle.builder_structs.proofs.field_aligned.Goals as goal

pub returns-in_err-node-clause-builds : goal.returns-in_err-node-clause-builds
returns-in_err-node-clause-builds c = λ t a q. hands _ c.from_residual.ensures.1 (inner_stops _ c.in_err-node.ensures.builds t a q)

pub returns-clause-builds : goal.returns-clause-builds
returns-clause-builds c = inner_aligned _ c.type_head-alignment.ensures c.open_align-p.ensures.wrote c.close_block.ensures.wrote c.in_ok-node.ensures.builds
