-- The sum of the paths that end in `.payload_size`, in an AlignUp node.
use Rattle.answers.proofs.Laws.{hands}
use Rattle.builder_structs.proofs.Field.{payload_stops, payload_built}
use Rattle.builder_structs.proofs.put_payload.Goals as goal

pub returns-in_err-node-clause-builds : goal.returns-in_err-node-clause-builds
returns-in_err-node-clause-builds c = λ p a.
    hands _ c.from_residual.ensures.1 (payload_stops _ _ c.name_at-owner.ensures c.in_err-node.ensures.builds p a)

pub returns-clause-builds : goal.returns-clause-builds
returns-clause-builds c =
    payload_built _ _ c.name_at-owner.ensures c.in_ok-node.ensures.builds c.type_head-alignment.ensures c.open_align-p.ensures.wrote c.close_block.ensures.wrote
