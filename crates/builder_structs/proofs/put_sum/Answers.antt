-- The sum of the paths, and the references of the field's type behind it.
use Rattle.std.proofs.Common.{refl}
use Rattle.answers.proofs.Laws.{hands}
use Rattle.builder_registry.proofs.Laws.{standing}
use Rattle.builder_nodes.proofs.Laws.{builds_index}
use Rattle.builder_structs.proofs.Field.{sum_stops}
use Rattle.builder_structs.proofs.put_sum.Goals as goal

pub returns-in_err-node-clause-builds : goal.returns-in_err-node-clause-builds
returns-in_err-node-clause-builds c = λ p a.
    hands _ c.from_residual.ensures.1 (sum_stops _ _ c.name_at-owner.ensures c.in_err-node.ensures.builds p a)

pub enter_behind-requires : goal.enter_behind-requires
enter_behind-requires c = (
  standing c.requires.field.base.standing refl c.in_ok-node.ensures.within.count (builds_index (c.in_ok-node.ensures.builds c.requires.list)),
  c.requires.field.base.type_at,
)
