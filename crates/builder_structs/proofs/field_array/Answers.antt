-- The array's node, and the references of the field's type behind it.
use Rattle.std.proofs.Common.{arith}
use Rattle.std.proofs.lemmas.Result.{IfOk-weaker}
use Rattle.answers.proofs.Laws.{hands}
use Rattle.resolved_parts.proofs.Laws.{inside, named_short}
use Rattle.builder_registry.proofs.Laws.{standing}
use Rattle.builder_nodes.proofs.Laws.{builds_index, widened}
use Rattle.builder_structs.proofs.Field.{own_within, array_stops, array_built}
use Rattle.builder_structs.proofs.field_array.Goals as goal

pub build_array_node_with_prefix-requires : goal.build_array_node_with_prefix-requires
build_array_node_with_prefix-requires c = record {
  ready = record {
    standing = c.requires.field.base.standing;
    type = c.requires.field.base.type_at;
    kind = c.requires.kind_is;
    cursor = omega (arith, inside c.requires.field.base.type_at, c.requires.field.base.standing.size, c.requires.field.base.cursor);
  };
  owned = named_short c.requires.field.named c.name_at-owner.ensures;
  deep = omega (arith, inside c.requires.field.base.type_at, c.requires.field.base.standing.size);
}

pub returns-in_err-node-clause-builds : goal.returns-in_err-node-clause-builds
returns-in_err-node-clause-builds c = λ t refs a q.
    hands _ c.from_residual.ensures.1 (array_stops _ _ c.requires.kind_is c.name_at-owner.ensures c.in_err-node.ensures.builds t refs a q)

pub enter_behind-requires : goal.enter_behind-requires
enter_behind-requires c = (
  standing c.requires.field.base.standing c.build_array_node_with_prefix.auto.words c.in_ok-node.ensures.within.count
      (builds_index (c.in_ok-node.ensures.builds c.requires.field.base.type_at)),
  c.requires.field.base.type_at,
)

pub returns-clause-within : goal.returns-clause-within
returns-clause-within c =
    IfOk-weaker c.enter_behind.result _ _
    (λ b e. widened (omega (arith, inside c.requires.field.base.type_at, c.requires.field.base.standing.size)) (own_within c.in_ok-node.ensures.within e))
    c.enter_behind.ensures.at_value

pub returns-clause-builds : goal.returns-clause-builds
returns-clause-builds c =
    array_built _ _ c.requires.kind_is c.name_at-owner.ensures c.in_ok-node.ensures.builds c.enter_behind.ensures.enters_own
