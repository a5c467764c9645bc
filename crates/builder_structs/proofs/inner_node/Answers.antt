-- By the kind of the type: a switch, behind which its own references enter, or a call.
use Rattle.std.proofs.Common.{◌∙◌, sym, arith}
use Rattle.answers.proofs.Laws.{hands}
use Rattle.resolved_parts.proofs.Laws.{kind_of_lem}
use Rattle.builder_registry.proofs.Laws.{standing}
use Rattle.builder_structs.proofs.Field.{enum_stops, enum_inner, enum_index, sized_stops, sized_inner, sized_index, call_inner, kind_inside}
use Rattle.builder_structs.proofs.inner_node.Goals as goal

pub overflow_add-kind : goal.overflow_add-kind
overflow_add-kind c = omega (arith, kind_inside c.requires.type_at, c.requires.standing.size)

pub read2-requires : goal.read2-requires
read2-requires c = omega (arith, kind_inside c.requires.type_at)

pub returns-in_err-node-in-4-clause-builds : goal.returns-in_err-node-in-4-clause-builds
returns-in_err-node-in-4-clause-builds c = λ t a q.
    hands _ c.from_residual.ensures.1 (enum_stops _ (sym c.read2.ensures.0 ∙ c.in-4.is) c.in_err-node-in-4.ensures.builds t a q)

pub enter_behind-requires : goal.enter_behind-requires
enter_behind-requires c = (
  standing c.requires.standing c.build_enum_node.auto.words c.in_ok-node-in-4.ensures.within.count
      (enum_index _ (sym c.read2.ensures.0 ∙ c.in-4.is) c.in_ok-node-in-4.ensures.builds c.requires.type_at),
  c.requires.type_at,
)

pub returns-in_err-node-in-6-clause-builds : goal.returns-in_err-node-in-6-clause-builds
returns-in_err-node-in-6-clause-builds c = λ t a q.
    hands _ c.from_residual-in_err-node-in-6.ensures.1
    (sized_stops _ (sym c.read2.ensures.0 ∙ c.in-6.is) c.in_err-node-in-6.ensures.builds t a q)

pub enter_behind-requires-in-6 : goal.enter_behind-requires-in-6
enter_behind-requires-in-6 c = (
  standing c.requires.standing c.build_size_discriminated_union_node.auto.words c.in_ok-node-in-6.ensures.within.count
      (sized_index _ (sym c.read2.ensures.0 ∙ c.in-6.is) c.in_ok-node-in-6.ensures.builds c.requires.type_at),
  c.requires.type_at,
)

pub build_typeref_node-requires : goal.build_typeref_node-requires
build_typeref_node-requires c = record {
  standing = c.requires.standing;
  set = c.requires.set;
  type_at = c.requires.type_at;
  kind_is = omega (arith, kind_of_lem c.requires.type_at, c.read2.ensures.0);
  cursor = omega (arith, c.requires.cursor);
}

pub returns-in_ok-node-in-4-clause-builds : goal.returns-in_ok-node-in-4-clause-builds
returns-in_ok-node-in-4-clause-builds c =
    enum_inner _ (sym c.read2.ensures.0 ∙ c.in-4.is) c.in_ok-node-in-4.ensures.builds c.enter_behind.ensures.enters_own

pub returns-in_ok-node-in-6-clause-builds : goal.returns-in_ok-node-in-6-clause-builds
returns-in_ok-node-in-6-clause-builds c =
    sized_inner _ (sym c.read2.ensures.0 ∙ c.in-6.is) c.in_ok-node-in-6.ensures.builds c.enter_behind-in-6.ensures.enters_own

pub returns-in_default-clause-builds : goal.returns-in_default-clause-builds
returns-in_default-clause-builds c = call_inner _ (omega (arith, kind_of_lem c.requires.type_at, c.read2.ensures.0)) c.build_typeref_node.ensures.builds
