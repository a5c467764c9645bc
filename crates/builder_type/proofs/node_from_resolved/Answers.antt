-- A type reference is a call, any other type of constant size a constant, and one of variable size what the builder of its kind
-- leaves; a primitive type is refused.
use Rattle.std.proofs.Common.{refl, arith}
use Rattle.std.proofs.lemmas.Result.{IfOk-weaker}
use Rattle.resolved_parts.proofs.Laws.{kind_of_lem}
use Rattle.builder_type.proofs.Root.{array_ready, short_type, array_wide}
use Rattle.builder_type.proofs.Root.{call_built, const_built, struct_built, union_built, enum_built, array_built, sized_built, primitive_built}
use Rattle.builder_type.proofs.node_from_resolved.Goals as goal

pub overflow_add-kind : goal.overflow_add-kind
overflow_add-kind c = omega (arith, (short_type c.requires.type_at c.requires.standing.size).0)

pub read2-k-requires : goal.read2-k-requires
read2-k-requires c = omega (arith, (short_type c.requires.type_at c.requires.standing.size).0)

pub returns-then-k-eq-REFERENCE-clause-builds : goal.returns-then-k-eq-REFERENCE-clause-builds
returns-then-k-eq-REFERENCE-clause-builds c = call_built _ c.read2-k.ensures.0 c.if-k-eq-REFERENCE.true c.build_typeref_node.ensures.builds

pub returns-in-Some-clause-builds : goal.returns-in-Some-clause-builds
returns-in-Some-clause-builds c =
    const_built _ c.read2-k.ensures.0 c.type_head-head.ensures c.in-Some.is c.if-k-eq-REFERENCE.false refl c.requires.standing.index c.put_const-end.ensures.wrote

pub build_array_node-requires : goal.build_array_node-requires
build_array_node-requires c = array_ready c.requires c.read2-k.ensures.0 c.in-5.is

pub returns-in-2-clause-builds : goal.returns-in-2-clause-builds
returns-in-2-clause-builds c = struct_built _ c.read2-k.ensures.0 c.type_head-head.ensures c.in_default.is c.in-2.is c.build_variable_struct.ensures.builds

pub returns-in-3-clause-builds : goal.returns-in-3-clause-builds
returns-in-3-clause-builds c = union_built _ c.read2-k.ensures.0 c.type_head-head.ensures c.in_default.is c.in-3.is c.build_union_node.ensures.builds

pub returns-in-4-clause-builds : goal.returns-in-4-clause-builds
returns-in-4-clause-builds c = enum_built _ c.read2-k.ensures.0 c.type_head-head.ensures c.in_default.is c.in-4.is c.build_enum_node.ensures.builds

pub returns-in-5-clause-within : goal.returns-in-5-clause-within
returns-in-5-clause-within c = IfOk-weaker c.build_array_node.result _ _ (λ b w. array_wide c.requires w) c.build_array_node.ensures.within

pub returns-in-5-clause-builds : goal.returns-in-5-clause-builds
returns-in-5-clause-builds c = array_built _ c.read2-k.ensures.0 c.type_head-head.ensures c.in_default.is c.in-5.is c.build_array_node.ensures.builds

pub returns-in-6-clause-builds : goal.returns-in-6-clause-builds
returns-in-6-clause-builds c =
    sized_built _ c.read2-k.ensures.0 c.type_head-head.ensures c.in_default.is c.in-6.is c.build_size_discriminated_union_node.ensures.builds

pub returns-in_default-k-clause-builds : goal.returns-in_default-k-clause-builds
returns-in_default-k-clause-builds c =
    primitive_built _ c.read2-k.ensures.0 c.type_head-head.ensures c.in_default.is (omega (arith, kind_of_lem c.requires.type_at, c.read2-k.ensures.0))
