-- By the kind, the laws `alt_..` say which tag, size and alignment the definition reads from the block.
use Rattle.std.proofs.Common.{arith}
use Rattle.accepted.proofs.Laws.{header_inside}
use Rattle.builder_switches.specs.declared.Kind.TheVariants.{Union, Enum, Sized}
use Rattle.builder_switches.proofs.Cases.{as_kind, alt_union, alt_enum, alt_sized}
use Rattle.builder_switches.proofs.alternative.Goals as goal

pub overflow_add-name : goal.overflow_add-name
overflow_add-name c = omega (arith, header_inside c.requires)

pub type_head-h-requires : goal.type_head-h-requires
type_head-h-requires c = (c.field_parts-f.ensures (as_kind Union c.in-Union.is c.requires)).type

pub returns-in-Union : goal.returns-in-Union
returns-in-Union c = alt_union c.in-Union.is c.field_parts-f.ensures c.type_head-h.ensures

pub type_head-h-requires-in-Enum : goal.type_head-h-requires-in-Enum
type_head-h-requires-in-Enum c = (c.variant_parts-v.ensures (as_kind Enum c.in-Enum.is c.requires)).type

pub returns-in-Enum : goal.returns-in-Enum
returns-in-Enum c = alt_enum c.in-Enum.is c.variant_parts-v.ensures c.type_head-h-in-Enum.ensures

pub type_head-h-requires-in-Sized : goal.type_head-h-requires-in-Sized
type_head-h-requires-in-Sized c = (c.variant_parts-v-in-Sized.ensures (as_kind Sized c.in-Sized.is c.requires)).type

pub returns-in-Sized : goal.returns-in-Sized
returns-in-Sized c = alt_sized c.in-Sized.is c.variant_parts-v-in-Sized.ensures c.type_head-h-in-Sized.ensures
