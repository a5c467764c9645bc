-- By the kind of the field's type.
use Rattle.std.proofs.Common.{arith}
use Rattle.builder_structs.proofs.Field.{kind_inside, refs_kind, aligned_kind}
use Rattle.builder_structs.proofs.variable_field.Goals as goal

pub overflow_add-f : goal.overflow_add-f
overflow_add-f c = omega (arith, kind_inside c.requires.field.base.type_at, c.requires.field.base.standing.size)

pub read2-requires : goal.read2-requires
read2-requires c = omega (arith, kind_inside c.requires.field.base.type_at)

pub returns-in-0-to-3-clause-builds : goal.returns-in-0-to-3-clause-builds
returns-in-0-to-3-clause-builds c = refs_kind _ _ c.read2.ensures.0 (omega arith) c.field_refs.ensures.builds

pub returns-in_default-clause-builds : goal.returns-in_default-clause-builds
returns-in_default-clause-builds c =
    aligned_kind _ _ c.read2.ensures.0 (omega arith) (λ e. omega arith) (λ e. omega arith) c.field_aligned.ensures.builds
