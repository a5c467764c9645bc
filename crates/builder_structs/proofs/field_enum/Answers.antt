-- A payload, where a path of the struct's references for the enum is one, else a switch.
use Rattle.builder_structs.proofs.Field.{paths_found, enum_payload, enum_plain, enum_missing}
use Rattle.builder_structs.proofs.field_enum.Goals as goal
use Rattle.builder_structs.proofs.field_enum.Goals.{in_default-via-in-Some+else-has_payload, in_default-via-in_default}

pub has_payload-requires : goal.has_payload-requires
has_payload-requires c = paths_found c.in-Some.ensures.paths_found c.requires.field.refs

pub put_payload-requires : goal.put_payload-requires
put_payload-requires c = record { field = c.requires.field.field; list = paths_found c.in-Some.ensures.paths_found c.requires.field.refs }

pub returns-in-Some-clause-builds : goal.returns-in-Some-clause-builds
returns-in-Some-clause-builds c =
    enum_payload _ _ _ c.requires.kind_is c.name_at-owner.ensures c.in-Some.ensures.paths_found c.has_payload.ensures c.if-has_payload.true
    c.put_payload.ensures.builds

pub returns-in_default-clause-builds : goal.returns-in_default-clause-builds
returns-in_default-clause-builds c =
    elim c.in_default.branch [
      | in_default-via-in-Some+else-has_payload w ↦ enum_plain _ _ _ c.requires.kind_is c.name_at-owner.ensures w.in-Some.ensures.paths_found w.has_payload.ensures w.if-has_payload.false c.field_aligned.ensures.builds
      | in_default-via-in_default w ↦ enum_missing _ _ _ c.requires.kind_is c.name_at-owner.ensures w.in_default.ensures.paths_found c.field_aligned.ensures.builds
    ]
