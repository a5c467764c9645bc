-- The target is looked up by its name: no type has it, or `put_call` writes the call.
use Rattle.answers.proofs.Laws.{lacks}
use Rattle.resolved_parts.proofs.Laws.{named_short}
use Rattle.builder_calls.proofs.Laws.{callee_at, typeref_missing, typeref_done}
use Rattle.builder_calls.proofs.build_typeref_node.Goals as goal

pub name_at-name-requires : goal.name_at-name-requires
name_at-name-requires c = (c.target-target.ensures c.requires.type_at).named

pub returns-in_err-offset-clause-builds : goal.returns-in_err-offset-clause-builds
returns-in_err-offset-clause-builds c =
    λ t a target d i. lacks _
    c.from_residual.ensures.1
    c.in_err-offset.ensures.value
    c.in_err-offset.ensures.ok_part
    (typeref_missing _ c.target-target.ensures c.name_at-name.ensures c.get_type_info.ensures c.in_err-offset.ensures.ok_part t a target d
    i)

pub put_call-requires : goal.put_call-requires
put_call-requires c = record {
  standing = c.requires.standing;
  type_at = callee_at c.in_ok-offset.ensures.ok_part c.requires.set c.get_type_info.ensures;
  short = named_short (c.target-target.ensures c.requires.type_at).named c.name_at-name.ensures;
  cursor = c.requires.cursor;
}

pub returns-clause-builds : goal.returns-clause-builds
returns-clause-builds c =
    typeref_done _
    c.target-target.ensures
    c.name_at-name.ensures
    c.get_type_info.ensures
    c.type_head-alignment.ensures
    c.in_ok-offset.ensures.ok_part
    c.put_call.ensures.builds
