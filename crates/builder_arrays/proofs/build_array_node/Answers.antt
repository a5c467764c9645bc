-- Without owners it is refused, else the array is built under the owner that is selected.
use Rattle.std.proofs.Common.{arith}
use Rattle.resolved_parts.proofs.Owners.{references_inside}
use Rattle.resolved_parts.proofs.Laws.{named_short}
use Rattle.builder_arrays.proofs.Owner.{inside_ready, root_ready, root_none, root_is}
use Rattle.builder_arrays.proofs.build_array_node.Goals as goal

pub overflow_add-references : goal.overflow_add-references
overflow_add-references c =
    omega (arith, references_inside (c.type_head-references.ensures c.requires.type).references, c.requires.standing.size)

pub read2-requires : goal.read2-requires
read2-requires c = omega (arith, references_inside (c.type_head-references.ensures c.requires.type).references)

pub returns-then-read2-eq0-clause-builds : goal.returns-then-read2-eq0-clause-builds
returns-then-read2-eq0-clause-builds c = root_none c.type_head-references.ensures _ c.read2.ensures.0 c.if-read2-eq0.true

pub overflow_add-array : goal.overflow_add-array
overflow_add-array c = omega (arith, (c.type_head-references.ensures c.requires.type).named.inside, c.requires.standing.size)

pub name_at-name-requires : goal.name_at-name-requires
name_at-name-requires c = (c.type_head-references.ensures c.requires.type).named

pub select_array_owner-owner-requires : goal.select_array_owner-owner-requires
select_array_owner-owner-requires c = (
  root_ready c.type_head-references.ensures c.requires c.read2.ensures.0 c.if-read2-eq0.false,
  named_short (c.type_head-references.ensures c.requires.type).named c.name_at-name.ensures,
)

pub build_array_node_with_prefix-requires : goal.build_array_node_with_prefix-requires
build_array_node_with_prefix-requires c = inside_ready c.requires c.select_array_owner-owner.ensures.result_len_bound

pub returns-clause-builds : goal.returns-clause-builds
returns-clause-builds c =
    root_is c.type_head-references.ensures _ c.name_at-name.ensures c.select_array_owner-owner.ensures.g_value c.build_array_node_with_prefix.ensures.builds
