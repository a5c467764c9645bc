-- The nodes are counted first, as a left-nested sum begins with as many Add nodes; no node is refused; else the sum stands in an
-- AlignUp node.
use Rattle.std.proofs.Common.{arith}
use Rattle.answers.proofs.Laws.{hands}
use Rattle.builder_structs.proofs.Laws.{struct_none, struct_stops, struct_built}
use Rattle.builder_structs.proofs.build_variable_struct.Goals as goal

pub count_nodes-k-requires : goal.count_nodes-k-requires
count_nodes-k-requires c =
    let f = c.field_list-list.ensures c.requires.ready.type_at in
    (f.list, f.few)

pub returns-then-k-eq0-clause-builds : goal.returns-then-k-eq0-clause-builds
returns-then-k-eq0-clause-builds c =
    struct_none _ c.requires.ready.kind_is c.type_head-h.ensures c.field_list-list.ensures c.count_nodes-k.ensures.value c.if-k-eq0.true

pub sum-requires : goal.sum-requires
sum-requires c = record {
  standing = c.requires.ready.standing;
  set = c.requires.ready.set;
  refs = (c.type_head-h.ensures c.requires.ready.type_at).references;
  list = (c.field_list-list.ensures c.requires.ready.type_at).list;
  some = omega (arith, c.if-k-eq0.false);
  room = omega (arith, c.open_align-p.ensures.value, c.count_nodes-k.ensures.upper_bound, c.requires.at_bound);
}

pub returns-in_err-last-clause-builds : goal.returns-in_err-last-clause-builds
returns-in_err-last-clause-builds c = λ t a fs q e.
    hands _ c.from_residual.ensures.1
    (struct_stops _ c.requires.ready.kind_is c.type_head-h.ensures c.field_list-list.ensures c.count_nodes-k.ensures.value c.in_err-last.ensures.ran t a fs q e)

pub returns-clause-builds : goal.returns-clause-builds
returns-clause-builds c =
    struct_built _ c.requires.ready.kind_is c.type_head-h.ensures c.field_list-list.ensures c.count_nodes-k.ensures.value c.in_ok-last.ensures.ran
    c.open_align-p.ensures.wrote c.close_block.ensures.wrote
