-- The head of a node 132, then by the table the name of the entry that holds the tag, the count of the cases, the cases, and the flag that
-- there is no default.
use Rattle.std.proofs.Common.{arith}
use Rattle.answers.proofs.Laws.{hands}
use Rattle.builder_switches.proofs.Switch.{switch_stops, switch_done}
use Rattle.builder_switches.proofs.put_switch.Goals as goal

pub put_cases-requires : goal.put_cases-requires
put_cases-requires c = record {
  standing = c.requires.standing;
  references_at = (c.type_head-h.ensures c.requires.type_at).references;
  list = c.requires.list;
  most = c.requires.most;
  cursor = omega arith;
}

pub returns-in_err-cases-clause-builds : goal.returns-in_err-cases-clause-builds
returns-in_err-cases-clause-builds c =
    λ a l. hands _ c.from_residual.ensures.1
    (switch_stops c.args.list.kind c.args.tag c.type_head-h.ensures c.in_err-cases.ensures.cases a l)

pub returns-clause-builds : goal.returns-clause-builds
returns-clause-builds c =
    switch_done
    c.args.list.kind
    c.args.tag
    c.type_head-h.ensures
    c.open_node-b.ensures.wrote
    c.put_entry_part-c.ensures.wrote
    c.put_count_part-d.ensures.wrote
    c.in_ok-cases.ensures.cases
    c.put_no_node-u.ensures.wrote
    c.close_block.ensures.wrote
