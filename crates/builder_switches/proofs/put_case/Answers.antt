-- A block 163 with the tag of the alternative, its node and the parameters of its name.
use Rattle.std.proofs.Common.{refl, arith}
use Rattle.builder_registry.proofs.Laws.{standing}
use Rattle.builder_nodes.proofs.Laws.{builds_index}
use Rattle.builder_switches.proofs.Cases.{case_hands, case_stops, case_done}
use Rattle.builder_switches.proofs.put_case.Goals as goal

pub name_at-name-requires : goal.name_at-name-requires
name_at-name-requires c = (c.alternative-x.ensures c.requires.block_at).named

pub put_node-requires : goal.put_node-requires
put_node-requires c = record {
  standing = c.requires.standing;
  references_at = c.requires.references_at;
  named = (c.alternative-x.ensures c.requires.block_at).named;
  cursor = omega arith;
}

pub returns-in_err-node-clause-case_at : goal.returns-in_err-node-clause-case_at
returns-in_err-node-clause-case_at c =
    λ d a. case_hands _ c.from_residual.ensures.1 (case_stops _ _ c.alternative-x.ensures c.in_err-node.ensures.builds d a)

pub put_owner_parameters-u-requires : goal.put_owner_parameters-u-requires
put_owner_parameters-u-requires c = (
  standing c.requires.standing refl c.in_ok-node.ensures.within.count (builds_index (c.in_ok-node.ensures.builds c.requires.references_at)),
  omega (arith, c.in_ok-node.ensures.within.high),
)

pub returns-clause-case_at : goal.returns-clause-case_at
returns-clause-case_at c =
    case_done _ _
    c.alternative-x.ensures
    c.name_at-name.ensures
    c.open_block-b.ensures.wrote
    c.put_le-p.ensures.wrote
    c.in_ok-node.ensures.builds
    c.put_owner_parameters-u.ensures.wrote
    c.close_block.ensures.wrote
