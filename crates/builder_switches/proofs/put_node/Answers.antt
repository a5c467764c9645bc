-- An alternative of constant size is a constant; one of variable size is the sum of the references of its name, aligned.
use Rattle.std.proofs.Common.{arith}
use Rattle.answers.proofs.Laws.{hands, lacks}
use Rattle.resolved_parts.proofs.Laws.{named_short}
use Rattle.builder_switches.proofs.Cases.{paths_at, node_const, node_missing, node_stops, node_done}
use Rattle.builder_switches.proofs.put_node.Goals as goal

pub returns-in-Some-clause-builds : goal.returns-in-Some-clause-builds
returns-in-Some-clause-builds c =
    node_const _ c.args.x c.requires.standing.index c.in-Some.is c.put_const_or_zero-p.ensures.wrote

pub returns-in_err-paths-in-None-clause-builds : goal.returns-in_err-paths-in-None-clause-builds
returns-in_err-paths-in-None-clause-builds c =
    λ a. lacks _
    c.from_residual.ensures.1
    c.in_err-paths-in-None.ensures.value
    c.in_err-paths-in-None.ensures.ok_part
    (node_missing _ c.args.x c.in-None.is c.name_at-name.ensures c.get.ensures.paths_found c.in_err-paths-in-None.ensures.ok_part a)

pub sum_refs-requires : goal.sum_refs-requires
sum_refs-requires c = record {
  standing = c.requires.standing;
  owned = named_short c.requires.named c.name_at-name.ensures;
  list = paths_at _
      c.name_at-name.ensures
      c.get.ensures.paths_found
      c.in_ok-paths-in-None.ensures.ok_part
      c.requires.references_at;
  cursor = omega (arith, c.requires.cursor, c.open_align-p.ensures.value);
}

pub returns-in_err-sum-in-None-clause-builds : goal.returns-in_err-sum-in-None-clause-builds
returns-in_err-sum-in-None-clause-builds c =
    λ a. hands _
    c.from_residual-in_err-sum-in-None.ensures.1
    (node_stops _
    c.args.x
    c.in-None.is
    c.name_at-name.ensures
    c.get.ensures.paths_found
    c.in_ok-paths-in-None.ensures.ok_part
    c.in_err-sum-in-None.ensures.builds a)

pub returns-in_ok-sum-in-None-clause-builds : goal.returns-in_ok-sum-in-None-clause-builds
returns-in_ok-sum-in-None-clause-builds c =
    node_done _
    c.args.x
    c.in-None.is
    c.name_at-name.ensures
    c.get.ensures.paths_found
    c.in_ok-paths-in-None.ensures.ok_part
    c.open_align-p.ensures.wrote
    c.in_ok-sum-in-None.ensures.builds
    c.close_block.ensures.wrote
