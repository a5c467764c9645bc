use Rattle.std.proofs.Common.{arith}
use Rattle.resolved_parts.proofs.Owners.{references_inside}
use Rattle.builder_calls.proofs.Collecting.{room_left, behind_hands}
use Rattle.builder_calls.proofs.Laws.{owner_here, owner_inside, owners_begin, owners_stop, owners_more, owners_end}
use Rattle.builder_calls.proofs.put_owners.Goals as goal

pub overflow_add-at : goal.overflow_add-at
overflow_add-at c = omega (arith, references_inside c.requires.references_at)

pub overflow_add-at-2 : goal.overflow_add-at-2
overflow_add-at-2 c = omega (arith, references_inside c.requires.references_at)

pub overflow_add-references : goal.overflow_add-references
overflow_add-references c = omega (arith, references_inside c.requires.references_at)

pub read2-end-requires : goal.read2-end-requires
read2-end-requires c = omega (arith, references_inside c.requires.references_at)

pub loop-init : goal.loop-init
loop-init c = owners_begin _ c.requires.room c.requires.references_at (omega arith)

pub overflow_add-at-in-loop : goal.overflow_add-at-in-loop
overflow_add-at-in-loop c = omega (arith, owner_inside (omega arith) c.loop.invariant.rest.here)

pub marked_owner-owner-requires : goal.marked_owner-owner-requires
marked_owner-owner-requires c =
    let o = c.owner_paths-paths.ensures (owner_here (omega arith) c.loop.invariant.rest.here) in
    omega (arith, o.named.inside, c.requires.room.standing.size)

pub owner_paths-paths-requires : goal.owner_paths-paths-requires
owner_paths-paths-requires c = owner_here (omega arith) c.loop.invariant.rest.here

pub put_arguments-requires : goal.put_arguments-requires
put_arguments-requires c =
    let o = c.owner_paths-paths.ensures (owner_here (omega arith) c.loop.invariant.rest.here) in record {
      room = room_left c.loop.invariant c.requires.room (omega arith);
      owned = rw c.marked_owner-owner.ensures.at_value o.named;
      marked = rw c.marked_owner-owner.ensures.at_value c.marked_owner-owner.ensures.mark_value;
      paths_at = o.paths;
    }

pub returns-in_err-collected-clause-behind : goal.returns-in_err-collected-clause-behind
returns-in_err-collected-clause-behind c =
    λ a. behind_hands _ c.from_residual.ensures.1
    (owners_stop _
    c.loop.invariant
    (omega arith)
    c.owner_paths-paths.ensures
    c.marked_owner-owner.ensures.at_value
    c.in_err-collected.ensures.behind a)

pub next_block-at-requires : goal.next_block-at-requires
next_block-at-requires c = (owner_inside (omega arith) c.loop.invariant.rest.here, c.requires.room.standing.size)

pub loop-preserved : goal.loop-preserved
loop-preserved c =
    owners_more _
    c.loop.invariant
    (omega arith)
    c.owner_paths-paths.ensures
    c.marked_owner-owner.ensures.at_value
    c.in_ok-collected.ensures.behind
    c.in_ok-collected.ensures.fills
    (omega arith)
    c.next_block-at.ensures

pub returns-clause-behind : goal.returns-clause-behind
returns-clause-behind c = owners_end _ c.loop.invariant (omega arith)
