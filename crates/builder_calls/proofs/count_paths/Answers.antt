use Rattle.std.proofs.Common.{◌+◌, ◌-◌, ◌<◌, arith}
use Rattle.blocks.specs.Bytes.{le2}
use Rattle.resolved_parts.proofs.Owners.{references_inside}
use Rattle.builder_calls.proofs.Laws.{count_begin, count_next, count_end, owner_here, owner_inside, owners_most}
use Rattle.builder_calls.proofs.count_paths.Goals as goal

pub overflow_add-at : goal.overflow_add-at
overflow_add-at c = omega (arith, references_inside c.requires.0)

pub overflow_add-at-2 : goal.overflow_add-at-2
overflow_add-at-2 c = omega (arith, references_inside c.requires.0)

pub overflow_add-references : goal.overflow_add-references
overflow_add-references c = omega (arith, references_inside c.requires.0)

pub read2-end-requires : goal.read2-end-requires
read2-end-requires c = omega (arith, references_inside c.requires.0)

pub loop-init : goal.loop-init
loop-init c = record { few = omega arith; counted = count_begin _ c.requires.0 (omega arith) }

pub owner_paths-requires : goal.owner_paths-requires
owner_paths-requires c = owner_here (omega arith) c.loop.invariant.counted.here

pub read2-n-requires : goal.read2-n-requires
read2-n-requires c = (c.owner_paths.ensures (owner_here (omega arith) c.loop.invariant.counted.here)).paths.inside

pub next_block-at-requires : goal.next_block-at-requires
next_block-at-requires c = (owner_inside (omega arith) c.loop.invariant.counted.here, c.requires.1)

pub loop-preserved : goal.loop-preserved
loop-preserved c =
    let l : 0 < le2 c.args.s.now (c.args.references + 6) - c.loop.counter = omega arith in
    let few = (c.owner_paths.ensures (owner_here l c.loop.invariant.counted.here)).paths.few in record {
      few = omega (arith, few);
      counted = count_next _ l c.owner_paths.ensures c.read2-n.ensures.0 c.next_block-at.ensures (omega arith) c.loop.invariant.counted;
    }

pub returns-clause-upper_bound : goal.returns-clause-upper_bound
returns-clause-upper_bound c = omega (arith, owners_most c.requires.0)

pub returns-clause-value : goal.returns-clause-value
returns-clause-value c = count_end _ (omega arith) c.loop.invariant.counted
