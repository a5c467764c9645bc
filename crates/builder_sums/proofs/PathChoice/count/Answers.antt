use native.Mathlib.Omega.{arith}
use Rattle.resolved_parts.proofs.Laws.{entry_named}
use Rattle.builder_sums.proofs.Chosen.{count_begin, count_more, count_end}
use Rattle.builder_sums.proofs.PathChoice.count.Goals as goal

pub loop-init : goal.loop-init
loop-init c = count_begin _ c.requires.list (omega arith)

pub takes-requires : goal.takes-requires
takes-requires c = entry_named c.loop.invariant.here (omega arith)

pub next_name-q-requires : goal.next_name-q-requires
next_name-q-requires c = (entry_named c.loop.invariant.here (omega arith)).inside

pub loop-preserved : goal.loop-preserved
loop-preserved c = count_more (omega arith) (omega arith) c.takes.ensures c.from-m.ensures c.next_name-q.ensures c.loop.invariant

pub returns : goal.returns
returns c = count_end (omega arith) c.loop.invariant
