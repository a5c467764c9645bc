use native.Mathlib.Omega.{arith}
use Rattle.resolved_parts.proofs.Laws.{entry_named}
use Rattle.builder_sums.proofs.Chosen.{seek_begin, seek_more, seek_hit, seek_never}
use Rattle.builder_sums.proofs.PathChoice.nth.Goals as goal

pub loop-init : goal.loop-init
loop-init c = seek_begin c.requires.0.list c.requires.1 (omega arith)

pub takes-requires : goal.takes-requires
takes-requires c = entry_named c.loop.invariant.here (omega arith)

pub returns-then-j-w : goal.returns-then-j-w
returns-then-j-w c = seek_hit (omega arith) c.takes.ensures c.from-w.ensures c.if-j-w.true c.loop.invariant

pub next_name-q-requires : goal.next_name-q-requires
next_name-q-requires c = (entry_named c.loop.invariant.here (omega arith)).inside

pub loop-preserved : goal.loop-preserved
loop-preserved c = seek_more (omega arith) (omega arith) c.takes.ensures c.from-w.ensures c.if-j-w.false c.next_name-q.ensures c.loop.invariant

pub returns : goal.returns
returns c = seek_never (omega arith) c.loop.invariant
