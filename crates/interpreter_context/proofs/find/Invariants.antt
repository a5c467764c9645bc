-- The invariant: what the name is at all open calls is what `wanted` is at d of them.
use Rattle.accepted.specs.Accepted.{name_at}
use Rattle.interpreter_context.proofs.Calls.{Wanted}
use Rattle.interpreter_context.proofs.find.Given as goal

abbrev pub invariant-loop-d : goal.invariant-loop-d
invariant-loop-d l = Wanted l.s l.values l.root.block l.root.len l.words (name_at l.s l.name) l.depth l.wanted l.d
