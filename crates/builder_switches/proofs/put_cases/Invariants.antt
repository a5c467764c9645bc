-- Whatever writes the cases that are left makes the whole; the cursor moved by at most 540000 a case (`Written`).
use Rattle.builder_switches.proofs.Cases.{Written}
use Rattle.builder_switches.proofs.put_cases.Given as goal

abbrev pub invariant-loop-index : goal.invariant-loop-index
invariant-loop-index l =
    Written l.s l.initial.out l.at l.words l.n l.references l.list.kind l.list.count l.list.first l.index l.block l.out l.built
