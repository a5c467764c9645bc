use native.Mathlib.Omega.{arith}
use Rattle.marks.proofs.Walks.{walk_chain}
use Rattle.builder_registry.proofs.Index.{index_linked, index_table, searching_first, searching_hit, searching_miss, searching_end}
use Rattle.builder_registry.proofs.place.Lts.{then-is_keyed, else-is_keyed}
use Rattle.builder_registry.proofs.place.Goals as goal

pub last-j-requires : goal.last-j-requires
last-j-requires c = index_table c.requires.0.index

pub loop-j-init : goal.loop-j-init
loop-j-init c = searching_first (c.last-j.ensures (index_table c.requires.0.index))

pub before-j-requires : goal.before-j-requires
before-j-requires c = (c.loop-j-test.true, walk_chain c.loop-j.invariant.walk (index_linked c.requires.0.index))

pub loop-j-smaller : goal.loop-j-smaller
loop-j-smaller c = let prior = c.before-j.ensures (walk_chain c.loop-j.invariant.walk (index_linked c.requires.0.index)) in
    omega (arith, prior.within, c.loop-j-test.true)

pub loop-j-preserved : goal.loop-j-preserved
loop-j-preserved c = let prior = c.before-j.ensures (walk_chain c.loop-j.invariant.walk (index_linked c.requires.0.index)) in
    elim c.if-is_keyed.branch [
      | then-is_keyed w ↦ rw w.found-is (searching_hit c.loop-j.invariant c.loop-j-test.true prior c.is_keyed.ensures w.if-is_keyed.true)
      | else-is_keyed w ↦ rw w.found-is (searching_miss c.loop-j.invariant c.loop-j-test.true prior c.is_keyed.ensures w.if-is_keyed.false)
    ]

pub returns-clause-value : goal.returns-clause-value
returns-clause-value c = searching_end (omega (arith, c.requires.0.count, c.requires.0.words)) c.requires.1.mark c.loop-j-test.false _ c.loop-j.invariant
