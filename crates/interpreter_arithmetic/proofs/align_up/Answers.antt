-- `align_up` gives the least multiple that is not below, or 26.
use borrow.Author.Tests.{le-leb, lt-leb, eq-eqb, ne_eqb}
use Rattle.interpreter.specs.Arithmetic.{align_up}
use Rattle.interpreter_arithmetic.proofs.Laws.{given_exact}
use Rattle.interpreter_arithmetic.proofs.align_up.Goals as goal

pub returns-then-alignment-le1 : goal.returns-then-alignment-le1
unfolding align_up
returns-then-alignment-le1 c = rw (le-leb _ _ c.if-alignment-le1.true)

pub returns-then-remainder-eq0 : goal.returns-then-remainder-eq0
unfolding align_up
returns-then-remainder-eq0 c = rw (lt-leb _ _ c.if-alignment-le1.false, ← c.low-n.ensures, eq-eqb _ _ c.if-remainder-eq0.true)

pub returns : goal.returns
unfolding align_up
returns c =
    rw (lt-leb _ _ c.if-alignment-le1.false, ← c.low-n.ensures, ne_eqb _ _ c.if-remainder-eq0.false)
    (given_exact c.checked_add.result _ c.checked_add.ensures c.given.ensures)
