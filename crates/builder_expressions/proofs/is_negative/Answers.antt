-- The code tells the sign, the number the rest.
use native.Mathlib.Omega.{arith}
use borrow.Author.Tests.{lt-leb}
use Rattle.builder_expressions.proofs.Laws.{literal_inside, is_unsigned, is_signed}
use Rattle.builder_expressions.proofs.is_negative.Goals as goal

pub overflow_add-expr : goal.overflow_add-expr
overflow_add-expr c = omega (arith, literal_inside c.requires.0 c.requires.1)

pub bounds-s-expr : goal.bounds-s-expr
bounds-s-expr c = omega (arith, literal_inside c.requires.0 c.requires.1)

pub read8-requires : goal.read8-requires
read8-requires c = omega (arith, literal_inside c.requires.0 c.requires.1)

pub returns-then-s-expr-ge4 : goal.returns-then-s-expr-ge4
returns-then-s-expr-ge4 c = is_signed c.requires.1 c.if-s-expr-ge4.true c.read8.ensures

pub returns-else-s-expr-ge4 : goal.returns-else-s-expr-ge4
returns-else-s-expr-ge4 c = rw (lt-leb 4 _ c.if-s-expr-ge4.false) (is_unsigned c.requires.1 c.if-s-expr-ge4.false)
