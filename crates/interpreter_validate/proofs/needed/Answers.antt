-- `needed` meets its contract: by the number of the values, and by the bytes of the tree. No product leaves its 64 bits, since a length has 32 and a count 16.
use native.Mathlib.Omega.{arith}
use Rattle.interpreter_validate.proofs.Laws.{tree_header, values_header, words_few, words_short, words_many}
use Rattle.interpreter_validate.proofs.needed.Goals as goal

pub overflow_add-t : goal.overflow_add-t
overflow_add-t c = omega (arith, values_header c.requires)

pub read2-n-requires : goal.read2-n-requires
read2-n-requires c = values_header c.requires

pub returns-then-n-lt-MANY : goal.returns-then-n-lt-MANY
returns-then-n-lt-MANY c = rw (← c.read2-n.ensures.0) (words_few _ _ _ c.if-n-lt-MANY.true)

pub read4-requires : goal.read4-requires
read4-requires c = omega (arith, values_header c.requires)

pub read4-requires-2 : goal.read4-requires-2
read4-requires-2 c = tree_header c.requires

pub returns-then-read4-n : goal.returns-then-read4-n
returns-then-read4-n c =
    rw (← c.read2-n.ensures.0, ← c.read4.ensures.0, ← c.read4-2.ensures.0)
    (words_short _ _ _ c.if-n-lt-MANY.false c.if-read4-n.true)

pub returns : goal.returns
returns c =
    rw (← c.read2-n.ensures.0, ← c.read4.ensures.0, ← c.read4-2.ensures.0)
    (words_many _ _ _ c.if-n-lt-MANY.false c.if-read4-n.false)
