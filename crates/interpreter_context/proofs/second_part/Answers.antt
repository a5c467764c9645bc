-- `second_part` meets its contract: it steps over one part more, whose code the table of node kinds gives.
use native.Mathlib.Omega.{arith}
use Rattle.interpreter_context.proofs.Laws.{simple_column, stands, stands_next}
use Rattle.interpreter_context.proofs.second_part.Goals as goal

pub behind-requires : goal.behind-requires
behind-requires c =
    stands
    (simple_column 2 (omega arith))
    c.read2-kind.ensures.0
    c.node_part.ensures
    (omega (arith, c.requires.1))
    c.first_part.ensures
    c.requires.0

pub returns : goal.returns
returns c =
    stands_next
    (simple_column 2 (omega arith))
    c.read2-kind.ensures.0
    c.node_part.ensures
    (omega (arith, c.requires.1))
    c.first_part.ensures
    c.behind.ensures
