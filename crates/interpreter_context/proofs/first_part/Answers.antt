-- `first_part` meets its contract: it steps over the two parts of the metadata, whose codes the table of node kinds gives.
use Rattle.std.proofs.Common.{arith}
use Rattle.interpreter_context.proofs.Laws.{kinds, two_parts, simple_column, begins, stands, stands_next}
use Rattle.interpreter_context.proofs.first_part.Goals as goal

pub overflow_add-at : goal.overflow_add-at
overflow_add-at c = omega (arith, (kinds c.requires).2, (kinds c.requires).3)

pub read2-kind-requires : goal.read2-kind-requires
read2-kind-requires c = omega (arith, (kinds c.requires).2, (kinds c.requires).3)

pub behind-p-requires : goal.behind-p-requires
behind-p-requires c =
    let b = kinds c.requires in
    stands
    (simple_column 0 (omega arith))
    c.read2-kind.ensures.0
    c.node_part.ensures
    (omega (arith, two_parts _ b.0 b.1))
    (begins _ _)
    c.requires

pub behind-requires : goal.behind-requires
behind-requires c =
    let b = kinds c.requires in
    let second =
    stands_next
    (simple_column 0 (omega arith))
    c.read2-kind.ensures.0
    c.node_part.ensures
    (omega (arith, two_parts _ b.0 b.1))
    (begins _ _)
    c.behind-p.ensures in
    stands
    (simple_column 1 (omega arith))
    c.read2-kind.ensures.0
    c.node_part-2.ensures
    (omega (arith, two_parts _ b.0 b.1))
    second
    c.requires

pub returns : goal.returns
returns c =
    let b = kinds c.requires in
    let second =
    stands_next
    (simple_column 0 (omega arith))
    c.read2-kind.ensures.0
    c.node_part.ensures
    (omega (arith, two_parts _ b.0 b.1))
    (begins _ _)
    c.behind-p.ensures in
    stands_next
    (simple_column 1 (omega arith))
    c.read2-kind.ensures.0
    c.node_part-2.ensures
    (omega (arith, two_parts _ b.0 b.1))
    second
    c.behind.ensures
