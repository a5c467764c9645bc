use Rattle.std.proofs.Common.{arith}
use borrow.Author.Tests.{leb-true, ltb-true}
use Rattle.reader_quick.proofs.Laws.{begun_yes}
use Rattle.reader_quick.proofs.begun.Goals as goal

pub returns-clause-begun : goal.returns-clause-begun
returns-clause-begun c =
    begun_yes _ _ _ _ _
    (omega (arith, leb-true, c.in_ok-ask.ensures))
    (omega (arith, leb-true _ _ c.in_ok-ask-2.ensures))
    (omega (arith, leb-true _ _ c.in_ok-ask-3.ensures))
    (omega (arith, ltb-true _ _ c.in_ok-ask-4.ensures))
    c.optional.ensures.read
