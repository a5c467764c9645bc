-- Where the trees were read, their names decide.
use borrow.Author.Tests.{leb-true}
use Rattle.reader_quick.proofs.Listed.{fresh_part}
use Rattle.reader_quick.proofs.trees.Goals as goal

pub returns-clause-read : goal.returns-clause-read
returns-clause-read c = c.in_ok-next.ensures.read (fresh_part _ _ (leb-true _ _ c.in_ok-ask.ensures) c.fresh.ensures)
