-- A name, an alignment, a node and parameters that end where the tree ends.
use borrow.Author.Tests.{leb-true}
use Rattle.reader_quick.proofs.Listed.{tree_yes}
use Rattle.reader_quick.proofs.tree.Goals as goal

pub returns-clause-read : goal.returns-clause-read
returns-clause-read c =
    tree_yes _ c.in_ok-stop.ensures
    (leb-true _ _ c.in_ok-ask.ensures)
    c.in_ok-text.ensures.read
    c.in_ok-i.ensures.read
    c.in_ok-j.ensures.read
    c.in_ok-entries.ensures.read
    c.in_ok-ask-2.ensures
