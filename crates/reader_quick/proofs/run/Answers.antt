-- A name, a buffer length and values that end where the run ends.
use borrow.Author.Tests.{leb-true}
use Rattle.reader_quick.proofs.Laws.{run_yes}
use Rattle.reader_quick.proofs.run.Goals as goal

pub returns : goal.returns
returns c =
    run_yes _ c.in_ok-stop.ensures
    (leb-true _ _ c.in_ok-ask.ensures)
    c.in_ok-text.ensures.read
    c.in_ok-i.ensures.read
    c.in_ok-values.ensures.read
    c.in_ok-ask-2.ensures
