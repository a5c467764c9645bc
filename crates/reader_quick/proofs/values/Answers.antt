-- A block of values whose entries end where it ends.
use borrow.Author.Tests.{ltb-true}
use Rattle.reader_quick.proofs.Laws.{read_ok, values_yes}
use Rattle.reader_quick.proofs.values.Goals as goal

pub returns-clause-read : goal.returns-clause-read
returns-clause-read c = values_yes _ c.in_ok-stop.ensures (ltb-true _ _ c.in_ok-ask.ensures) (read_ok _ c.entries.ensures.read c.in_ok-ok.ensures.value) c.in_ok-ask-2.ensures
