use borrow.Author.Tests.{ltb-true}
use Rattle.reader_quick.proofs.Listed.{layout_yes}
use Rattle.reader_quick.proofs.layout.Goals as goal

pub returns : goal.returns
returns c = layout_yes _ c.in_ok-stop.ensures (ltb-true _ _ c.in_ok-ask-2.ensures) c.in_ok-trees.ensures.read c.in_ok-ask-3.ensures
