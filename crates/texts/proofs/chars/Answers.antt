-- No byte is left at the start; behind the last byte, nothing must follow.
use Rattle.std.proofs.Common.{◌≡◌, [], sym, ◌∙◌, drop}
use Rattle.std.proofs.Math.ListN.{drop_of_length-le}
use Rattle.texts.proofs.Characters.{well_is, nothing_left}
use Rattle.texts.proofs.chars.Goals as goal

pub loop-b-init : goal.loop-b-init
loop-b-init c = rw c.tails-left.ensures (well_is _)

pub returns : goal.returns
returns c =
    let end : drop c.loop-b.b-index c.args.s.now ≡ [] = drop_of_length-le _ c.loop-b-test.false in
    sym (c.loop-b.invariant ∙ rw end (nothing_left _ _ _))
