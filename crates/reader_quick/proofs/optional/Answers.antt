-- The flag, and what it announces.
use Rattle.std.proofs.Common.{arith}
use Rattle.reader_leaf.proofs.Laws.{optional_on, optional_off}
use Rattle.reader_quick.proofs.Laws.{reads_as}
use Rattle.reader_quick.proofs.optional.Goals as goal

pub returns-then-s-at-eq0-clause-read : goal.returns-then-s-at-eq0-clause-read
returns-then-s-at-eq0-clause-read c = λ start. optional_off _ _ _ _ _ _ (c.in_ok-next.ensures.read start) (λ o. omega arith)

pub returns-clause-read : goal.returns-clause-read
returns-clause-read c =
    λ start. reads_as _ _ _
    (optional_on _ _ _ _ _ _ (c.in_ok-next.ensures.read start) (omega (arith, c.in_ok-next.ensures.inside)))
    (c.text.ensures.read start)
