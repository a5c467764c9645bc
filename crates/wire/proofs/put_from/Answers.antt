-- No byte is written at the start; one more is; where the slice has no room for another, all that it takes are.
use Rattle.std.proofs.Common.{◌≡◌, ℕ, ◌-◌, length, take, drop, refl, ap, ◌∙◌, arith}
use Rattle.std.proofs.lemmas.List.{take_rest, drop_min}
use Rattle.wire.specs.Poke.{poke}
use Rattle.wire.proofs.Laws.{first_more, first_all}
use Rattle.wire.proofs.put_from.Goals as goal

pub loop-k-init : goal.loop-k-init
unfolding poke
loop-k-init c = refl

pub loop-k-preserved : goal.loop-k-preserved
loop-k-preserved c = first_more _ _ _ _ _ c.loop-k.invariant (omega arith)

pub returns-clause-wrote : goal.returns-clause-wrote
returns-clause-wrote c =
    let s = c.args.s.now in
    let rest : take (length s - c.min.result) (drop c.min.result s) ≡ drop c.args.i s =
    take_rest s c.min.result ∙ ap (λ (k : ℕ). drop k s) c.min.ensures ∙ drop_min c.args.i s in
    rw (← rest) (first_all _ _ _ _ _ c.loop-k.invariant (omega arith))
