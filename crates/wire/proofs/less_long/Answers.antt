-- Eight bytes that differ decide; else eight more are alike. At the end the last eight decide, or, where these are the same, the lengths.
use Rattle.std.proofs.Common.{◌≡◌, ◌+◌, ◌-◌, ◌*◌, arith}
use Rattle.wire.proofs.Order.{pair_decides, alike_big, alike_decide, alike_end}
use Rattle.wire.proofs.less_long.Goals as goal

pub returns-then-x-y : goal.returns-then-x-y
returns-then-x-y c =
    alike_decide _ _ c.type_inv.a c.type_inv.b c.loop-i.invariant 8 _ (omega arith) (omega arith) (omega arith)
    c.big8-x.ensures c.big8-y.ensures c.if-x-y.true

pub loop-i-preserved : goal.loop-i-preserved
loop-i-preserved c =
    let next : 8 * (c.loop-i.i + 1) ≡ 8 * c.loop-i.i + 8 = omega arith in
    rw next
    (alike_big _ _ c.type_inv.a c.type_inv.b c.loop-i.invariant 8 _ (omega arith) c.big8-x.ensures c.big8-y.ensures c.if-x-y.false)

pub returns : goal.returns
returns c =
    let all : c.args.n - 8 + 8 ≡ c.args.n = omega arith in
    pair_decides _ _ _ _ c.lt.ensures
    (alike_decide _ _ c.type_inv.a c.type_inv.b c.loop-i.invariant 8 _ (omega arith) (omega arith) (omega arith) c.big8.ensures c.big8-2.ensures)
    (λ e. alike_end _ _ c.type_inv.a c.type_inv.b
    (rw all at (alike_big _ _ c.type_inv.a c.type_inv.b c.loop-i.invariant 8 _ (omega arith) c.big8.ensures c.big8-2.ensures e))
    c.requires.1)
