-- The first bytes of both decide, or, where these are the same, the lengths.
use Rattle.std.proofs.Common.{arith}
use Rattle.wire.proofs.Order.{pair_decides, first_alike, first_decide, alike_end}
use Rattle.wire.proofs.less_short.Goals as goal

pub returns : goal.returns
returns c =
    pair_decides _ _ _ _ c.lt.ensures
    (first_decide _ _ c.type_inv.a c.type_inv.b _ c.requires.0 (omega arith) (omega arith) c.first_bytes.ensures c.first_bytes-2.ensures)
    (λ e. alike_end _ _ c.type_inv.a c.type_inv.b (first_alike _ _ c.type_inv.a c.type_inv.b _ c.requires.0 c.first_bytes.ensures c.first_bytes-2.ensures e) c.requires.1)
