-- The last eight bytes are alike; sixteen more before them are; with the first eight, all are.
use Rattle.std.proofs.Common.{arith}
use Rattle.wire.proofs.Names.{alike_past, alike_back, alike_whole, alike_inner}
use Rattle.wire.proofs.same_long.Goals as goal

pub loop-i-init : goal.loop-i-init
loop-i-init c = record {
  within = omega arith;
  alike = alike_back _ _ c.type_inv.a c.type_inv.b (alike_past c.requires.1) 8 _ (omega arith) c.read8.ensures c.read8-2.ensures c.if-read8.false;
}

pub loop-i-preserved : goal.loop-i-preserved
loop-i-preserved c = record {
  within = omega arith;
  alike =
      alike_back _ _ c.type_inv.a c.type_inv.b
      (alike_back _ _ c.type_inv.a c.type_inv.b c.loop-i.invariant.alike 8 _ (omega arith) c.read8-in-loop-i.ensures c.read8-in-loop-i-2.ensures c.if-read8-3.false)
      8 _ (omega arith) c.read8-in-loop-i-3.ensures c.read8-in-loop-i-4.ensures c.if-read8-4.false;
}

pub returns-then-i-gt8 : goal.returns-then-i-gt8
returns-then-i-gt8 c =
    alike_inner _ _ c.type_inv.a c.type_inv.b c.requires.1 c.loop-i.invariant.alike 8 c.loop-i-test.false
    c.read8-3.ensures c.read8-4.ensures c.if-read8-2.false c.read8-then-i-gt8.ensures c.read8-then-i-gt8-2.ensures

pub returns : goal.returns
returns c =
    alike_whole _ _ c.type_inv.a c.type_inv.b c.requires.1 c.loop-i.invariant.alike 8 c.if-i-gt8.false c.read8-3.ensures c.read8-4.ensures c.if-read8-2.false
