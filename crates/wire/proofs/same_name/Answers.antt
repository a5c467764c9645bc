-- Names of one length are compared by numbers of as many bytes as they have, the last first.
use Rattle.std.proofs.Common.{arith}
use Rattle.wire.proofs.Names.{same_long, same_not, same_ends, same_one, same_empty}
use Rattle.wire.proofs.same_name.Goals as goal

pub returns-then-n-b : goal.returns-then-n-b
returns-then-n-b c = same_long _ _ c.if-n-b.true

pub returns-then-read4 : goal.returns-then-read4
returns-then-read4 c = same_not _ _ 4 _ c.read4.ensures.0 c.read4-then-n-ge4.ensures.0 c.if-read4.true

pub returns-then-n-ge4 : goal.returns-then-n-ge4
returns-then-n-ge4 c =
    same_ends _ _ (λ i. (c.type_inv.a i).fits) (λ i. (c.type_inv.b i).fits) c.if-n-b.false 4 c.if-n-ge4.true
    (omega arith)
    c.read4.ensures.0
    c.read4-then-n-ge4.ensures.0
    c.if-read4.false
    c.read4-then-n-ge4-2.ensures.0
    c.read4-then-n-ge4-3.ensures.0

pub returns-then-read2 : goal.returns-then-read2
returns-then-read2 c = same_not _ _ 2 _ c.read2.ensures.0 c.read2-then-n-ge2.ensures.0 c.if-read2.true

pub returns-then-n-ge2 : goal.returns-then-n-ge2
returns-then-n-ge2 c =
    same_ends _ _ (λ i. (c.type_inv.a i).fits) (λ i. (c.type_inv.b i).fits) c.if-n-b.false 2 c.if-n-ge2.true
    (omega arith)
    c.read2.ensures.0
    c.read2-then-n-ge2.ensures.0
    c.if-read2.false
    c.read2-then-n-ge2-2.ensures.0
    c.read2-then-n-ge2-3.ensures.0

pub returns-then-n-eq1 : goal.returns-then-n-eq1
returns-then-n-eq1 c =
    same_one _ _ (λ i. (c.type_inv.a i).fits) (λ i. (c.type_inv.b i).fits) c.if-n-b.false c.if-n-eq1.true

pub returns : goal.returns
returns c = same_empty _ _ c.if-n-b.false (omega arith)
