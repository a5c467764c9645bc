-- `next_block` meets its contract: the length field decides, where there are four bytes.
use native.Mathlib.Omega.{arith}
use Rattle.lengths_program.proofs.Blocks.{next_short, next_part, next_long, next_whole, next_cut}
use Rattle.lengths_program.proofs.next_block.Goals as goal

pub returns-then-last : goal.returns-then-last
returns-then-last c = next_short _ c.if-last.true c.if-s-lt4.true

pub returns-then-s-lt4 : goal.returns-then-s-lt4
returns-then-s-lt4 c = next_part _ c.if-last.false (omega (arith, c.if-s-lt4.true))

pub returns-then-n-gt65536 : goal.returns-then-n-gt65536
returns-then-n-gt65536 c = next_long _ c.if-s-lt4.false c.read4-n.ensures.0 c.if-n-gt65536.true

pub returns-then-n-s : goal.returns-then-n-s
returns-then-n-s c =
    next_whole _ c.if-s-lt4.false c.read4-n.ensures.0 c.if-n-gt65536.false c.if-n-s.true

pub returns-then-last-2 : goal.returns-then-last-2
returns-then-last-2 c =
    next_cut _ c.if-s-lt4.false c.read4-n.ensures.0 c.if-last-2.true c.if-n-gt65536.false c.if-n-s.false

pub returns : goal.returns
returns c = next_part _ c.if-last-2.false (omega (arith, c.if-n-gt65536.false, c.if-n-s.false))
