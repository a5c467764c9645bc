-- `place` meets its contract: the entries that may have the mark are asked from the last one down.
use Rattle.std.proofs.Common.{◌-◌, ◌<◌, arith}
use Rattle.marks.proofs.Walks.{walk_chain}
use Rattle.interpreter_values.proofs.Index.{table_of, offset_at, name_in, searching_first, searching_hit, searching_miss, searching_end}
use Rattle.interpreter_values.proofs.place.Goals as goal

pub loop-j-init : goal.loop-j-init
loop-j-init c = searching_first (c.last-j.ensures (table_of c.requires.1))

pub is_named-requires : goal.is_named-requires
is_named-requires c = name_in c.requires.0 c.args.words.now c.requires.1 (omega (arith, c.loop-j.invariant.walk.within))

pub returns-then-is_named : goal.returns-then-is_named
returns-then-is_named c =
    let low : c.loop-j.j - 1 < c.args.m = omega (arith, c.loop-j.invariant.walk.within) in
    let here = offset_at c.requires.0 c.args.words.now c.requires.1 low in
    (low, searching_hit c.loop-j.invariant c.loop-j-test.true c.is_named.ensures here c.requires.0 c.requires.1.within c.if-is_named.true)

pub before-j-requires : goal.before-j-requires
before-j-requires c = (c.loop-j-test.true, walk_chain c.loop-j.invariant.walk c.requires.1.linked)

pub loop-j-smaller : goal.loop-j-smaller
loop-j-smaller c =
    omega (arith, (c.before-j.ensures (walk_chain c.loop-j.invariant.walk c.requires.1.linked)).within)

pub loop-j-preserved : goal.loop-j-preserved
loop-j-preserved c =
    let low : c.loop-j.j - 1 < c.args.m = omega (arith, c.loop-j.invariant.walk.within) in
    let here = offset_at c.requires.0 c.args.words.now c.requires.1 low in
    let prior = c.before-j.ensures (walk_chain c.loop-j.invariant.walk c.requires.1.linked) in
    searching_miss c.loop-j.invariant c.loop-j-test.true c.is_named.ensures here prior c.if-is_named.false

pub returns : goal.returns
returns c = searching_end c.sum_mark-mark.ensures c.loop-j.invariant c.loop-j-test.false
