use Rattle.std.proofs.Common.{◌≡◌, ◌+◌, ◌-◌, arith}
use native.Mathlib.Numerals.{unary_clauses}
use Rattle.lookup.proofs.Values.{passed_none, passed_all, next_one, passed_one, passed_hit}
use Rattle.lookup.proofs.value_from.Goals as goal

pub loop-init : goal.loop-init
loop-init c = simp unary_clauses (passed_none c.requires)

pub is_named-requires : goal.is_named-requires
is_named-requires c = omega (arith, next_one (omega arith) c.loop.invariant)

pub behind_name-requires : goal.behind_name-requires
behind_name-requires c = omega (arith, next_one (omega arith) c.loop.invariant)

pub returns-then-is_named : goal.returns-then-is_named
returns-then-is_named c = passed_hit (omega arith) c.loop.invariant c.is_named.ensures c.behind_name.ensures c.if-is_named.true

pub overflow_add-at : goal.overflow_add-at
overflow_add-at c = omega (arith, next_one (omega arith) c.loop.invariant)

pub read2-requires : goal.read2-requires
read2-requires c = omega (arith, next_one (omega arith) c.loop.invariant)

pub overflow_add-at-in-loop : goal.overflow_add-at-in-loop
overflow_add-at-in-loop c = omega (arith, c.read2.ensures.0, next_one (omega arith) c.loop.invariant)

pub loop-preserved : goal.loop-preserved
loop-preserved c =
    let next : c.args.count - (c.loop.counter + 1) ≡ c.args.count - c.loop.counter - 1 = omega arith in
    rw next (passed_one (omega arith) c.loop.invariant c.is_named.ensures (omega (arith, c.read2.ensures.0)) c.if-is_named.false)

pub returns : goal.returns
returns c = passed_all (omega arith) c.loop.invariant
