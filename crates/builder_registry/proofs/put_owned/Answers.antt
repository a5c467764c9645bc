use native.Mathlib.Omega.{arith}
use Rattle.builder_registry.proofs.Puts.{owned_is, put_more, put_end, count_more, count_end}
use Rattle.builder_registry.proofs.put_owned.Goals as goal

pub loop-i-preserved : goal.loop-i-preserved
loop-i-preserved c = let mine = owned_is _ c.args.s.now _ _ _ c.is_owner-mine.ensures c.owner_at-o.ensures.value in (
  omega arith,
  omega arith,
  omega arith,
  omega arith,
  c.is_owner-mine.ensures,
  count_more _ _ _ (omega arith) _ _ _ _ _ c.loop-i-test.true c.loop-i.invariant.5 (rw mine at c.put_one-listed.ensures.count_value),
  λ zs r g. c.loop-i.invariant.6 zs r
      (put_more _ _ _ (omega arith) _ _ c.loop-i-test.true (rw mine at c.put_one-listed.ensures.wrote) g),
)

pub returns-clause-wrote : goal.returns-clause-wrote
returns-clause-wrote c = c.loop-i.invariant.6 _ _ (put_end _ _ _ (omega arith) _ _ _ _ c.loop-i-test.false)

pub returns-clause-count_value : goal.returns-clause-count_value
returns-clause-count_value c = count_end _ _ _ (omega arith) _ _ _ _ c.loop-i-test.false c.loop-i.invariant.5
