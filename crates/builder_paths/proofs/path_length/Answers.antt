use native.Mathlib.Omega.{arith}
use Rattle.builder_paths.proofs.Segments.{inside, begin, next_one, no_more, pass_more, pass_end}
use Rattle.builder_paths.proofs.path_length.Goals as goal

pub overflow_add-q : goal.overflow_add-q
overflow_add-q c = omega (arith, inside c.requires.0 c.requires.1)

pub overflow_add-at : goal.overflow_add-at
overflow_add-at c = omega (arith, inside c.requires.0 c.requires.1)

pub read2-behind-requires : goal.read2-behind-requires
read2-behind-requires c = omega (arith, inside c.requires.0 c.requires.1)

pub loop-behind-init : goal.loop-behind-init
loop-behind-init c = (
  begin (λ n. record { is = omega arith }) c.requires.0 c.requires.1 c.read2-behind.ensures.0,
  omega arith,
  omega (arith, inside c.requires.0 c.requires.1),
)

pub segment_length-n-requires : goal.segment_length-n-requires
segment_length-n-requires c = (next_one _ c.loop-behind-test.true c.loop-behind.invariant.0).inside

pub overflow_add-n : goal.overflow_add-n
overflow_add-n c =
    omega (
      arith,
      c.loop-behind.invariant,
      c.segment_length-n.ensures.1,
      (next_one _ c.loop-behind-test.true c.loop-behind.invariant.0).inside,
    )

pub next_name-q-requires : goal.next_name-q-requires
next_name-q-requires c = (next_one _ c.loop-behind-test.true c.loop-behind.invariant.0).inside

pub loop-behind-preserved : goal.loop-behind-preserved
loop-behind-preserved c = (
  pass_more _ c.loop-behind-test.true c.segment_length-n.ensures.0 c.next_name-q.ensures c.loop-behind.invariant.0,
  omega (arith, c.loop-behind.invariant.1, c.next_name-q.ensures, c.segment_length-n.ensures.1),
  omega (arith, c.next_name-q.ensures, (next_one _ c.loop-behind-test.true c.loop-behind.invariant.0).inside),
)

pub returns-clause-value : goal.returns-clause-value
returns-clause-value c = λ a path e. pass_end (no_more c.loop-behind-test.false c.loop-behind.invariant.0 c.requires.1 a path e)
