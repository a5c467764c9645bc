use native.Mathlib.Omega.{arith}
use Rattle.builder_paths.proofs.Segments.{inside, begin, next_one, no_more, write_more, write_end}
use Rattle.builder_paths.proofs.put_path.Goals as goal

pub overflow_add-q : goal.overflow_add-q
overflow_add-q c = omega (arith, inside c.requires.0 c.requires.1)

pub overflow_add-at : goal.overflow_add-at
overflow_add-at c = omega (arith, inside c.requires.0 c.requires.1)

pub read2-behind-requires : goal.read2-behind-requires
read2-behind-requires c = omega (arith, inside c.requires.0 c.requires.1)

pub loop-behind-init : goal.loop-behind-init
loop-behind-init c = (begin (λ n. record { is = λ zs r g. g }) c.requires.0 c.requires.1 c.read2-behind.ensures.0, omega arith)

pub put_segment-p-requires : goal.put_segment-p-requires
put_segment-p-requires c =
    let h = next_one _ c.loop-behind-test.true c.loop-behind.invariant.0 in
    (h, c.requires.2, omega (arith, c.loop-behind.invariant.1, c.requires.2, c.requires.3, h.inside))

pub next_name-q-requires : goal.next_name-q-requires
next_name-q-requires c = (next_one _ c.loop-behind-test.true c.loop-behind.invariant.0).inside

pub loop-behind-preserved : goal.loop-behind-preserved
loop-behind-preserved c = (
  write_more _ c.loop-behind-test.true c.put_segment-p.ensures.wrote c.next_name-q.ensures c.loop-behind.invariant.0,
  omega (arith, c.loop-behind.invariant.1, c.next_name-q.ensures, c.put_segment-p.ensures.upper_bound),
)

pub returns : goal.returns
returns c = λ a path e. write_end (no_more c.loop-behind-test.false c.loop-behind.invariant.0 c.requires.1 a path e)
