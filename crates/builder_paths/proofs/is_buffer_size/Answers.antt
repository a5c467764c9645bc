use native.Mathlib.Omega.{arith}
use mathlib.Core.Path.{refl}
use Rattle.builder_paths.proofs.Segments.{inside, begin, next_one, no_more, match_more, match_end, match_missed}
use Rattle.builder_paths.proofs.is_buffer_size.Goals as goal

pub overflow_add-q : goal.overflow_add-q
overflow_add-q c = omega (arith, inside c.requires.0 c.requires.1)

pub overflow_add-at : goal.overflow_add-at
overflow_add-at c = omega (arith, inside c.requires.0 c.requires.1)

pub read2-behind-requires : goal.read2-behind-requires
read2-behind-requires c = omega (arith, inside c.requires.0 c.requires.1)

pub loop-behind-init : goal.loop-behind-init
loop-behind-init c = begin (λ n. record { is = refl }) c.requires.0 c.requires.1 c.read2-behind.ensures.0

pub behind_segment-requires : goal.behind_segment-requires
behind_segment-requires c = next_one _ c.loop-behind-test.true c.loop-behind.invariant

pub returns-in-None : goal.returns-in-None
returns-in-None c = match_missed c.loop-behind-test.true c.in-None.ensures c.loop-behind.invariant c.requires.1

pub next_name-q-requires : goal.next_name-q-requires
next_name-q-requires c = (next_one _ c.loop-behind-test.true c.loop-behind.invariant).inside

pub loop-behind-preserved : goal.loop-behind-preserved
loop-behind-preserved c =
    match_more _ c.in-Some.rest c.loop-behind-test.true c.in-Some.ensures c.next_name-q.ensures c.loop-behind.invariant

pub returns : goal.returns
returns c = λ a path e. rw c.is_empty.ensures (match_end (no_more c.loop-behind-test.false c.loop-behind.invariant c.requires.1 a path e))
