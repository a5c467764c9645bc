-- Each type tree stands behind those before it; a refusal is that of the type at its place.
use Rattle.std.proofs.Common.{◌≡◌, ◌+◌, ◌-◌, arith}
use Rattle.builder_set.proofs.Laws.{begin, go_on, stopped, no_more, type_ready, ready_again, next_end, next_inside, set_counts}
use Rattle.builder_set.proofs.build_types.Goals as goal

pub read2-place-end-requires : goal.read2-place-end-requires
read2-place-end-requires c = omega (arith, (set_counts c.requires.0).0)

pub loop-place-init : goal.loop-place-init
loop-place-init c = record {
  types = omega (arith, (set_counts c.requires.0).1, c.read2-place-end.ensures.0);
  low = omega arith;
  high = omega arith;
  inside = omega arith;
  ready = c.requires.0;
  loop = begin (omega (arith, c.read2-place-end.ensures.0));
}

pub build_type-requires : goal.build_type-requires
build_type-requires c =
    type_ready c.loop-place.invariant.ready (omega arith) c.loop-place.invariant.loop (omega (arith, c.requires.1, c.loop-place.invariant))

pub returns-in-Err-clause-builds_types : goal.returns-in-Err-clause-builds_types
returns-in-Err-clause-builds_types c = stopped (omega arith) c.in-Err.ensures.builds_type c.of_type.ensures c.loop-place.invariant.loop

pub read4-requires : goal.read4-requires
read4-requires c = omega (arith, next_inside c.loop-place.invariant.ready (omega arith) c.loop-place.invariant.loop)

pub loop-place-preserved : goal.loop-place-preserved
loop-place-preserved c =
    let next : c.read2-place-end.result - (c.loop-place.place + 1) ≡ c.read2-place-end.result - c.loop-place.place - 1 = omega arith in
    record {
      types = omega (arith, c.loop-place.invariant.types);
      low = omega (arith, c.loop-place.invariant.low, c.in-Ok.ensures.at_le_at.0);
      high = omega (arith, c.loop-place.invariant.high, c.in-Ok.ensures.at_le_at.1);
      inside = omega (arith, next_end c.loop-place.invariant.ready (omega arith) c.loop-place.invariant.loop, c.read4.ensures.0);
      ready = ready_again c.loop-place.invariant.ready c.build_type.auto.words;
      loop = rw next (go_on (omega arith) c.in-Ok.ensures.builds_type c.read4.ensures.0 c.loop-place.invariant.loop);
    }

pub returns-clause-builds_types : goal.returns-clause-builds_types
returns-clause-builds_types c = no_more (omega arith) c.loop-place.invariant.loop
