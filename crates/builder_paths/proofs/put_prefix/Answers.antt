use mathlib.Core.Path.{refl}
use native.Mathlib.Omega.{arith}
use Rattle.builder_paths.proofs.Paths.{no_prefix, one_more}
use Rattle.builder_paths.proofs.put_prefix.Goals as goal

pub loop-init : goal.loop-init
loop-init c = (no_prefix _, refl)

pub loop-preserved : goal.loop-preserved
loop-preserved c = (one_more _ c.loop.invariant.0 c.put_from-p.ensures.wrote, omega (arith, c.loop.invariant.1, c.put_from-p.ensures.value))
