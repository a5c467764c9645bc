-- Before anything was read nothing is held.
use Rattle.std.proofs.Common.{ℕ, arith}
use Rattle.std.proofs.lemmas.List.{length-replicate}
use Rattle.lengths_program.specs.Parts.{Ready}
use Rattle.lengths.proofs.main.Goals as goal

pub loop-init : goal.loop-init
loop-init c =
    let s = c.start-state.ensures in
    record {
      held = omega (arith, s.held, length-replicate {A = ℕ} 262144 0);
      few = omega (arith, length-replicate {A = ℕ} 262144 0);
      long = length-replicate {A = ℕ} 65536 0;
      ready = rw s.stage Ready.set;
      room = record { line = omega (arith, length-replicate {A = ℕ} 131072 0); few = omega (arith, length-replicate {A = ℕ} 131072 0) };
    }
