-- The set comes next, and all that was read is held.
use Rattle.std.proofs.Common.{ℕ, ◌∙◌, arith}
use Rattle.std.proofs.lemmas.List.{length-replicate}
use Rattle.lengths_program.specs.Parts.{Ready}
use Rattle.replay.proofs.printed.Goals as goal

pub lines-requires : goal.lines-requires
lines-requires c =
    record {
      held = omega (arith, c.after_read-all.ensures.held, c.after_read-read.ensures.held, c.start.ensures.held, c.requires.0);
      few = omega (arith, c.requires.1);
      long = length-replicate {A = ℕ} 65536 0;
      ready = rw (c.after_read-all.ensures.stage ∙ c.after_read-read.ensures.stage ∙ c.start.ensures.stage) Ready.set;
      room = c.requires.2;
    }
