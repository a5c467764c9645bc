-- `answer_all` meets its contract. The loop's invariant: whatever writes the words of the answers that are left makes all words.
use Prim.Native.Nat.{◌-◌}
use borrow.Author.Rules.{rules}
use native.Mathlib.Omega.{arith}
use lib.ListN.{length}
use Rattle.interpreter.specs.Validate.{validate_run}
use Rattle.interpreter.specs.Runs.{validate_runs}
use mathlib.Core.Path.{◌≡◌, refl, ◌∙◌}
use Rattle.interpreter_runs.proofs.Loop.{Answering, answering_start, answering_end, answering_full, answering_more}
use Rattle.interpreter_runs.proofs.answer_all.Given as goal

abbrev pub invariant-loop-i : goal.invariant-loop-i
invariant-loop-i l =
    (length l.words ≡ length l.initial.words) × Answering (validate_run l.n l.layout) l.s l.initial.out l.out l.i l.at

abbrev pub decreases-loop-i : goal.decreases-loop-i
decreases-loop-i l = length l.s - l.i
