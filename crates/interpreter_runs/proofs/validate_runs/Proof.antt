-- `validate_runs` meets its contract: every run is answered over the layout that was read once, and all words are cleared behind it.
use mathlib.Core.Path.{ap, ◌∙◌}
use native.Mathlib.Omega.{arith}
use Prim.Native.Nat.{ℕ}
use lib.ListN.{replicate}
use Rattle.interpreter_runs.proofs.Loop.{answers_counted, answers_stand}
use borrow.Author.Rules.{rules}
use Rattle.interpreter_runs.proofs.validate_runs.Statement.{statement}
use Rattle.interpreter_runs.proofs.validate_runs.Tie as tie

one-read-requires : tie.Need-one_read-first-requires
one-read-requires c κs = search rules

answer-all-requires : tie.Need-answer_all-end-requires
answer-all-requires c κs = (c.one_read-first.ensures, λ h. omega (arith, h))

clear-used-requires : tie.Need-clear_used-requires
clear-used-requires c κs = search rules

same_length : tie.Need-shape_of-words
same_length c = search rules

same-length-2 : tie.Need-shape_of-answers
same-length-2 c = search rules

returns : tie.Need-returns
returns c = (
  answers_counted _ c.answer_all-end.ensures.1,
  (
    answers_stand _ c.answer_all-end.ensures.1,
    c.clear_used.ensures ∙ ap (λ (n : ℕ). replicate n 0) c.answer_all-end.ensures.0,
  ),
)

pub validate_runs_spec : {M : Type 1} → statement M
validate_runs_spec =
    tie.close
    (tie.spec
    one-read-requires
    answer-all-requires
    clear-used-requires
    same_length
    same-length-2
    returns)
