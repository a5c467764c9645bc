-- `run_lent` meets its contract: its type is evaluated with its values and its buffer length.
use Rattle.interpreter_validate.proofs.Laws.{run_inside, run_located, run_answers}
use native.Mathlib.Omega.{arith}
use Rattle.interpreter_validate.proofs.run_lent.Goals as goal

pub name_at-requires : goal.name_at-requires
name_at-requires c = omega (arith, run_inside _ c.requires.0.other_read)

pub type_lent-requires : goal.type_lent-requires
type_lent-requires c =
    (run_located c.requires.0 c.run_root.ensures, c.requires.1)

pub returns : goal.returns
returns c = record {
  words_len_unchanged = c.type_lent.ensures.words_len_unchanged;
  answers = run_answers _ c.run_root.ensures c.name_at.ensures c.type_lent.result c.type_lent.ensures.type_answers;
}
