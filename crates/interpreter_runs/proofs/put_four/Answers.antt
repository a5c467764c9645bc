-- `put_four` meets its contract: four stores, each of which fits.
use native.Mathlib.Omega.{arith}
use lib.ListN.{length-set}
use Rattle.interpreter_runs.proofs.Laws.{four}
use borrow.Author.Rules.{rules}
use Rattle.interpreter_runs.proofs.put_four.Goals as goal

pub returns : goal.returns
returns c = four _ _ _ _ _ _
