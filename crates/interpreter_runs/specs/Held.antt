-- What the code knows of a layout that it read once, and where a run ends.
use Rattle.std.specs.Prelude.{ℕ, ◌-◌, ◌≤◌, ◌<◌, ◌≡◌, List, length, take, drop, Result}
use Rattle.blocks.specs.Read.{read_layout}
use Rattle.errors.specs.declared.Unread.{Unread}
use Rattle.reader_leaf.specs.Answer.{read_of}
use Rattle.reader_calls.specs.Inputs.{read_call, passed}
use Rattle.interpreter.specs.Runs.{first_run, later_runs}

-- the answer to the questions of a call with the layout alone
abbrev pub Holds : ℕ → List ℕ → Result Unit Unread → Type 0
Holds n layout r = read_of r ≡ passed (read_call read_layout n layout)

-- the run at i of s ends at r
pub record Ends (s : List ℕ) (i r : ℕ) : Type 0 where
  pub more : i < r
  pub inside : r ≤ length s
  pub run : take (r - i) (drop i s) ≡ first_run (drop i s)
  pub later : drop r s ≡ later_runs (drop i s)
