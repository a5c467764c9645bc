-- The lines that the program has yet to print, where it stands between two calls.
use Rattle.std.specs.Prelude.{ℕ, ◌≡◌, Bool, true, false, List, [], ◌++◌, length, take}
use Rattle.lengths_definition.specs.Lengths.{run_lines, lengths}
use Rattle.lengths_program.specs.declared.Stage.{Stage}
use Rattle.lengths_program.specs.declared.Stage.TheVariants.{Set, Runs, Ended}

-- those of the runs in s, from this run on
abbrev pub runs : List ℕ → ℕ → List ℕ → List ℕ
runs layout run s = run_lines (length s) layout run s

-- those of the input s, by how far the program has come; the layout stands at the start of its buffer
abbrev pub left : Stage → List ℕ → List ℕ → List ℕ
left Set layout s = lengths s
left (Runs run m) layout s = runs (take m layout) run s
left Ended layout s = []

-- whether the last line was printed
abbrev pub is_ended : Stage → Bool
is_ended Set = false
is_ended (Runs run m) = false
is_ended Ended = true

-- where the input has ended, nothing follows
abbrev pub Ends : Bool → List ℕ → Type 0
Ends last rest = last ≡ true → rest ≡ []

-- The bytes bs are printed: whatever follows s, its lines f are bs, and then the lines g of u, which is followed by the same.
pub record Prints (last : Bool) (f g : List ℕ → List ℕ) (s u bs : List ℕ) : Type 0 where
  pub is : (rest : List ℕ) → Ends last rest → f (s ++ rest) ≡ bs ++ g (u ++ rest)
