-- Runs that stand one behind the other, over one layout: each is answered as if it were asked alone.
use Rattle.std.specs.Prelude.{ℕ, zero, suc, ◌+◌, ◌/◌, List, [], ◌∷◌, length, take, drop}
use Rattle.errors.specs.Refusal.{Outcome}
use Rattle.blocks.specs.Bytes.{le4}
use Rattle.interpreter.specs.Validate.{validate_run}

-- The first run: a block as long as its length field says, or as much of it as is there.
unfoldable pub first_run : List ℕ → List ℕ
first_run s = take (4 + le4 s 0) s

-- the runs behind it
unfoldable pub later_runs : List ℕ → List ℕ
later_runs s = drop (4 + le4 s 0) s

-- The outcomes of the runs in s. A run has a byte or more, so that k, the number of bytes, is enough.
unfoldable pub outcomes : ℕ → (List ℕ → Outcome ℕ) → List ℕ → List (Outcome ℕ)
outcomes zero f s = []
outcomes (suc k) f [] = []
outcomes (suc k) f (x ∷ s) = f (first_run (x ∷ s)) ∷ outcomes k f (later_runs (x ∷ s))

unfoldable pub validate_runs : ℕ → List ℕ → List ℕ → List (Outcome ℕ)
validate_runs words layout s = outcomes (length s) (validate_run words layout) s

-- as many of them, from the first on, as so many words have room for
unfoldable pub given : ℕ → List (Outcome ℕ) → List (Outcome ℕ)
given room os = take (room / 4) os
