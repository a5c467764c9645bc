-- A rule of a table, proved once: the table is the list of what the rule gives at each place, and that is computed. So is a
-- test of each of its entries.
use mathlib.Core.Path.{◌≡◌, refl}
use mathlib.Core.Bool.{Bool, true, ◌&&◌}
use mathlib.Core.List.{List, [], ◌∷◌}
use Prim.Native.Nat.{ℕ, zero, suc, ◌<◌}
use native.Mathlib.Nat.{le_of_suc-le-suc, not-suc-le-zero}
use lib.ListN.{get_or}
use Rattle.blocks.proofs.Name.{and_left, and_right}

-- f 0, f 1 and so on: n entries
abbrev pub tabulate : {A : Type 0} → ℕ → (ℕ → A) → List A
tabulate zero f = []
tabulate (suc n) f = f zero ∷ tabulate n (λ k. f (suc k))

-- the entry at place k is what the rule gives there
pub entry : {A : Type 0} (n : ℕ) (f : ℕ → A) (k : ℕ) (d : A) → k < n → get_or (tabulate n f) k d ≡ f k
entry zero f k d h = absurd (not-suc-le-zero h)
entry (suc n) f zero d h = refl
entry (suc n) f (suc k) d h = entry n (λ k. f (suc k)) k d (le_of_suc-le-suc h)

-- whether each entry passes a test
abbrev pub each : {A : Type 0} → (A → Bool) → List A → Bool
each f [] = true
each f (x ∷ xs) = f x && each f xs

-- then the entry at any place does
pub passed : {A : Type 0} (f : A → Bool) (xs : List A) (k : ℕ) (d : A) → each f xs ≡ true → f d ≡ true → f (get_or xs k d) ≡ true
passed f [] k d t u = u
passed f (x ∷ xs) zero d t u = and_left _ _ t
passed f (x ∷ xs) (suc k) d t u = passed f xs k d (and_right (f x) _ t) u
