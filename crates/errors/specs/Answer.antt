-- An outcome as four words: "A refusal gives number, type place in the set or layout (65,535 if none), offset and value." An
-- accepted call has number 0, no place, and its count as value.
use Rattle.std.specs.Prelude.{ℕ, List, [], ◌∷◌, ◌++◌, length}
use Rattle.errors.specs.Refusal.{Outcome, done, refused, nowhere}

unfoldable pub answer_words : Outcome ℕ → List ℕ
answer_words (done n) = 0 ∷ nowhere ∷ 0 ∷ n ∷ []
answer_words (refused r) = r.number ∷ r.place ∷ r.offset ∷ r.value ∷ []

-- an accepted reading has no count
unfoldable pub read : {A : Type 0} → Outcome A → Outcome ℕ
read (done a) = done 0
read (refused r) = refused r

-- a built layout's count is its length
unfoldable pub built : {A : Type 0} → Outcome (List A) → Outcome ℕ
built (done bs) = done (length bs)
built (refused r) = refused r

-- outcomes one behind the other
unfoldable pub all_answer_words : List (Outcome ℕ) → List ℕ
all_answer_words [] = []
all_answer_words (o ∷ os) = answer_words o ++ all_answer_words os
