-- What code that answers with a value or a reason says of the definition's outcome: what was made, or the refusal. Of a refusal nothing
-- else is said.
use Rattle.std.specs.Prelude.{ℕ, Result, Ok, Err}
use Rattle.errors.specs.Refusal.{Refusal, Outcome, done, refused, nowhere}
use Rattle.errors.specs.declared.Reason.{Reason}
use Rattle.errors.specs.Meaning.{number_of}

-- the refusal with this number at a type's place
abbrev pub refusal_in : ℕ → ℕ → Refusal
refusal_in place k = record { number = k; place = place; offset = 0; value = 0 }

-- the same for the type at a place
pub data AnswersIn {A R : Type 0} (place : ℕ) (Made : R → A → Type 0) : Result R Reason → Outcome A → Type 0 where
  made : {r : R} (x : A) → Made r x → AnswersIn place Made (Ok r) (done x)
  not : {e : Reason} → AnswersIn place Made (Err e) (refused (refusal_in place (number_of e)))

-- made, or refused for this reason: the place of the type is not known yet
abbrev pub Answers : {A R : Type 0} → (R → A → Type 0) → Result R Reason → Outcome A → Type 0
Answers Made = AnswersIn nowhere Made
