-- What is returned where a node is refused.
use mathlib.Core.Path.{◌≡◌, ◌∙◌, ap}
use Prim.Native.Nat.{ℕ}
use Rattle.errors.specs.Refusal.{Outcome, refused}
use Rattle.errors.specs.declared.Refusal.{Refusal}
use Rattle.errors.specs.Meaning.{refusal_of}
use Rattle.value.specs.declared.Value.{Value}
use Rattle.value.specs.Number.{number_of}
use Rattle.interpreter.specs.Eval.{refusal_at}

-- a refusal whose value is 0
pub no_value : {p o q : ℕ} (e : Refusal) (v : Value) → refusal_of e ≡ refusal_at p o q (number_of v) → number_of v ≡ 0 → ◌≡◌ {A = Outcome ℕ} (refused (refusal_of e)) (refused (refusal_at p o q 0))
no_value {p} {o} {q} e v f g = ap refused (f ∙ ap (refusal_at p o q) g)
