use borrow.Author.Rules.{rules}
use mathlib.Core.Path.{◌≡◌, refl, ◌∙◌, ap}
use Prim.Native.Nat.{ℕ}
use Rattle.std.specs.Prelude.{Result, Ok, Err, MatchResult}
use Rattle.errors.specs.Refusal.{refused}
use Rattle.errors.specs.declared.Refusal.{Refusal}
use Rattle.errors.specs.declared.Reason.{Reason}
use Rattle.errors.specs.Meaning.{number_of, refusal_of, outcome_of}
use Rattle.value.specs.declared.Value.{Value}
use Rattle.interpreter_arithmetic.specs.Num.{result_of}
use Rattle.interpreter.specs.Eval.{refusal_at, lift}
use Rattle.interpreter_leaves.proofs.Frame.lifted.Goals as goal

-- by the result of arithmetic
lifted_is : (p a : ℕ) (n : Result Value Reason) (r : Result Value Refusal) →
    MatchResult n (λ v. r ≡ Ok v) (λ q. (e : Refusal) × (r ≡ Err e) × (refusal_of e ≡ refusal_at p a (number_of q) 0)) → outcome_of r ≡ lift p a (result_of n)
unfolding lift
lifted_is p a (Ok v) r h = ap outcome_of h
lifted_is p a (Err q) r h = ap outcome_of h.1 ∙ ap refused h.2

pub returns-in-Ok : goal.returns-in-Ok
returns-in-Ok c = lifted_is _ _ c.args.n _ (rw c.in-Ok.is c.counted.ensures)

pub returns-in-Err : goal.returns-in-Err
returns-in-Err c = lifted_is _ _ c.args.n (Err c.refused.result) (rw c.in-Err.is (c.refused.result, refl, search rules))
