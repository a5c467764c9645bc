-- The laws of an answer, once for everything that is made.
use Rattle.std.proofs.Common.{◌≡◌, ℕ, refl, Result, Ok, Err}
use Rattle.std.specs.Prelude.{IsErrAnd, Option, None}
use Rattle.std.specs.Option.{ok_or}
use Rattle.std.proofs.lemmas.Result.{err_from_is_err_and}
use Rattle.errors.specs.Refusal.{Outcome, done, refused, ◌>>=◌, at_type}
use Rattle.errors.specs.declared.Reason.{Reason}
use Rattle.errors.specs.Meaning.{number_of}
use Rattle.answers.specs.Answers.{AnswersIn, Answers, refusal_in}

module _ {A R : Type 0} {Made : R → A → Type 0} {place : ℕ} where
  -- a value: what was made
  pub answered : {r : R} {o : Outcome A} → AnswersIn place Made (Ok r) o → (x : A) × (o ≡ done x) × Made r x
  answered (AnswersIn.made x m) = (x, refl, m)

  -- a reason: the refusal
  pub unanswered : {e : Reason} {o : Outcome A} → AnswersIn place Made (Err e) o → o ≡ refused (refusal_in place (number_of e))
  unanswered AnswersIn.not = refl

  -- a refusal for this reason is an answer, whatever would have been made
  pub refuses : {e : Reason} {o : Outcome A} → o ≡ refused (refusal_in place (number_of e)) → AnswersIn place Made (Err e) o
  refuses e = rw e AnswersIn.not

  -- where a `?` hands a reason on, what is returned is the answer of that reason
  pub hands : (r : Result R Reason) {e : Reason} {o : Outcome A} → IsErrAnd r (λ d. d ≡ e) → AnswersIn place Made (Err e) o → AnswersIn place Made r o
  hands r h a = let q = err_from_is_err_and r h in rw (q.1, q.2) a

  -- where it hands on the reason that was given for a value that is not there, that reason
  pub lacks : {X : Type 0} {x : Option X} (r : Result R Reason) {d e : Reason} {o : Outcome A} → IsErrAnd r (λ y. y ≡ d) → ◌≡◌ {A = Result X Reason} (Err d) (ok_or x e) →
      x ≡ None → AnswersIn place Made (Err e) o → AnswersIn place Made r o
  lacks r {d} {e} h f z a = let g = rw z at f in let q : d ≡ e = cc g in hands r h (rw q a)

  -- what was made is an answer
  pub makes : {r : R} {o : Outcome A} (x : A) → o ≡ done x → Made r x → AnswersIn place Made (Ok r) o
  makes x e m = rw e (AnswersIn.made x m)

  -- a refusal passes through whatever follows, with its reason
  pub passes : {B Q : Type 0} {Next : Q → B → Type 0} {o : Outcome A} {e : Reason} (f : A → Outcome B) → AnswersIn place Made (Err e) o →
      AnswersIn place Next (Err e) (o >>= f)
  unfolding ◌>>=◌
  passes f AnswersIn.not = AnswersIn.not

  -- what was made goes on
  pub goes : {B Q : Type 0} {Next : Q → B → Type 0} {o : Outcome A} {r : R} {q : Result Q Reason} (f : A → Outcome B) → AnswersIn place Made (Ok r) o →
      ((x : A) → Made r x → AnswersIn place Next q (f x)) → AnswersIn place Next q (o >>= f)
  unfolding ◌>>=◌
  goes f (AnswersIn.made x m) k = k x m

  -- the same of what was made, said in other words
  pub reads_as : {S : Type 0} {Other : S → A → Type 0} {o : Outcome A} {r : R} {s : S} → ((x : A) → Made r x → Other s x) → AnswersIn place Made (Ok r) o → AnswersIn place Other (Ok s) o
  reads_as f (AnswersIn.made x m) = AnswersIn.made x (f x m)

  -- a refusal is one whatever would have been made
  pub refused_as : {S : Type 0} {Other : S → A → Type 0} {o : Outcome A} {e : Reason} → AnswersIn place Made (Err e) o → AnswersIn place Other (Err e) o
  refused_as AnswersIn.not = AnswersIn.not

-- the type's place comes to a refusal
pub at_type_lem : {A R : Type 0} {Made : R → A → Type 0} {r : Result R Reason} {o : Outcome A} (place : ℕ) → Answers Made r o → AnswersIn place Made r (at_type place o)
unfolding at_type
at_type_lem place (AnswersIn.made x m) = AnswersIn.made x m
at_type_lem place AnswersIn.not = AnswersIn.not
