-- The loop over the runs. Assumes nothing.
use mathlib.Core.Path.{◌≡◌, refl, ap, ◌∙◌}
use mathlib.Core.List.{List, [], ◌∷◌, ◌++◌}
use Prim.Native.Nat.{ℕ, zero, suc, ◌+◌, ◌-◌, ◌*◌, ◌/◌, ◌<◌, ◌≤◌}
use native.Mathlib.Nat.{sub-zero}
use native.Mathlib.Omega.{arith}
use lib.ListN.{length, take, drop, length-append, length-take, drop_of_length-le}
use lib.Seq.{take-nil, drop-cons}
use Rattle.errors.specs.Refusal.{Outcome}
use Rattle.wire.specs.Poke.{Wrote}
use Rattle.wire.proofs.Laws.{both, none, poke_length, poke_whole}
use Rattle.interpreter.specs.Runs.{first_run, later_runs, outcomes, given}
use Rattle.errors.specs.Answer.{answer_words, all_answer_words}
use Rattle.interpreter_runs.specs.Held.{Ends}
use Rattle.interpreter_runs.proofs.Laws.{four_words}

-- The words of the answers that are left behind m of them, where there is room for so many in all.
abbrev left : (List ℕ → Outcome ℕ) → ℕ → List ℕ → ℕ → ℕ → List ℕ
left f room s i m = all_answer_words (take (room / 4 - m) (outcomes (length s - m) f (drop i s)))

-- Behind m answers: the words of the others, written here, make all words.
pub record Answering (f : List ℕ → Outcome ℕ) (s out xs : List ℕ) (i at : ℕ) : Type 0 where
  pub m : ℕ
  pub cursor : at ≡ 4 * m
  pub fits : at ≤ length out
  pub same : length xs ≡ length out
  pub inside : i ≤ length s
  pub passed : m ≤ i
  pub rest : (zs : List ℕ) (r : ℕ) → Wrote xs at (left f (length out) s i m) zs r → Wrote out 0 (all_answer_words (given (length out) (outcomes (length s) f s))) zs r

-- the loop begins with no answer
pub answering_start : (f : List ℕ → Outcome ℕ) (s out : List ℕ) → Answering f s out out 0 0
unfolding given
answering_start f s out =
    record { m = 0; cursor = refl; fits = omega arith; same = refl; inside = omega arith; passed = omega arith; rest = λ zs r w. rw (sub-zero (length s), sub-zero (length out / 4)) at w }

-- no bytes, no answers
no_runs : (k : ℕ) (f : List ℕ → Outcome ℕ) → outcomes k f [] ≡ []
unfolding outcomes
no_runs zero f = refl
no_runs (suc k) f = refl

-- the words of the first answer stand before those of the others
one_more : (j k : ℕ) (f : List ℕ → Outcome ℕ) (x : ℕ) (t : List ℕ) →
    all_answer_words (take (suc j) (outcomes (suc k) f (x ∷ t))) ≡ answer_words (f (first_run (x ∷ t))) ++ all_answer_words (take j (outcomes k f (later_runs (x ∷ t))))
unfolding all_answer_words outcomes
one_more j k f x t = refl

module _ {f : List ℕ → Outcome ℕ} {s out xs : List ℕ} {i at : ℕ} (g : Answering f s out xs i at) where
  -- no byte is left: all answers were written
  pub answering_end : length s ≤ i → Wrote out 0 (all_answer_words (given (length out) (outcomes (length s) f s))) xs at
  unfolding all_answer_words
  answering_end h = g.rest xs at (rw (drop_of_length-le s h, no_runs (length s - g.m) f, take-nil {A = Outcome ℕ} (length out / 4 - g.m)) (none xs at))

  -- no room is left: as many as there is room for were written
  pub answering_full : length xs - at < 4 → Wrote out 0 (all_answer_words (given (length out) (outcomes (length s) f s))) xs at
  unfolding all_answer_words
  answering_full h =
      let e : length out / 4 - g.m ≡ 0 = omega (arith, g.cursor, g.same) in
      g.rest xs at (rw e (none xs at))

  module _ (lies : i < length s) (room : 4 ≤ length xs - at) {end : ℕ} (ends : Ends s i end) where
    -- the answer to the run at i, and what is left behind it
    turn : left f (length out) s i g.m ≡ answer_words (f (take (end - i) (drop i s))) ++ left f (length out) s end (g.m + 1)
    turn =
        let j : length out / 4 - g.m ≡ suc (length out / 4 - (g.m + 1)) = omega (arith, g.cursor, g.same) in
        let k : length s - g.m ≡ suc (length s - (g.m + 1)) = omega (arith, g.passed) in
        rw (ends.run, ends.later, j, k, drop-cons s i 0 lies) (one_more (length out / 4 - (g.m + 1)) (length s - (g.m + 1)) f _ _)

    -- its words were written: the loop goes on behind the run
    pub answering_more : {o : Outcome ℕ} {ys : List ℕ} {r : ℕ} → o ≡ f (take (end - i) (drop i s)) → Wrote xs at (answer_words o) ys r → Answering f s out ys end r
    answering_more {o} e w =
        record {
          m = g.m + 1;
          cursor = omega (arith, w.end, four_words o, g.cursor);
          fits = omega (arith, w.end, four_words o, g.same, g.fits);
          same = ap length w.left ∙ poke_length xs at (answer_words o) ∙ g.same;
          inside = ends.inside;
          passed = omega (arith, ends.more, g.passed);
          rest = λ zs q v. g.rest zs q (rw turn (both (rw e at w) v));
        }

-- ---- how many answers, and what is left behind them

-- answers have four words each
all_words : (os : List (Outcome ℕ)) → length (all_answer_words os) ≡ 4 * length os
unfolding all_answer_words
all_words [] = refl
all_words (o ∷ os) = omega (arith, length-append (answer_words o) (all_answer_words os), four_words o, all_words os)

module _ {xs ys : List ℕ} (os : List (Outcome ℕ)) {r : ℕ} (w : Wrote xs 0 (all_answer_words (given (length xs) os)) ys r) where
  -- a quarter of the words is the number of answers
  pub answers_counted : r / 4 ≡ length (given (length xs) os)
  answers_counted = omega (arith, w.end, all_words (given (length xs) os))

  -- the answers' words, and behind them what stood there before
  pub answers_stand : ys ≡ all_answer_words (given (length xs) os) ++ drop (4 * (r / 4)) xs
  unfolding given
  answers_stand =
      let l = all_words (given (length xs) os) in
      let k : length (all_answer_words (given (length xs) os)) ≡ 4 * (r / 4) = omega (arith, w.end) in
      w.left ∙ poke_whole xs _ (omega (arith, length-take (length xs / 4) os)) ∙ rw k
