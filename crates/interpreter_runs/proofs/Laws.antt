-- Where a run ends, and the four words of an answer. Assumes nothing.
use mathlib.Core.Path.{◌≡◌, refl, sym, ap, ◌∙◌}
use mathlib.Core.List.{List, [], ◌∷◌}
use Prim.Native.Nat.{ℕ, suc, ◌+◌, ◌-◌, ◌<◌, ◌≤◌}
use native.Mathlib.Numerals.{add-one}
use native.Mathlib.Omega.{arith}
use lib.ListN.{length, set, take, drop, length-drop, drop_of_length-le}
use lib.Seq.{take_all, drop-length, drop-drop, get_or-drop}
use Rattle.errors.specs.Refusal.{Outcome, done, refused}
use Rattle.errors.specs.Answer.{answer_words}
use Rattle.blocks.specs.Bytes.{le, le4}
use Rattle.wire.specs.Poke.{poke, Wrote}
use Rattle.interpreter.specs.Runs.{first_run, later_runs}
use Rattle.interpreter_runs.specs.Held.{Ends}

-- ---- where a run ends

module _ (s : List ℕ) (i : ℕ) (lies : i < length s) where
  -- the length field of the run that begins at i
  length_at : le4 (drop i s) 0 ≡ le4 s i
  unfolding le
  length_at =
      let a : i + 0 ≡ i = omega arith in
      let b : i + 1 + 1 ≡ i + 2 = omega arith in
      let d : i + 2 + 1 ≡ i + 3 = omega arith in
      rw (get_or-drop i s 0 0, get_or-drop i s 1 0, get_or-drop i s 2 0, get_or-drop i s 3 0, a, b, d)

  -- what is there is no longer than the run
  ends_all : length s ≤ i + 4 + le4 (drop i s) 0 → Ends s i (length s)
  unfolding first_run later_runs
  ends_all h =
      record {
        more = lies;
        inside = omega arith;
        run = take_all (length s - i) (drop i s) (omega (arith, length-drop i s)) ∙ sym (take_all (4 + le4 (drop i s) 0) (drop i s) (omega (arith, length-drop i s)));
        later = drop-length s ∙ sym (drop_of_length-le (drop i s) {i = 4 + le4 (drop i s) 0} (omega (arith, length-drop i s)));
      }

  -- there are too few bytes for a length field
  pub ends_short : length s - i < 4 → Ends s i (length s)
  ends_short h = ends_all (omega arith)

  module _ {n : ℕ} (e : n ≡ le4 s i) where
    -- the run is longer than what is there
    pub ends_cut : 4 ≤ length s - i → length s - i - 4 < n → Ends s i (length s)
    ends_cut g h = ends_all (omega (arith, length_at))

    -- the run ends before the bytes do
    pub ends_inside : 4 ≤ length s - i → n ≤ length s - i - 4 → Ends s i (i + 4 + n)
    unfolding first_run later_runs
    ends_inside g h =
        let k : 4 + n ≡ 4 + le4 (drop i s) 0 = omega (arith, length_at) in
        let l : i + 4 + n - i ≡ 4 + n = omega arith in
        let m : i + 4 + n ≡ i + (4 + n) = omega arith in
        record {
          more = omega arith;
          inside = omega arith;
          run = ap (λ (z : ℕ). take z (drop i s)) (l ∙ k);
          later = ap (λ (z : ℕ). drop z s) m ∙ sym (drop-drop (4 + n) i s) ∙ ap (λ (z : ℕ). drop z (drop i s)) k;
        }

-- ---- the words of an answer

-- four stores one behind the other write four words
pub four : (xs : List ℕ) (at a b c d : ℕ) → Wrote xs at (a ∷ b ∷ c ∷ d ∷ []) (set (set (set (set xs at a) (at + 1) b) (at + 2) c) (at + 3) d) (at + 4)
unfolding poke
four xs at a b c d =
    let two : at + 2 ≡ suc (suc at) = omega arith in
    let three : at + 3 ≡ suc (suc (suc at)) = omega arith in
    record { end = refl; left = rw (add-one, two, three) }

-- an answer has four words
pub four_words : (o : Outcome ℕ) → length (answer_words o) ≡ 4
unfolding answer_words
four_words (done n) = refl
four_words (refused r) = refl
