-- What is remembered stays remembered: nothing written, a word of an open call written, one step behind another.
use Prim.Native.Nat.{ℕ, ◌≤◌, ◌<◌}
use native.Mathlib.Omega.{arith}
use mathlib.Core.Path.{◌≡◌, refl, sym, ◌∙◌, subst}
use mathlib.Core.List.{List}
use lib.ListN.{length, get_or, set, length-set}
use lib.Seq.{get_or-set_same, get_or-set_other, drop-set-lt}
use Rattle.interpreter_values.specs.Remembered.{Remembered, Kept}

module _ {s : List ℕ} {block : ℕ} where
  -- where no word is written, all are kept
  pub kept_none : {m : ℕ} {ws : List ℕ} → Remembered s block ws → Kept s block m ws ws
  kept_none r = record { same = λ i h. refl; remembered = r }

  -- fewer words are kept too
  pub kept_fewer : {k m : ℕ} {ws us : List ℕ} → k ≤ m → Kept s block m ws us → Kept s block k ws us
  kept_fewer h k = record { same = λ i l. k.same i (omega arith); remembered = k.remembered }

  -- what is kept by two steps
  pub kept_both : {m : ℕ} {ws us vs : List ℕ} → Kept s block m ws us → Kept s block m us vs → Kept s block m ws vs
  kept_both a b = record { same = λ i h. b.same i h ∙ a.same i h; remembered = b.remembered }

  -- what was kept may be taken back, where the words before remembered the values too
  pub kept_back : {m : ℕ} {ws us : List ℕ} → Remembered s block ws → Kept s block m ws us → Kept s block m us ws
  kept_back r k = record { same = λ i h. sym (k.same i h); remembered = r }

  -- the word of an open call says nothing of the values
  pub remembered_set : {ws : List ℕ} (d w : ℕ) → d < 16 → Remembered s block ws → Remembered s block (set ws d w)
  remembered_set {ws} d w h r =
      let e : get_or (set ws d w) 16 0 ≡ get_or ws 16 0 = get_or-set_other ws d 16 w 0 (λ e. absurd (omega arith)) in
      record {
        room = subst (λ (z : ℕ). 16 ≤ z) (sym (length-set ws d w)) r.room;
        index = λ l g. rw (drop-set-lt 17 ws d w (omega arith), e) (r.index (omega (arith, length-set ws d w)) (omega arith));
      }

  -- so the words before it are kept
  pub kept_set : {ws : List ℕ} (d w : ℕ) → d < 16 → Remembered s block ws → Kept s block d ws (set ws d w)
  kept_set {ws} d w h r = record { same = λ i l. get_or-set_other ws d i w 0 (λ e. absurd (omega arith)); remembered = remembered_set d w h r }

  -- a count of the first names remembers nothing
  pub remembered_none : {ws : List ℕ} → 16 ≤ length ws → get_or ws 16 0 ≤ 4 → Remembered s block ws
  remembered_none h z = record { room = h; index = λ l g. absurd (omega arith) }

  -- nor does one that was set to zero
  pub forgotten : (ws : List ℕ) → 16 < length ws → Remembered s block (set ws 16 0)
  forgotten ws h =
      let e : get_or (set ws 16 0) 16 0 ≡ 0 = get_or-set_same ws 16 0 0 h in
      remembered_none (omega (arith, length-set ws 16 0)) (omega arith)
