-- The tables at a number that is named, in a range, and at all the others. The parts of the digits, the lists of blocks with an order among
-- them, and the kinds that begin with a name.
use mathlib.Core.Path.{◌≡◌, refl, sym, ap, subst, ◌∙◌}
use mathlib.Core.Bool.{Bool, true, false, ◌&&◌, ◌||◌, cond}
use mathlib.Core.List.{List, [], ◌∷◌}
use mathlib.Core.Logic.{◌⊎◌, inl, inr}
use Prim.Native.Nat.{ℕ, zero, suc, ◌+◌, ◌-◌, ◌≤◌, ◌<◌}
use native.Mathlib.Omega.{arith}
use Rattle.std.proofs.lemmas.Grind.{common_steps}
use lib.Dec.{eqb, leb, ltb}
use lib.ListN.{get_or, replicate, drop, get_or-replicate, get_or-eq_default}
use borrow.Author.Tests.{eqb-true, le-leb, lt-leb, leb-true, leb-false, ltb-true, ne_eqb}
use Rattle.blocks.specs.declared.Part.{Part}
use Rattle.blocks.specs.declared.Part.TheVariants.{Text, Key, Ascending, Distinct}
use Rattle.blocks.specs.Grammar.{Row, grammar, find_row, parts_of}
use Rattle.blocks.proofs.Name.{and_left, and_right}
use Rattle.ir_nodes.specs.Codes.{parts, part_of, row_of}
use Rattle.ir_nodes.proofs.Table.{tabulate, entry, each, passed}

-- ---- what is computed at each of n numbers from lo on

-- none of these numbers, the last first, as a match says it
abbrev pub NoneOf : List ℕ → ℕ → Type 0
NoneOf [] k = Unit
NoneOf (j ∷ js) k = NoneOf js k × (k ≡ j → ⊥)

-- whether a number is one of these
abbrev member : ℕ → List ℕ → Bool
member k [] = false
member k (j ∷ js) = eqb k j || member k js

-- a number that is none of these is no member
apart : (js : List ℕ) (k : ℕ) → NoneOf js k → member k js ≡ false
apart [] k h = refl
apart (j ∷ js) k h = rw (ne_eqb k j h.1) (apart js k h.0)

-- at each of the n numbers from lo on that is none of these, f is a
pub elsewhere : {A : Type 0} (f : ℕ → A) (a : A) (js : List ℕ) (lo n : ℕ) {k : ℕ} →
    tabulate n (λ j. cond (member (lo + j) js) a (f (lo + j))) ≡ replicate n a → NoneOf js k → lo ≤ k → k < lo + n → f k ≡ a
elsewhere {A = A} f a js lo n {k} e h l g =
    let q : lo + (k - lo) ≡ k = omega arith in
    let i : k - lo < n = omega arith in
    let z = sym (entry n (λ j. cond (member (lo + j) js) a (f (lo + j))) (k - lo) a i) ∙ ap (λ (xs : List A). get_or xs (k - lo) a) e ∙ get_or-replicate n (k - lo) a a i in
    let y : cond (member k js) a (f k) ≡ a = rw q at z in
    rw (apart js k h) at y

-- ---- the rows

-- the row of a kind that is no node
abbrev row_at : ℕ → ℕ
row_at k = row_of (find_row k grammar)

module _ {k : ℕ} where
  -- the n kinds from lo on have the row c
  pub ranged : (c lo n : ℕ) → tabulate n (λ j. row_at (lo + j)) ≡ replicate n c → lo ≤ k → k < lo + n → c ≡ row_at k
  ranged c lo n e l h = sym (elsewhere row_at c [] lo n e tt l h)

  -- of the n kinds from lo on only these have a row
  pub missing : (js : List ℕ) (lo n : ℕ) → tabulate n (λ j. cond (member (lo + j) js) 0 (row_at (lo + j))) ≡ replicate n 0 → NoneOf js k → lo ≤ k → k < lo + n → 0 ≡ row_at k
  missing js lo n e h l g = sym (elsewhere row_at 0 js lo n e h l g)

-- behind the last row's kinds there is no row
beyond : (k n : ℕ) (rs : List Row) → n ≤ k → each (λ r. ltb r.hi n) rs ≡ true → find_row k rs ≡ []
unfolding find_row
beyond k n [] h e = refl
beyond k n (r ∷ rs) h e =
    let low = ltb-true r.hi n (and_left _ _ e) in
    rw (lt-leb k r.hi (omega arith)) (go (leb r.lo k) (beyond k n rs h (and_right (ltb r.hi n) _ e)))
  where
    go : (b : Bool) → find_row k rs ≡ [] → cond (b && false) r.parts (find_row k rs) ≡ []
    go true h = h
    go false h = h

-- 193 is the last kind
none : (k : ℕ) → 194 ≤ k → find_row k grammar ≡ []
unfolding grammar
none k h = beyond k 194 grammar h refl

-- of all kinds above 144 only these have a row
pub missing_above : (js : List ℕ) {k : ℕ} → tabulate 49 (λ j. cond (member (145 + j) js) 0 (row_at (145 + j))) ≡ replicate 49 0 → NoneOf js k → 144 < k → 0 ≡ row_at k
unfolding row_of
missing_above js {k} e h l = go (leb 194 k) refl
  where
    go : (b : Bool) → leb 194 k ≡ b → 0 ≡ row_at k
    go true t = let g : 194 ≤ k = leb-true 194 k t in rw (none k g)
    go false t = let g : k < 194 = leb-false 194 k t in missing js 145 49 e h (omega arith) (omega arith)

-- of a kind below 128 the parts are its row's
pub row_low : (k : ℕ) → k < 128 → row_at k ≡ row_of (parts_of k)
unfolding parts_of
row_low k h = rw (lt-leb 128 k h)

-- of a kind above 144 too
pub row_high : (k : ℕ) → 128 ≤ k → 144 < k → row_at k ≡ row_of (parts_of k)
unfolding parts_of
row_high k h g = rw (le-leb 128 k h, lt-leb k 144 g)

-- ---- the parts of the digits

-- a number that is no digit of another part has a text
pub text : (d : ℕ) → (1 < d → 26 < d) → Text ≡ part_of d
unfolding part_of
text zero h = refl
text (suc zero) h = refl
text (suc (suc k)) h = let l = h (omega arith) in sym (get_or-eq_default parts Text {n = suc (suc k) - 1} (omega arith))

-- whether a list with an order is one of owners, of types or of type trees
is_keyed : Part → Bool
is_keyed (Ascending lo hi limit) = eqb lo 37 && eqb hi 37
is_keyed (Distinct lo hi limit) = (eqb lo 1 && eqb hi 7) || (eqb lo 161 && eqb hi 161)
is_keyed _ = true

-- every one is
keyed : (d : ℕ) {p : Part} → part_of d ≡ p → is_keyed p ≡ true
unfolding is_keyed part_of
keyed d e = subst (λ (p : Part). is_keyed p ≡ true) e (passed is_keyed parts (d - 1) Text refl refl)

-- two tests of equality that hold
both_equal : (a b c d : ℕ) → (eqb a b && eqb c d) ≡ true → (a ≡ b) × (c ≡ d)
both_equal a b c d t = (eqb-true a b (and_left _ _ t), eqb-true c d (and_right (eqb a b) _ t))

-- one of two tests holds
either : (a b : Bool) {A B : Type 0} → (a ≡ true → A) → (b ≡ true → B) → (a || b) ≡ true → A ⊎ B
either true b f g t = inl (f refl)
either false b f g t = inr (g t)

module _ (d lo hi limit : ℕ) where
  -- a list that ascends is one of owners
  pub owners : part_of d ≡ Ascending lo hi limit → (lo ≡ 37) × (hi ≡ 37)
  unfolding is_keyed
  owners e = both_equal lo 37 hi 37 (keyed d e)

  -- a list of distinct names is one of types or of type trees
  pub types : part_of d ≡ Distinct lo hi limit → ((lo ≡ 1) × (hi ≡ 7)) ⊎ ((lo ≡ 161) × (hi ≡ 161))
  unfolding is_keyed
  types e = either (eqb lo 1 && eqb hi 7) (eqb lo 161 && eqb hi 161) (both_equal lo 1 hi 7) (both_equal lo 161 hi 161) (keyed d e)

-- ---- the kinds that begin with a name of question 6: types, type trees

-- a type begins with its name
pub type_begins : (k : ℕ) → 1 ≤ k → k ≤ 7 → parts_of k ≡ Key ∷ drop 1 (parts_of k)
unfolding parts_of find_row grammar
type_begins k lo hi = grind (arith, common_steps)

-- a type tree begins with its name
pub tree_begins : parts_of 161 ≡ Key ∷ drop 1 (parts_of 161)
unfolding parts_of find_row grammar
tree_begins = refl
