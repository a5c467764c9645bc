-- `::` in a name, and its segments.
use mathlib.Core.Path.{◌≡◌, refl, sym, ◌∙◌, ap}
use mathlib.Core.Bool.{Bool, true, false, cond, ◌&&◌}
use mathlib.Core.List.{List, [], ◌∷◌, ◌++◌}
use mathlib.Core.Option.{some, none}
use mathlib.Core.Option as math
use Prim.Native.Nat.{ℕ, ◌+◌, ◌-◌, ◌≤◌, ◌<◌}
use native.Mathlib.Omega.{arith}
use denote.Ref.{Bor}
use lib.Dec.{eqb}
use lib.ListN.{length, take, drop, get_or, length-append}
use lib.Seq.{take_at}
use borrow.Author.Tests.{eqb-true}
use Rattle.std.specs.Prelude.{Option, Some, None, MatchOption}
use Rattle.std.specs.List.{slice_split, onto_first}
use Rattle.std.proofs.lemmas.List.{at_drop_more, at_drop_all}
use Rattle.blocks.specs.Bytes.{bytes}
use Rattle.blocks.specs.Name.{Name, ascii, same}
use Rattle.blocks.specs.Tree.{name}
use Rattle.blocks.specs.Write.{write}
use Rattle.wire.specs.Poke.{poke, Wrote}
use Rattle.wire.proofs.Laws.{both, poke_whole, bytes_length}
use Rattle.builder.specs.Names.{replace_colons, split, onto, before, before_element}

-- ---- a buffer

-- what was written at a buffer's start stands there, if it fits
pub stands : {xs bs ys : List ℕ} {r : ℕ} → Wrote xs 0 bs ys r → length bs ≤ length xs → take r ys ≡ bs
stands {xs} {bs} {r} w h = rw (w.left, poke_whole xs bs h) (take_at bs (drop (length bs) xs) r (omega (arith, w.end)))

-- a name stands behind its length
pub name_stands : {xs ys : List ℕ} {r : ℕ} (n : Name) → Wrote xs 0 (write (name n)) ys r → r ≤ length xs → (take (r - 2) (drop 2 ys) ≡ n) × (r ≡ 2 + length n)
unfolding write
name_stands {xs} {ys} {r} n w h =
    let l : length (bytes 2 (length n) ++ n) ≡ 2 + length n = length-append (bytes 2 (length n)) n ∙ rw (bytes_length 2 (length n)) refl in
    let e : r ≡ 2 + length n = omega (arith, w.end) in
    let y : ys ≡ (bytes 2 (length n) ++ n) ++ drop (length (bytes 2 (length n) ++ n)) xs = w.left ∙ poke_whole xs (bytes 2 (length n) ++ n) (omega arith) in
    (rw y (behind_two (bytes 2 (length n)) n (drop (length (bytes 2 (length n) ++ n)) xs) (r - 2) (bytes_length 2 (length n)) (omega arith)), e)
  where
    behind_two : (b n d : List ℕ) (k : ℕ) → length b ≡ 2 → k ≡ length n → take k (drop 2 ((b ++ n) ++ d)) ≡ n
    behind_two (x ∷ (y ∷ [])) n d k e f = rw f (take_at n d (length n) refl)
    behind_two [] n d k e f = absurd (omega arith)
    behind_two (x ∷ []) n d k e f = absurd (omega arith)
    behind_two (x ∷ (y ∷ (z ∷ b))) n d k e f = absurd (omega arith)

-- ---- `::`

-- `::` is replaced
replace_pair : (n : Name) → replace_colons (ascii "::" ++ n) ≡ 0x2E ∷ replace_colons n
unfolding replace_colons
replace_pair n = refl

-- any other byte stays
replace_one : (x : ℕ) (n : Name) → ((u : Name) → x ∷ n ≡ ascii "::" ++ u → ⊥) → replace_colons (x ∷ n) ≡ x ∷ replace_colons n
unfolding replace_colons
replace_one x [] h = refl
replace_one x (y ∷ n) h = go (eqb x 0x3A) refl (eqb y 0x3A) refl
  where
    go : (a : Bool) → eqb x 0x3A ≡ a → (b : Bool) → eqb y 0x3A ≡ b →
        cond (a && b) (0x2E ∷ replace_colons n) (x ∷ replace_colons (y ∷ n)) ≡ x ∷ replace_colons (y ∷ n)
    go true e true f = absurd (h n (rw (eqb-true x 0x3A e, eqb-true y 0x3A f)))
    go true e false f = refl
    go false e b f = refl

module _ {xs ys zs : List ℕ} {p q r : ℕ} (m b : Name) where
  -- a dot is written, and the rest behind the `::`
  pub pair_more : m ≡ ascii "::" ++ b → Wrote xs p (0x2E ∷ []) ys q → Wrote ys q (replace_colons b) zs r →
      Wrote xs p (replace_colons m) zs r
  pair_more e f g = rw (e, replace_pair b) (both f g)

  -- the byte is written, and the rest behind it
  pub one_more : (x : ℕ) → m ≡ x ∷ b → ((u : Name) → m ≡ ascii "::" ++ u → ⊥) → Wrote xs p (x ∷ []) ys q →
      Wrote ys q (replace_colons b) zs r →
      Wrote xs p (replace_colons m) zs r
  one_more x e h f g = rw (e, replace_one x b (rw e at h)) (both f g)

-- nothing is left to write
pub no_more_bytes : (xs : List ℕ) (p : ℕ) (m : Name) → length m ≡ 0 → Wrote xs p (replace_colons m) xs p
unfolding replace_colons poke
no_more_bytes xs p [] h = record { end = omega arith; left = refl }
no_more_bytes xs p (x ∷ m) h = absurd (omega arith)

-- ---- segments

-- a byte is put in front of the first part
onto_is : (x : ℕ) (ss : List Name) → onto_first x ss ≡ onto x ss
onto_is x [] = refl
onto_is x (s ∷ ss) = refl

-- the library's parts between dots are the segments
pub split_is : (n : Name) → slice_split (λ x. eqb x 0x2E) n ≡ split n
unfolding split
split_is [] = refl
split_is (x ∷ n) = rw (split_is n, onto_is x (split n))

-- what the definition answers of the segments that are left, where this one stands before them
unfoldable pub left_of : Option (Bor Name) → List Name → math.Option Name
left_of None ss = before_element ss
left_of (Some b) ss = before b.now ss

-- before the first segment
pub left_first : (n : Name) → left_of None (split n) ≡ before_element (split n)
unfolding left_of
left_first n = refl

-- the next one is `element`: the one before it is the answer
left_met : (b : Option (Bor Name)) (s : Name) (ss : List Name) → same s (ascii "element") ≡ true →
    MatchOption b (left_of b (s ∷ ss) ≡ none) (λ r. left_of b (s ∷ ss) ≡ some r.now)
unfolding left_of before before_element
left_met None s ss e = ap (λ (c : Bool). elim c [ true ↦ none | false ↦ before s ss ]) e
left_met (Some b) s ss e = ap (λ (c : Bool). elim c [ true ↦ some b.now | false ↦ before s ss ]) e

-- it is another: that one is before the others
left_next : (b : Option (Bor Name)) (x : Bor Name) (ss : List Name) → same x.now (ascii "element") ≡ false →
    left_of b (x.now ∷ ss) ≡ left_of (Some x) ss
unfolding left_of before before_element
left_next None x ss e = ap (λ (c : Bool). elim c [ true ↦ none | false ↦ before x.now ss ]) e
left_next (Some b) x ss e = ap (λ (c : Bool). elim c [ true ↦ some b.now | false ↦ before x.now ss ]) e

-- none is left: there is no answer
left_none : (b : Option (Bor Name)) → left_of b [] ≡ none
unfolding left_of before before_element
left_none None = refl
left_none (Some b) = refl

-- k segments were passed, the last of which is b, if there is one; ss are those that the library gives
module _ (n : Name) {ss : List Name} (e : ss ≡ split n) (b : Option (Bor Name)) (k : ℕ)
    (g : left_of b (drop k (split n)) ≡ before_element (split n)) where
  module _ (x : Bor Name) (h : (k < length ss) × (x.now ≡ get_or ss k x.now)) where
    -- x is the next of them
    here : left_of b (drop k (split n)) ≡ left_of b (x.now ∷ drop (k + 1) (split n))
    here =
        let f : (k < length (split n)) × (x.now ≡ get_or (split n) k x.now) = rw e at h in
        at_drop_more (left_of b) (split n) k x.now f.0 ∙ ap (λ (s : Name). left_of b (s ∷ drop (k + 1) (split n))) (sym f.1)

    -- it is `element`
    pub element_met : same x.now (ascii "element") ≡ true →
        MatchOption b (before_element (split n) ≡ none) (λ r. before_element (split n) ≡ some r.now)
    element_met t = rw (sym g ∙ here) (left_met b x.now (drop (k + 1) (split n)) t)

    -- it is not
    pub goes_on : same x.now (ascii "element") ≡ false → left_of (Some x) (drop (k + 1) (split n)) ≡ before_element (split n)
    goes_on t = sym (left_next b x (drop (k + 1) (split n)) t) ∙ sym here ∙ g

  -- all were passed
  pub no_element : k ≡ length ss → before_element (split n) ≡ none
  no_element h = sym g ∙ at_drop_all (left_of b) (split n) k (omega (arith, h, ap length e)) ∙ left_none b
