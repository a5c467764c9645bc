-- What an answer of each reader says: where the part ends, that it ends inside, what it holds.
use mathlib.Core.Path.{◌≡◌, refl, sym, ◌∙◌, ap, subst}
use mathlib.Core.Bool.{Bool, true, false}
use mathlib.Core.List.{List}
use Prim.Native.Nat.{ℕ, ◌+◌, ◌≤◌}
use lib.ListN.{get_or}
use lib.Dec.{leb, eqb}
use borrow.Author.Tests.{leb-true, eqb-true, eq-eqb}
use Rattle.errors.specs.Refusal.{done, ◌>>=◌}
use Rattle.errors.proofs.Laws.{done_one, asked, bound}
use Rattle.blocks.specs.Bytes.{le2, le8}
use Rattle.blocks.specs.Name.{is_text}
use Rattle.blocks.specs.Tree.{Tree, name, num, nil, cons, number}
use Rattle.blocks.specs.Read.{Step, Earlier, in_order, name_of, in_type, read_text, read_key, read_number, read_flag, read_if, read_optional, read_literal, read_count, read_entries, read_list, read_value}
use Rattle.blocks.proofs.Name.{false_true}
use Rattle.accepted.specs.Accepted.{name_at}

-- ---- one thing read behind another

-- one part, then others
pub record Both (o : Step) (g : (Tree × ℕ) → Step) (z : Tree × ℕ) : Type 0 where
  pub one : Tree × ℕ
  pub more : Tree × ℕ
  pub one_read : o ≡ done one
  pub more_read : g one ≡ done more
  pub is : z ≡ (cons one.0 more.0, more.1)

-- a chain of two readers that gave a value: both gave theirs
pub both : {z : Tree × ℕ} (o : Step) (g : (Tree × ℕ) → Step) → (o >>= (λ x. g x >>= (λ y. done (cons x.0 y.0, y.1)))) ≡ done z → Both o g z
both o g e =
    let a = bound o _ _ e in
    let b = bound (g a.0) _ _ a.2 in
    record { one = a.0; more = b.0; one_read = a.1; more_read = b.1; is = sym (done_one b.2) }

-- ---- what is read: s the input, start and end the block's

module _ (s : List ℕ) (start end at : ℕ) where
  -- a text that was read: where it ends, and what it is
  pub text_read : {x : Tree × ℕ} → read_text s start end at ≡ done x → (at + 2 + le2 s at ≤ end) × (is_text (name_at s at) ≡ true) × (x ≡ (name (name_at s at), at + 2 + le2 s at))
  unfolding read_text
  text_read e =
      let q1 = asked (leb (at + 2) end) _ _ _ e in
      let q2 = asked (leb (at + 2 + le2 s at) end) _ _ _ q1.1 in
      let q3 = asked (is_text (name_at s at)) _ _ _ q2.1 in
      (leb-true _ _ q2.0, q3.0, sym (done_one q3.1))

  -- a name that was read: the same, and that it is in its order
  pub key_read : (f : Earlier) {x : Tree × ℕ} → read_key s start end f at ≡ done x →
      (at + 2 + le2 s at ≤ end) × (is_text (name_at s at) ≡ true) × (in_order f (name_at s at) ≡ true) × (x ≡ (name (name_at s at), at + 2 + le2 s at))
  unfolding read_key name_of
  key_read f e =
      let b = bound (read_text s start end at) _ _ e in
      let t = text_read b.1 in
      let q = asked (in_order f (name_of b.0.0)) _ _ _ b.2 in
      (t.0, t.1, ap (λ (z : Tree × ℕ). in_order f (name_of z.0)) (sym t.2) ∙ q.0, sym (done_one q.1) ∙ t.2)

  -- a number that was read
  pub number_read : {x : Tree × ℕ} → read_number s start end at ≡ done x → (at + 8 ≤ end) × (x ≡ (num 8 (le8 s at), at + 8))
  unfolding read_number
  number_read e = let q = asked (leb (at + 8) end) _ _ _ e in (leb-true _ _ q.0, sym (done_one q.1))

  -- a flag that was read
  pub flag_read : {x : Tree × ℕ} → read_flag s start end at ≡ done x → (at + 1 ≤ end) × (get_or s at 0 ≤ 1) × (x ≡ (num 1 (get_or s at 0), at + 1))
  unfolding read_flag
  flag_read e =
      let q1 = asked (leb (at + 1) end) _ _ _ e in
      let q2 = asked (leb (get_or s at 0) 1) _ _ _ q1.1 in
      (leb-true _ _ q1.0, leb-true _ _ q2.0, sym (done_one q2.1))

module _ (s : List ℕ) (start end at : ℕ) where
  -- a literal that was read: its code, and its number inside the code's type
  pub literal_read : {x : Tree × ℕ} → read_literal s start end at ≡ done x →
      (at + 1 + 8 ≤ end) × (get_or s at 0 ≤ 7) × (in_type (get_or s at 0) (le8 s (at + 1)) ≡ true) × (x ≡ (cons (num 1 (get_or s at 0)) (num 8 (le8 s (at + 1))), at + 1 + 8))
  unfolding read_literal
  literal_read e =
      let c : ℕ = get_or s at 0 in
      let q1 = asked (leb (at + 1) end) _ _ _ e in
      let q2 = asked (leb c 7) _ _ _ q1.1 in
      let b = bound (read_number s start end (at + 1)) _ _ q2.1 in
      let q3 = asked (in_type c (number b.0.0)) _ _ _ b.2 in
      let n = number_read s start end (at + 1) b.1 in
      (n.0, leb-true _ _ q2.0, ap (λ (z : Tree × ℕ). in_type c (number z.0)) (sym n.1) ∙ q3.0, sym (done_one q3.1) ∙ ap (λ (z : Tree × ℕ). (cons (num 1 c) z.0, z.1)) n.1)

  -- a count that was read: it is within its limit
  pub count_read : (limit : ℕ) {x : Tree × ℕ} → read_count limit s start end at ≡ done x → (at + 2 ≤ end) × (le2 s at ≤ limit) × (x ≡ (num 2 (le2 s at), at + 2))
  unfolding read_count
  count_read limit e =
      let q1 = asked (leb (at + 2) end) _ _ _ e in
      let q2 = asked (leb (le2 s at) limit) _ _ _ q1.1 in
      (leb-true _ _ q1.0, leb-true _ _ q2.0, sym (done_one q2.1))

-- a name and a number
pub value_read : (s : List ℕ) (start end at : ℕ) (f : Earlier) {x : Tree × ℕ} → read_value s start end f at ≡ done x →
    (at + 2 + le2 s at + 8 ≤ end) × (is_text (name_at s at) ≡ true) × (in_order f (name_at s at) ≡ true) × (x ≡ (cons (name (name_at s at)) (num 8 (le8 s (at + 2 + le2 s at))), at + 2 + le2 s at + 8))
unfolding read_value
value_read s start end at f e =
    let b = both (read_key s start end f at) (λ x. read_number s start end x.1) e in
    let k = key_read s start end at f b.one_read in
    let d : read_number s start end (at + 2 + le2 s at) ≡ done b.more = subst (λ (z : Tree × ℕ). read_number s start end z.1 ≡ done b.more) k.3 b.more_read in
    let n = number_read s start end (at + 2 + le2 s at) d in
    (n.0, k.1, k.2, b.is ∙ ap (λ (z : Tree × ℕ). (cons z.0 b.more.0, b.more.1)) k.3 ∙ ap (λ (z : Tree × ℕ). (cons (name (name_at s at)) z.0, z.1)) n.1)

-- a flag, and what it announces
pub record Flagged (f : ℕ → Step) (on : ℕ) (s : List ℕ) (end at : ℕ) (x : Tree × ℕ) : Type 0 where
  pub inside : at + 1 ≤ end
  pub small : get_or s at 0 ≤ 1
  pub there : get_or s at 0 ≡ on → (y : Tree × ℕ) × (f (at + 1) ≡ done y) × (x ≡ (cons (num 1 (get_or s at 0)) y.0, y.1))
  pub absent : (get_or s at 0 ≡ on → ⊥) → x ≡ (cons (num 1 (get_or s at 0)) nil, at + 1)

-- what stands behind a flag was read where the flag says so, and nothing was where it does not
if_read : (f : ℕ → Step) (on v at : ℕ) (b : Bool) (y x : Tree × ℕ) → eqb v on ≡ b → read_if b f at ≡ done y → x ≡ (cons (num 1 v) y.0, y.1) →
    (v ≡ on → (y : Tree × ℕ) × (f at ≡ done y) × (x ≡ (cons (num 1 v) y.0, y.1))) × ((v ≡ on → ⊥) → x ≡ (cons (num 1 v) nil, at))
unfolding read_if
if_read f on v at true y x h e i = (λ _. (y, e, i), λ n. absurd (n (eqb-true v on h)))
if_read f on v at false y x h e i = (λ o. false_true (sym h ∙ eq-eqb v on o), λ _. i ∙ ap (λ (z : Tree × ℕ). (cons (num 1 v) z.0, z.1)) (sym (done_one e)))

-- a flag that was read, and what it announces
pub optional_read : (f : ℕ → Step) (on : ℕ) (s : List ℕ) (start end at : ℕ) {x : Tree × ℕ} → read_optional f on s start end at ≡ done x → Flagged f on s end at x
unfolding read_optional
optional_read f on s start end at {x} e =
    let b = both (read_flag s start end at) (λ x. read_if (eqb (number x.0) on) f x.1) e in
    go b.one b.more (flag_read s start end at b.one_read) b.more_read b.is
  where
    go : (o y : Tree × ℕ) → (at + 1 ≤ end) × (get_or s at 0 ≤ 1) × (o ≡ (num 1 (get_or s at 0), at + 1))
        → read_if (eqb (number o.0) on) f o.1 ≡ done y → x ≡ (cons o.0 y.0, y.1) → Flagged f on s end at x
    go o y h d i =
        let d' : read_if (eqb (get_or s at 0) on) f (at + 1) ≡ done y = subst (λ (z : Tree × ℕ). read_if (eqb (number z.0) on) f z.1 ≡ done y) h.2 d in
        let r = if_read f on (get_or s at 0) (at + 1) (eqb (get_or s at 0) on) y x refl d' (i ∙ ap (λ (z : Tree × ℕ). (cons z.0 y.0, y.1)) h.2) in
        record { inside = h.0; small = h.1; there = r.0; absent = r.1 }

-- a count, and the entries of a list
pub record Entered (f : Earlier → ℕ → Step) (e : Earlier) (limit : ℕ) (s : List ℕ) (end at : ℕ) (x : Tree × ℕ) : Type 0 where
  pub inside : at + 2 ≤ end
  pub few : le2 s at ≤ limit
  pub list : Tree × ℕ
  pub list_read : read_entries f e (le2 s at) (at + 2) ≡ done list
  pub is : x ≡ (cons (num 2 (le2 s at)) list.0, list.1)

-- a list that was read: its count and its entries
pub list_read : (f : Earlier → ℕ → Step) (o : Earlier) (limit : ℕ) (s : List ℕ) (start end at : ℕ) {x : Tree × ℕ} → read_list f o limit s start end at ≡ done x → Entered f o limit s end at x
unfolding read_list
list_read f o limit s start end at e =
    let b = both (read_count limit s start end at) (λ n. read_entries f o (number n.0) n.1) e in
    let c = count_read s start end at limit b.one_read in
    record {
      inside = c.0;
      few = c.1;
      list = b.more;
      list_read = subst (λ (z : Tree × ℕ). read_entries f o (number z.0) z.1 ≡ done b.more) c.2 b.more_read;
      is = b.is ∙ ap (λ (z : Tree × ℕ). (cons z.0 b.more.0, b.more.1)) c.2;
    }
