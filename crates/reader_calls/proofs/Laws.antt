-- The questions of a call, one behind the other, and what follows where they are passed.
use mathlib.Core.Path.{◌≡◌, refl, sym, ◌∙◌, ap}
use mathlib.Core.Bool.{Bool, true, false}
use mathlib.Core.List.{List, ◌++◌}
use Prim.Native.Nat.{ℕ, ◌≤◌}
use native.Mathlib.Omega.{arith}
use lib.Dec.{leb}
use lib.ListN.{length, take, drop, replicate, length-replicate}
use lib.Seq.{length-take-le}
use borrow.Author.Tests.{leb-true, leb-false}
use Rattle.errors.specs.Refusal.{Refusal, Outcome, done, refused, ◌>>=◌, ask, enough, unread}
use Rattle.std.specs.Prelude.{Result, Ok, Err, IsErrAnd}
use Rattle.value.specs.declared.Value.{Value}
use Rattle.errors.specs.declared.Refusal as code
use Rattle.errors.specs.declared.Unread.{Unread}
use Rattle.errors.specs.Meaning.{number_of, refusal_of, outcome_of}
use Rattle.errors.specs.Answer.{read}
use Rattle.reader_leaf.specs.Answer.{read_of}
use Rattle.errors.proofs.Laws.{asked, bound}
use Rattle.blocks.specs.Tree.{Tree}
use Rattle.blocks.specs.Read.{small, read_input, read_layout}
use Rattle.wire.proofs.Laws.{part_cleared}
use Rattle.reader.specs.Input.{input_of}
use Rattle.reader_calls.specs.Inputs.{asks, read_call, judge, passed, behind, Least}

-- ---- an error that is passed on

module _ (u : Unread) where
  -- the same error
  pub hands : {A : Type 0} (z : Result A Unread) → IsErrAnd z (λ (e : Unread). e ≡ u) → read_of z ≡ refused (unread (number_of u.reason) u.offset)
  hands (Ok a) f = absurd f
  hands (Err e) f = rw f

  -- its refusal
  pub hands_refusal : (z : Result Value code.Refusal) → IsErrAnd z (λ (x : code.Refusal). refusal_of x ≡ unread (number_of u.reason) u.offset) →
      outcome_of z ≡ refused (unread (number_of u.reason) u.offset)
  hands_refusal (Ok a) f = absurd f
  hands_refusal (Err e) f = ap refused f

-- ---- the reading

-- a refusal of reading has no place and no value, so the reader's answer says all of it
pub input_passed : (o : Outcome Tree) {x : Outcome ℕ} (n : ℕ) → x ≡ input_of n o → passed x ≡ passed o
unfolding input_of passed
input_passed (done t) n e = rw e
input_passed (refused r) n e = rw e

-- ---- one input

-- 19 and 1, then the reading
pub one_is : (n : ℕ) (s : List ℕ) (room k : ℕ) → behind (asks n s) (read_input room k s) ≡ passed (read_call (read_input room k) n s)
unfolding asks read_call ◌>>=◌ passed
one_is n s room k = go (enough n) (small s) (read_input room k s)
  where
    go : (a b : Outcome Unit) (x : Outcome Tree) → ((a >>= (λ _. b)) >>= (λ _. passed x)) ≡ passed (a >>= (λ _. b >>= (λ _. x)))
    go (refused r) b x = refl
    go (done u) (refused r) x = refl
    go (done u) (done v) x = refl

-- by what 19 and 1 come to
pub one_asked : (n : ℕ) (s : List ℕ) (room k : ℕ) {x : Outcome Unit} → x ≡ asks n s → behind x (read_input room k s) ≡ passed (read_call (read_input room k) n s)
one_asked n s room k e = ap (λ (o : Outcome Unit). behind o (read_input room k s)) e ∙ one_is n s room k

-- an accepted reading has no count
pub read_passed : {A : Type 0} (o : Outcome A) → read (passed o) ≡ read o
unfolding read passed
read_passed (done a) = refl
read_passed (refused r) = refl

-- ---- a layout and another input

module _ (n : ℕ) (l v : List ℕ) (k : ℕ) where
  -- 1 may be asked of the other input before the layout's questions are put: it gives the same refusal
  pub both_is : (asks n v >>= (λ _. behind (passed (read_call read_layout n l)) (read_input 2 k v))) ≡ passed (judge n l v k)
  unfolding asks read_call judge small ◌>>=◌ ask passed
  both_is = go (enough n) (leb (length l) 65536) (leb (length v) 65536) (read_layout l) (read_input 2 k v)
    where
      go : (a : Outcome Unit) (b c : Bool) (x y : Outcome Tree) →
          ((a >>= (λ _. ask c (unread 1 0))) >>= (λ _. passed (a >>= (λ _. ask b (unread 1 0) >>= (λ _. x))) >>= (λ _. passed y))) ≡
          passed {A = Tree × Tree} (a >>= (λ _. ask b (unread 1 0) >>= (λ _. ask c (unread 1 0) >>= (λ _. x >>= (λ t. y >>= (λ u. done (t, u)))))))
      go (refused r) b c x y = refl
      go (done u) false true x y = refl
      go (done u) false false x y = refl
      go (done u) true false x y = refl
      go (done u) true true (refused r) y = refl
      go (done u) true true (done t) (refused r) = refl
      go (done u) true true (done t) (done w) = refl

  -- 19, or 1 of the other input
  pub other_stops : {r : Refusal} → refused r ≡ asks n v → refused r ≡ passed (judge n l v k)
  unfolding ◌>>=◌
  other_stops e = ap (λ (z : Outcome Unit). z >>= (λ _. behind (passed (read_call read_layout n l)) (read_input 2 k v))) e ∙ both_is

  -- else the layout's questions, and then the reading of the other input
  pub other_goes : {y : Outcome Unit} → done tt ≡ asks n v → y ≡ passed (read_call read_layout n l) → behind y (read_input 2 k v) ≡ passed (judge n l v k)
  unfolding ◌>>=◌
  other_goes a d =
      ap (λ (z : Outcome Unit). behind z (read_input 2 k v)) d
      ∙ ap (λ (z : Outcome Unit). z >>= (λ _. behind (passed (read_call read_layout n l)) (read_input 2 k v))) a
      ∙ both_is

-- ---- in the code's form

module _ {A : Type 0} where
  -- a refusal is the call's
  pub passed_no : (o : Outcome A) {r : Refusal} → refused r ≡ passed o → o ≡ refused r
  unfolding passed
  passed_no (done a) d = cc
  passed_no (refused x) d = cc

  -- what was passed was read
  pub passed_yes : (o : Outcome A) → done tt ≡ passed o → (x : A) × (o ≡ done x)
  unfolding passed
  passed_yes (done a) d = (a, refl)
  passed_yes (refused x) d = cc

-- one input was read, and its questions were passed
pub record Called (room k n : ℕ) (s : List ℕ) : Type 0 where
  pub tree : Tree
  pub is : read_call (read_input room k) n s ≡ done tree
  pub words : 8192 ≤ n
  pub size : length s ≤ 65536
  pub input_read : read_input room k s ≡ done tree

-- by what the code answers
pub called : {n : ℕ} {s : List ℕ} {room k : ℕ} → done tt ≡ passed (read_call (read_input room k) n s) → Called room k n s
unfolding read_call enough small
called {n} {s} {room} {k} d = let x = passed_yes (read_call (read_input room k) n s) d in go x.0 x.1
  where
    go : (t : Tree) → read_call (read_input room k) n s ≡ done t → Called room k n s
    go t f =
        let a = asked (leb 8192 n) _ _ _ f in
        let b = asked (leb (length s) 65536) _ _ _ a.1 in
        record { tree = t; is = f; words = leb-true _ _ a.0; size = leb-true _ _ b.0; input_read = b.1 }

-- a layout and another input were read, and their questions were passed
pub record Judged (n : ℕ) (s v : List ℕ) (k : ℕ) : Type 0 where
  pub layout : Tree
  pub other : Tree
  pub is : judge n s v k ≡ done (layout, other)
  pub words : 8192 ≤ n
  pub small_layout : length s ≤ 65536
  pub layout_read : read_layout s ≡ done layout
  pub other_read : read_input 2 k v ≡ done other

-- what judging says where it accepts
judged_as : (n : ℕ) (s v : List ℕ) (k : ℕ) (x : Tree × Tree) → judge n s v k ≡ done x → Judged n s v k
unfolding judge enough small
judged_as n s v k x e =
    let a = asked (leb 8192 n) _ _ _ e in
    let b = asked (leb (length s) 65536) _ _ _ a.1 in
    let c = asked (leb (length v) 65536) _ _ _ b.1 in
    last (leb-true _ _ a.0) (leb-true _ _ b.0) c.1
  where
    last : 8192 ≤ n → length s ≤ 65536 → (read_layout s >>= (λ t. read_input 2 k v >>= (λ u. done (t, u)))) ≡ done x → Judged n s v k
    last h g f =
        let l = bound (read_layout s) _ _ f in
        let t = bound (read_input 2 k v) _ _ l.2 in
        record { layout = l.0; other = t.0; is = e ∙ sym t.2; words = h; small_layout = g; layout_read = l.1; other_read = t.1 }

-- by what the code answers
pub judged : {n : ℕ} {s v : List ℕ} {k : ℕ} → done tt ≡ passed (judge n s v k) → Judged n s v k
judged {n} {s} {v} {k} d = let x = passed_yes (judge n s v k) d in judged_as n s v k x.0 x.1

-- ---- the words that a call uses: the first k of n words that are zero, and at most m

-- all of them are there
pub used_within : {n m k : ℕ} → Least n m k → k ≤ n
used_within {n} {m} {k} l = go (leb m n) refl
  where
    go : (b : Bool) → leb m n ≡ b → k ≤ n
    go true t = let h = leb-true m n t in omega (arith, h, l.enough h)
    go false t = let h = leb-false m n t in omega (arith, h, l.fewer h)

module _ (n m k : ℕ) (us : List ℕ) (e : us ≡ replicate n 0) (h : Least n m k) where
  -- there are as many
  pub part_within : k ≤ length us
  part_within = let l : length us ≡ n = ap length e ∙ length-replicate n 0 in omega (arith, used_within h)

  -- the first k are k
  pub part_length : k ≡ length (take k us)
  part_length = sym (length-take-le k us part_within)

  -- where there are as many as the call may use, it has them
  pub part_enough : m ≤ n → m ≤ length (take k us)
  part_enough g = omega (arith, h.enough g, part_length)

  -- where these are cleared, all words are zero
  pub part_clean : {zs : List ℕ} → zs ≡ replicate (length (take k us)) 0 → zs ++ drop k us ≡ replicate n 0
  part_clean c = part_cleared n k us _ e part_within c
