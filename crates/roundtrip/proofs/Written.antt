-- What is within the limits is read back from its writing.
use mathlib.Core.Logic.{◌↔◌}
use mathlib.Core.Path.{◌≡◌, refl, sym, ◌∙◌, ap, ap₂}
use mathlib.Core.Bool.{Bool, true, false}
use mathlib.Core.List.{List, [], ◌∷◌, ◌++◌, append_assoc, append-nil}
use Prim.Native.Nat.{ℕ, zero, suc, ◌+◌, ◌≤◌, ◌<◌}
use native.Mathlib.Omega.{arith}
use lib.ListN.{length, get_or, drop, length-append}
use lib.Dec.{eqb}
use borrow.Author.Tests.{le-leb, eq-eqb}
use Rattle.errors.specs.Refusal.{done, ◌>>=◌}
use Rattle.errors.proofs.Laws.{asked_yes, bound_done}
use Rattle.blocks.specs.declared.Part.{Part}
use Rattle.blocks.specs.Bytes.{bytes, le2, le4}
use Rattle.blocks.proofs.Bytes.{bytes_length, le_one, after, behind, back_below}
use Rattle.blocks.specs.Name.{is_text}
use Rattle.blocks.proofs.Utf8.{text_short}
use Rattle.blocks.specs.Grammar.{parts_of, within}
use Rattle.blocks.specs.Tree.{Tree, name, num, block, nil, cons, number, first, part}
use Rattle.blocks.specs.Read.{Step, Earlier, in_order, name_of, paths_of, met, in_type, Reader, read_text, read_key, read_number, read_flag, read_if, read_optional, read_literal, read_count, read_entries, read_list, read_value, read_part, read_parts, read_header, read_block, read_input}
use Rattle.blocks.specs.Write.{write}
use Rattle.roundtrip.specs.Placed.{placed}
use Rattle.roundtrip.specs.Fits.{Limits, Nothing, nothing, Both, both, TextFits, text, KeyFits, NumberFits, held, FlagFits, IfFits, there, absent, OptionalFits, LiteralFits, CountFits, EntriesFits, ListFits, ValueFits, InBlocks, PartFits, PartsFits, inside, BlockFits}
use Rattle.roundtrip.proofs.Parts.{each_part}
use Rattle.roundtrip.proofs.Bytes.{text_length, frame, text_back, block_back}
use Rattle.roundtrip.proofs.Accepted.{accepted}

-- ---- what the offsets don't change

-- a number is not changed
pub number_placed : (at : ℕ) (t : Tree) → number (placed at t) ≡ number t
unfolding placed
number_placed at (name n) = refl
number_placed at (num w v) = refl
number_placed at (block o k t) = refl
number_placed at nil = refl
number_placed at (cons a b) = refl

-- nor is the name with which a block begins
pub name_placed : (at : ℕ) (t : Tree) → name_of (placed at t) ≡ name_of t
unfolding placed name_of
name_placed at (name n) = refl
name_placed at (num w v) = refl
name_placed at (block o k t) = name_placed (at + 6) t
name_placed at nil = refl
name_placed at (cons a b) = name_placed at a

-- nor is the count with which a body begins
count_placed : (at : ℕ) (t : Tree) → number (first (placed at t)) ≡ number (first t)
unfolding placed
count_placed at (name n) = refl
count_placed at (num w v) = refl
count_placed at (block o k t) = refl
count_placed at nil = refl
count_placed at (cons a b) = number_placed at a

-- nor is the count with which its second part begins
second_placed : (at : ℕ) (t : Tree) → number (first (part 1 (placed at t))) ≡ number (first (part 1 t))
unfolding placed part
second_placed at (name n) = refl
second_placed at (num w v) = refl
second_placed at (block o k t) = refl
second_placed at nil = refl
second_placed at (cons a (name n)) = refl
second_placed at (cons a (num w v)) = refl
second_placed at (cons a (block o k t)) = refl
second_placed at (cons a nil) = refl
second_placed at (cons a (cons b c)) = count_placed (at + length (write a)) b

-- nor is the number of paths that an owner has
pub paths_placed : (at : ℕ) (t : Tree) → paths_of (placed at t) ≡ paths_of t
unfolding placed
paths_placed at (name n) = refl
paths_placed at (num w v) = refl
paths_placed at (block o k t) = rw (second_placed (at + 6) t)
paths_placed at nil = refl
paths_placed at (cons a b) = refl

-- nor is what is known of the entries before
pub met_placed : (e : Earlier) (at : ℕ) (t : Tree) → met e (placed at t) ≡ met e t
met_placed Earlier.any at t = refl
met_placed (Earlier.ascending ms p) at t = rw (name_placed at t, paths_placed at t)
met_placed (Earlier.distinct ms) at t = rw (name_placed at t)

-- ---- reading

-- f reads a tree within limits wherever its bytes stand before end
abbrev Reads : List ℕ → ℕ → (ℕ → Step) → Limits → Type 0
Reads s end f P = (t : Tree) → P t → (at : ℕ) (r : List ℕ) → drop at s ≡ write t ++ r → at + length (write t) ≤ end → f at ≡ done (placed at t, at + length (write t))

-- two answers of a reader are equal if tree and offset are
given : {a b : Tree} {m n : ℕ} → a ≡ b → m ≡ n → ◌≡◌ {A = Step} (done (a, m)) (done (b, n))
given e f = rw (e, f)

-- one part, then others
both_read : {s : List ℕ} {end : ℕ} {P : Limits} {Q : Tree → Limits} (f : ℕ → Step) (g : (Tree × ℕ) → Step) → Reads s end f P →
    ((a : Tree) (at : ℕ) → Reads s end (λ n. g (placed at a, n)) (Q a)) → Reads s end (λ at. f at >>= (λ x. g x >>= (λ y. done (cons x.0 y.0, y.1)))) (Both P Q)
unfolding write placed
both_read {s} {end} f g hf hg t (both {a} {b} p q) at r h e =
    let l : length (write a ++ write b) ≡ length (write a) + length (write b) = length-append (write a) (write b) in
    let h1 : drop at s ≡ write a ++ (write b ++ r) = h ∙ append_assoc (write a) (write b) r in
    let h2 = after s (write a) (write b ++ r) at h1 in
    bound_done _ (hf a p at (write b ++ r) h1 (omega arith)) ∙ bound_done _ (hg a at b q (at + length (write a)) r h2 (omega arith)) ∙ given refl (omega arith)

-- no part: nothing is read
none_read : (s : List ℕ) (end : ℕ) → Reads s end (λ at. done (nil, at)) Nothing
unfolding write placed
none_read s end t nothing at r h e = given refl (omega arith)

module _ (s : List ℕ) (end : ℕ) where
  -- each reader reads what is within its limits: that of a text
  text_read : (start : ℕ) → Reads s end (read_text s start end) TextFits
  unfolding read_text write placed
  text_read start t (text {n} q) at r h e =
      let l : length (bytes 2 (length n) ++ n) ≡ 2 + length n = text_length n in
      let b = text_back s at n r (omega (arith, text_short n q)) h in
      asked_yes _ _ (le-leb (at + 2) end (omega arith)) ∙ asked_yes _ _ (le-leb (at + 2 + le2 s at) end (omega (arith, b.0))) ∙ asked_yes _ _ (ap is_text b.1 ∙ q)
      ∙ given (ap name b.1) (omega (arith, b.0))

  -- of a name in its order
  key_read : (start : ℕ) (e : Earlier) → Reads s end (read_key s start end e) (KeyFits e)
  unfolding read_key
  key_read start e t p at r h l = bound_done _ (text_read start t p.0 at r h l) ∙ asked_yes _ _ (ap (in_order e) (name_placed at t) ∙ p.1)

  -- of a number of eight bytes
  number_read : (start : ℕ) → Reads s end (read_number s start end) (NumberFits 8)
  unfolding read_number write placed
  number_read start t (held {v} f) at r h e =
      asked_yes _ _ (le-leb (at + 8) end (omega (arith, bytes_length 8 v))) ∙ given (ap (num 8) (back_below s 8 at v r f h)) (ap (λ (n : ℕ). at + n) (sym (bytes_length 8 v)))

  -- of a flag
  flag_read : (start : ℕ) → Reads s end (read_flag s start end) FlagFits
  unfolding read_flag write placed
  flag_read start t (held {v} f, q) at r h e =
      let k : get_or s at 0 ≡ v = sym (le_one s at) ∙ back_below s 1 at v r f h in
      asked_yes _ _ (le-leb (at + 1) end (omega (arith, bytes_length 1 v))) ∙ asked_yes _ _ (le-leb (get_or s at 0) 1 (omega arith)) ∙ given (ap (num 1) k) (ap (λ (n : ℕ). at + n) (sym (bytes_length 1 v)))

  -- of what a flag announces
  if_read : {f : ℕ → Step} {P : Limits} → Reads s end f P → (b : Bool) → Reads s end (read_if b f) (IfFits P b)
  unfolding read_if write placed
  if_read hf true t (there p) at r h e = hf t p at r h e
  if_read hf false t absent at r h e = given refl (omega arith)

  -- of a flag and what it announces
  optional_read : {f : ℕ → Step} {P : Limits} → Reads s end f P → (on start : ℕ) → Reads s end (read_optional f on s start end) (OptionalFits P on)
  unfolding read_optional
  optional_read {f} hf on start =
      both_read (read_flag s start end) (λ x. read_if (eqb (number x.0) on) f x.1) (flag_read start)
      (λ a at. rw (number_placed at a) (if_read hf (eqb (number a) on)))

  -- of a literal
  literal_read : (start : ℕ) → Reads s end (read_literal s start end) LiteralFits
  unfolding read_literal write placed
  literal_read start t (both (held {v} f, q) (held {v = u} g, i)) at r h e =
      let l : length (bytes 1 v ++ bytes 8 u) ≡ 9 = length-append (bytes 1 v) (bytes 8 u) ∙ ap₂ ◌+◌ (bytes_length 1 v) (bytes_length 8 u) in
      let h1 : drop at s ≡ bytes 1 v ++ (bytes 8 u ++ r) = h ∙ append_assoc (bytes 1 v) (bytes 8 u) r in
      let h2 : drop (at + 1) s ≡ bytes 8 u ++ r = behind s 1 v (bytes 8 u ++ r) at h1 in
      let c : get_or s at 0 ≡ v = sym (le_one s at) ∙ back_below s 1 at v (bytes 8 u ++ r) f h1 in
      let n = number_read start (num 8 u) (held g) (at + 1) r h2 (omega (arith, bytes_length 8 u)) in
      asked_yes _ _ (le-leb (at + 1) end (omega arith)) ∙ asked_yes _ _ (le-leb (get_or s at 0) 7 (omega arith)) ∙ bound_done _ n
      ∙ asked_yes _ _ (ap (λ (d : ℕ). in_type d u) c ∙ i) ∙ given (ap (λ (d : ℕ). cons (num 1 d) (num 8 u)) c) (omega (arith, bytes_length 8 u))

  -- of a list's count
  count_read : (limit start : ℕ) → Reads s end (read_count limit s start end) (CountFits limit)
  unfolding read_count write placed
  count_read limit start t (held {v} f, q) at r h e =
      let k : le2 s at ≡ v = back_below s 2 at v r f h in
      asked_yes _ _ (le-leb (at + 2) end (omega (arith, bytes_length 2 v))) ∙ asked_yes _ _ (le-leb (le2 s at) limit (omega arith)) ∙ given (ap (num 2) k) (ap (λ (n : ℕ). at + n) (sym (bytes_length 2 v)))

  -- of n entries
  entries_read : {f : Earlier → ℕ → Step} {P : Earlier → Limits} → ((e : Earlier) → Reads s end (f e) (P e)) → (n : ℕ) (e : Earlier) → Reads s end (read_entries f e n) (EntriesFits P e n)
  unfolding read_entries EntriesFits
  entries_read hf zero e = none_read s end
  entries_read {f} hf (suc n) e =
      both_read (f e) (λ x. read_entries f (met e x.0) n x.1) (hf e)
      (λ a at. rw (met_placed e at a) (entries_read hf n (met e a)))

  -- of a list
  list_read : {f : Earlier → ℕ → Step} {P : Earlier → Limits} → ((e : Earlier) → Reads s end (f e) (P e)) → (o : Earlier) (limit start : ℕ)
      → Reads s end (read_list f o limit s start end) (ListFits P o limit)
  unfolding read_list
  list_read {f} hf o limit start =
      both_read (read_count limit s start end) (λ n. read_entries f o (number n.0) n.1) (count_read limit start)
      (λ n at. rw (number_placed at n) (entries_read hf (number n) o))

  -- of a value: a name and a number
  value_read : (start : ℕ) (e : Earlier) → Reads s end (read_value s start end e) (ValueFits e)
  unfolding read_value
  value_read start e = both_read (read_key s start end e) (λ x. read_number s start end x.1) (key_read start e) (λ a at. number_read start)

  -- rb reads blocks
  module _ (rb : Reader) {B : InBlocks} (m : (e : Earlier) (lo hi : ℕ) → Reads s end (λ at. rb e lo hi at end) (B e lo hi)) where
    -- of any part of the grammar
    part_read : (p : Part) (e : Earlier) (start : ℕ) → Reads s end (read_part rb s e start end p) (PartFits B e p)
    part_read p e start = each_part {R = Reads s end} (record {
      text = text_read start;
      key = key_read start;
      number = number_read start;
      flag = flag_read start;
      literal = literal_read start;
      value = value_read start;
      optional = λ m on. optional_read m on start;
      list = λ m o limit. list_read m o limit start;
    }) rb m p e

    -- of all parts of a body
    parts_read : (ps : List Part) (e : Earlier) (start : ℕ) → Reads s end (read_parts rb s e start end ps) (PartsFits B e ps)
    unfolding read_parts PartsFits
    parts_read [] e start = none_read s end
    parts_read (p ∷ ps) e start = both_read (read_part rb s e start end p) (λ x. read_parts rb s e start end ps x.1) (part_read p e start) (λ a at. parts_read ps e start)

-- a reader of blocks that reads those within limits
abbrev AllRead : List ℕ → Reader → InBlocks → Type 0
AllRead s rb B = (end : ℕ) (e : Earlier) (lo hi : ℕ) → Reads s end (λ at. rb e lo hi at end) (B e lo hi)

module _ (s : List ℕ) where
  -- a header whose numbers are these, of a kind that may stand there, is read
  header_read : (lo hi at end k n : ℕ) → le4 s at ≡ n → le2 s (at + 4) ≡ k → 2 ≤ n → at + 4 + n ≤ end → within lo hi k ≡ true → read_header s lo hi at end ≡ done (k, at + 4 + n)
  unfolding read_header
  header_read lo hi at end k n en ek h2 h4 w =
      asked_yes _ _ (le-leb (at + 6) end (omega arith)) ∙ asked_yes _ _ (le-leb 2 (le4 s at) (omega arith)) ∙ asked_yes _ _ (le-leb (at + 4 + le4 s at) end (omega arith))
      ∙ asked_yes _ _ (ap (within lo hi) ek ∙ w) ∙ ap₂ (λ (i j : ℕ). done (i, at + 4 + j)) ek en

  -- the reader of blocks reads a block within the limits, with any number of blocks open
  pub block_read : (room : ℕ) → AllRead s (read_block room s) (BlockFits room)
  unfolding read_block BlockFits write placed
  block_read zero end e lo hi t p at r h l = absurd p
  block_read (suc room) end e lo hi t (inside {k} {t = b} w hk hl p) at r h l =
      let n : ℕ = 2 + length (write b) in
      let f : length (bytes 4 n ++ (bytes 2 k ++ write b)) ≡ 6 + length (write b) = frame n k (write b) in
      let c = block_back s at n k (write b) r hl hk h in
      let d = header_read lo hi at end k n c.0 c.1 (omega arith) (omega arith) w in
      let g = parts_read s (at + 4 + n) (read_block room s) (block_read room (at + 4 + n)) (parts_of k) e at b p (at + 6) r c.2 (omega arith) in
      bound_done _ d ∙ bound_done _ g ∙ asked_yes _ _ (eq-eqb (at + 6 + length (write b)) (at + 4 + n) (omega arith)) ∙ given refl (omega arith)

-- What is within the limits is read back from its writing, its blocks with the offsets that they have there. With
-- `accepted`: the accepted inputs are the writings of the trees within the limits.
pub written : (room k : ℕ) (t : Tree) → BlockFits room Earlier.any k k t → read_input room k (write t) ≡ done (placed 0 t)
unfolding read_input
written room k t p =
    let l : 0 + length (write t) ≡ length (write t) = omega arith in
    bound_done _ (block_read (write t) room (length (write t)) Earlier.any k k t p 0 [] (sym (append-nil (write t))) (omega arith)) ∙ asked_yes _ _ (eq-eqb _ _ l)

-- Reading gives a tree exactly where the input is its writing, it is within the limits, and its blocks have their offsets.
pub exactly : (room k : ℕ) (s : List ℕ) → ((i : ℕ) → get_or s i 0 < 256) → (t : Tree) → (read_input room k s ≡ done t) ↔ ((write t ≡ s) × BlockFits room Earlier.any k k t × (placed 0 t ≡ t))
exactly room k s small t = (accepted room k s small t, λ h. ap (read_input room k) (sym h.0) ∙ written room k t h.1 ∙ ap done h.2)
