-- Where the writing of a tree of texts is read, 3 is no answer, whatever else is asked. One law for each reader of a part.
use Prim.Native.Nat.{ℕ, zero, suc, ◌+◌, ◌-◌, ◌%◌, ◌≤◌}
use native.Mathlib.Nat.{mod-eq_of_lt}
use native.Mathlib.Omega.{arith}
use mathlib.Core.Path.{◌≡◌, refl, sym, ◌∙◌, ap, subst}
use mathlib.Core.Bool.{Bool, true, false, cond}
use mathlib.Core.List.{List, [], ◌∷◌, ◌++◌, append_assoc, append-nil}
use lib.Dec.{eqb}
use lib.ListN.{length, drop, length-append}
use Rattle.errors.specs.Refusal.{Refusal, Outcome, done, refused, ◌>>=◌, ask, unread}
use Rattle.errors.proofs.Laws.{not_done, asked_yes, done_one}
use Rattle.blocks.specs.declared.Part.{Part}
use Rattle.blocks.specs.declared.Part.TheVariants.{Text, Key, Number, Flag, Size, OptNumber, OptText, Literal, Block, OptBlock, Blocks, Ascending, Distinct, Names, Paths, Values}
use Rattle.blocks.specs.Bytes.{bytes}
use Rattle.blocks.proofs.Bytes.{after}
use Rattle.blocks.specs.Name.{is_text}
use Rattle.blocks.proofs.Name.{false_true}
use Rattle.blocks.specs.Grammar.{parts_of}
use Rattle.blocks.specs.Tree.{Tree, num, cons, number}
use Rattle.blocks.specs.Read.{Step, Earlier, paths_before, met, Reader, read_text, read_key, read_number, read_flag, read_if, read_optional, read_literal, read_count}
use Rattle.blocks.specs.Read.{read_entries, read_list, read_value, read_part, read_parts, read_header, read_block, read_input}
use Rattle.blocks.specs.Write.{write}
use Rattle.roundtrip.specs.Placed.{placed}
use Rattle.roundtrip.specs.Shape.{Form, form_of, forms_of, times, Shaped, BlockShaped, cut}
use Rattle.roundtrip.proofs.Bytes.{frame, text_length, text_back, block_back}
use Rattle.roundtrip.proofs.Accepted.{header_got}
use Rattle.roundtrip.proofs.Unique.{put, Finds, FindsAll, text_wide, block_wide, value_wide, enough, key_finds, flag_finds, count_finds, value_finds, part_finds, block_finds}
use Rattle.builder_texts.specs.Texts.{Texts}

-- ---- outcomes

-- a value, or a refusal by another question than 3
pub data Passing {A : Type 0} : Outcome A → Type 0 where
  given : (a : A) → Passing (done a)
  other : {r : Refusal} → eqb r.number 3 ≡ false → Passing (refused r)

-- so it is no refusal by 3
pub never_3 : {A : Type 0} {o : Outcome A} → Passing o → (r : Refusal) → o ≡ refused r → r.number ≡ 3 → ⊥
never_3 (Passing.given a) r e q = not_done (sym e)
never_3 (Passing.other {r = i} f) r e q =
    let d : i.number ≡ r.number = cc in
    let g : eqb 3 3 ≡ false = subst (λ (n : ℕ). eqb n 3 ≡ false) (d ∙ q) f in
    false_true (sym g)

-- a question other than 3
asks : (b : Bool) (q at : ℕ) → eqb q 3 ≡ false → Passing (ask b (unread q at))
unfolding ask
asks true q at e = Passing.given tt
asks false q at e = Passing.other e

-- one step, then another
next : {A B : Type 0} {o : Outcome A} {k : A → Outcome B} → Passing o → ((a : A) → o ≡ done a → Passing (k a)) → Passing (o >>= k)
unfolding ◌>>=◌
next (Passing.given a) g = g a refl
next (Passing.other e) g = Passing.other e

-- ---- parts

-- if the bytes of t stand at `at`, then this step is not refused by 3
abbrev Passes : List ℕ → Step → ℕ → Tree → Type 0
Passes s o at t = (r : List ℕ) → drop at s ≡ write t ++ r → length (write t) ≤ 65536 → Passing o

-- so for every tree of a form that has texts only
abbrev PassesAll : List ℕ → (ℕ → Step) → Form → Type 0
PassesAll s f F = (t : Tree) → Shaped F t → Texts t → (at : ℕ) → Passes s (f at) at t

-- one part, then others, which begin where the part ends: so `Unique` says
chain : (s : List ℕ) (o : Step) (g : (Tree × ℕ) → Step) (a b : Tree) (at : ℕ) → Finds s o at a → Passes s o at a → Passes s (g (put at a)) (at + length (write a)) b →
    Passes s (o >>= (λ x. g x >>= (λ y. done (cons x.0 y.0, y.1)))) at (cons a b)
unfolding write
chain s o g a b at fa pa pb r h l =
    let n : length (write a ++ write b) ≡ length (write a) + length (write b) = length-append (write a) (write b) in
    let h1 : drop at s ≡ write a ++ (write b ++ r) = h ∙ append_assoc (write a) (write b) r in
    let q : Passing (g (put at a)) = pb r (after s (write a) (write b ++ r) at h1) (omega arith) in
    next (pa (write b ++ r) h1 (omega arith)) (λ x d.
    next (subst (λ (z : Tree × ℕ). Passing (g z)) (sym (fa (write b ++ r) h1 (omega arith) x d)) q) (λ y _. Passing.given _))

module _ (s : List ℕ) (end start : ℕ) where
  -- a reader that never puts 3, whatever stands there
  always : {f : ℕ → Step} {F : Form} → ((at : ℕ) → Passing (f at)) → PassesAll s f F
  always g t p x at r h l = g at

  -- a text: 3 is asked of the bytes that were written
  text_passes : PassesAll s (read_text s start end) Form.text
  unfolding read_text write
  text_passes t (Shaped.text {n}) x at r h l =
      let m : length (bytes 2 (length n) ++ n) ≡ 2 + length n = text_length n in
      let b = text_back s at n r (omega arith) h in
      next (asks _ 2 start refl) (λ _ _. next (asks _ 2 start refl) (λ _ _. subst Passing (sym (asked_yes _ _ (ap is_text b.1 ∙ x))) (Passing.given _)))

  -- a name in its order
  key_passes : (e : Earlier) → PassesAll s (read_key s start end e) Form.text
  unfolding read_key
  key_passes e t p x at r h l = next (text_passes t p x at r h l) (λ y _. next (asks _ 6 start refl) (λ _ _. Passing.given y))

  -- a number, wherever it is read
  number_passes : (at : ℕ) → Passing (read_number s start end at)
  unfolding read_number
  number_passes at = next (asks _ 2 start refl) (λ _ _. Passing.given _)

  -- a flag
  flag_passes : (at : ℕ) → Passing (read_flag s start end at)
  unfolding read_flag
  flag_passes at = next (asks _ 2 start refl) (λ _ _. next (asks _ 5 start refl) (λ _ _. Passing.given _))

  -- a literal
  literal_passes : (at : ℕ) → Passing (read_literal s start end at)
  unfolding read_literal
  literal_passes at =
      next (asks _ 2 start refl) (λ _ _. next (asks _ 5 start refl) (λ _ _. next (number_passes (at + 1)) (λ _ _. next (asks _ 5 start refl) (λ _ _. Passing.given _))))

  -- a list's count
  count_passes : (limit at : ℕ) → Passing (read_count limit s start end at)
  unfolding read_count
  count_passes limit at = next (asks _ 2 start refl) (λ _ _. next (asks _ 4 start refl) (λ _ _. Passing.given _))

  -- what a flag announces
  if_passes : {f : ℕ → Step} {F : Form} → PassesAll s f F → (b : Bool) → PassesAll s (read_if b f) (cond b F Form.nothing)
  unfolding read_if
  if_passes hf true = hf
  if_passes hf false = always (λ at. Passing.given _)

  -- a flag and what it announces
  optional_passes : {f : ℕ → Step} {F : Form} → PassesAll s f F → (on : ℕ) → PassesAll s (read_optional f on s start end) (Form.optional F on)
  unfolding read_optional write placed cut
  optional_passes {f} hf on t (Shaped.optional {v} {t = a} m p) x at =
      let e : v % 256 ≡ v = mod-eq_of_lt m in
      chain s (read_flag s start end at) (λ y. read_if (eqb (number y.0) on) f y.1) (num 1 v) a at (flag_finds s end start (num 1 v) Shaped.number at) (λ r h l. flag_passes at)
      (rw e (if_passes hf (eqb v on) a p x.1 (at + length (bytes 1 v))))

  -- n entries
  entries_pass : {f : Earlier → ℕ → Step} {F : Form} → ((e : Earlier) → FindsAll s (f e) F) → ((e : Earlier) → PassesAll s (f e) F)
      → (n : ℕ) (e : Earlier) → PassesAll s (read_entries f e n) (times n F)
  unfolding read_entries times
  entries_pass ff pf zero e t p x at = λ r h l. Passing.given _
  entries_pass {f} ff pf (suc n) e t (Shaped.both {a} {b} p q) x at =
      chain s (f e at) (λ y. read_entries f (met e y.0) n y.1) a b at (ff e a p at) (pf e a p x.0 at) (entries_pass ff pf n (met e (placed at (cut a))) b q x.1 (at + length (write a)))

  -- a list
  list_passes : {f : Earlier → ℕ → Step} {F : Form} → ((t : Tree) → Shaped F t → 2 ≤ length (write t)) → ((e : Earlier) → FindsAll s (f e) F) → ((e : Earlier) → PassesAll s (f e) F)
      → (o : Earlier) (limit : ℕ) → PassesAll s (read_list f o limit s start end) (Form.list F)
  unfolding read_list write placed cut
  list_passes {f} w ff pf o limit t (Shaped.list {n} {t = a} p) x at =
      chain s (read_count limit s start end at) (λ k. read_entries f o (number k.0) k.1) (num 2 n) a at (count_finds s end start limit (num 2 n) Shaped.number at) (λ r h l. count_passes limit at)
      (λ r h l. let e : n % 65536 ≡ n = mod-eq_of_lt (omega (arith, enough s end start w n a p)) in rw e (entries_pass ff pf n o a p x.1 (at + length (bytes 2 n)) r h l))

  -- a list of names
  names_pass : (o : Earlier) (limit : ℕ) → PassesAll s (read_list (read_key s start end) o limit s start end) (Form.list Form.text)
  names_pass = list_passes text_wide (key_finds s end start) key_passes

  -- a value: a name and a number
  value_passes : (e : Earlier) → PassesAll s (read_value s start end e) (Form.both Form.text (Form.number 8))
  unfolding read_value
  value_passes e t (Shaped.both {a} {b} p q) x at =
      chain s (read_key s start end e at) (λ y. read_number s start end y.1) a b at (key_finds s end start e a p at) (key_passes e a p x.0 at) (λ r h l. number_passes _)

  -- rb reads blocks
  module _ (rb : Reader) (m : (e : Earlier) (lo hi : ℕ) → FindsAll s (λ at. rb e lo hi at end) Form.block) (n : (e : Earlier) (lo hi : ℕ) → PassesAll s (λ at. rb e lo hi at end) Form.block) where
    -- a list of blocks
    blocks_pass : (lo hi : ℕ) (o : Earlier) (limit : ℕ) → PassesAll s (read_list (λ f at. rb f lo hi at end) o limit s start end) (Form.list Form.block)
    blocks_pass lo hi = list_passes block_wide (λ f. m f lo hi) (λ f. n f lo hi)

    -- any part of the grammar
    part_passes : (p : Part) (e : Earlier) → PassesAll s (read_part rb s e start end p) (form_of p)
    unfolding read_part form_of
    part_passes Text e = text_passes
    part_passes Key e = key_passes e
    part_passes Number e = always number_passes
    part_passes Flag e = always flag_passes
    part_passes Size e = optional_passes (always number_passes) 0
    part_passes OptNumber e = optional_passes (always number_passes) 1
    part_passes OptText e = optional_passes text_passes 1
    part_passes Literal e = always literal_passes
    part_passes (Block lo hi) e = n Earlier.any lo hi
    part_passes (OptBlock lo hi) e = optional_passes (n Earlier.any lo hi) 1
    part_passes (Blocks lo hi limit) e = blocks_pass lo hi Earlier.any limit
    part_passes (Ascending lo hi limit) e = blocks_pass lo hi (Earlier.ascending [] 0) limit
    part_passes (Distinct lo hi limit) e = blocks_pass lo hi (Earlier.distinct []) limit
    part_passes (Names limit) e = names_pass Earlier.any limit
    part_passes (Paths limit) e = names_pass (Earlier.ascending [] 0) (limit - paths_before e)
    part_passes (Values limit) e = list_passes value_wide (value_finds s end start) value_passes (Earlier.ascending [] 0) limit

    -- all parts of a body
    parts_pass : (ps : List Part) (e : Earlier) → PassesAll s (read_parts rb s e start end ps) (forms_of ps)
    unfolding read_parts forms_of
    parts_pass [] e t p x at = λ r h l. Passing.given _
    parts_pass (q ∷ qs) e t (Shaped.both {a} {b} p ps) x at =
        chain s (read_part rb s e start end q at) (λ y. read_parts rb s e start end qs y.1) a b at (part_finds s end start rb m q e a p at) (part_passes q e a p x.0 at)
        (parts_pass qs e b ps x.1 (at + length (write a)))

-- ---- blocks

module _ (s : List ℕ) where
  -- a header
  header_passes : (lo hi at end : ℕ) → Passing (read_header s lo hi at end)
  unfolding read_header
  header_passes lo hi at end =
      next (asks _ 2 at refl) (λ _ _. next (asks _ 2 at refl) (λ _ _. next (asks _ 2 at refl) (λ _ _. next (asks _ 2 at refl) (λ _ _. Passing.given _))))

  -- a block, with any number of blocks open
  block_passes : (room end : ℕ) (e : Earlier) (lo hi : ℕ) → PassesAll s (λ at. read_block room s e lo hi at end) Form.block
  unfolding read_block write
  block_passes zero end e lo hi t p x at r h l = next (header_passes lo hi at end) (λ _ _. Passing.other refl)
  block_passes (suc room) end e lo hi t (Shaped.block {k} {t = b} m p) x at r h l =
      let f : length (write t) ≡ 6 + length (write b) = frame (2 + length (write b)) k (write b) in
      let c = block_back s at (2 + length (write b)) k (write b) r (omega arith) m h in
      next (header_passes lo hi at end) (λ y d.
      let i : y.0 ≡ k = ap (λ (z : ℕ × ℕ). z.0) (done_one (sym d ∙ (header_got s lo hi at end y d).read)) ∙ c.1 in
      let ps = subst (λ (j : ℕ). Shaped (forms_of (parts_of j)) b) (sym i) p in
      next (parts_pass s y.1 at (read_block room s) (block_finds s room y.1) (block_passes room y.1) (parts_of y.0) e b ps x (at + 6) r c.2 (omega arith)) (λ _ _.
      next (asks _ 2 at refl) (λ _ _. Passing.given _)))

-- The writing of a tree of the grammar's shape and of texts, of at most 65,536 bytes, is not refused by 3 where it is read.
pub input_passes : (room k : ℕ) (t : Tree) → BlockShaped t → Texts t → length (write t) ≤ 65536 → Passing (read_input room k (write t))
unfolding read_input
input_passes room k t p x l =
    next (block_passes (write t) room (length (write t)) Earlier.any k k t p x 0 [] (sym (append-nil (write t))) l) (λ _ _. next (asks _ 2 0 refl) (λ _ _. Passing.given _))
