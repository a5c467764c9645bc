-- Writing is unique: what is read from the writing of a tree of the grammar's shape, if anything is, is that tree.
use mathlib.Core.Path.{◌≡◌, refl, sym, ◌∙◌, ap, ap₂, subst}
use mathlib.Core.Bool.{Bool, true, false, cond}
use mathlib.Core.List.{List, [], ◌∷◌, ◌++◌, append_assoc, append-nil}
use Prim.Native.Nat.{ℕ, zero, suc, ◌+◌, ◌-◌, ◌%◌, ◌^◌, ◌≤◌}
use native.Mathlib.Nat.{mod-eq_of_lt}
use native.Mathlib.Omega.{arith}
use lib.ListN.{length, get_or, drop, length-append}
use lib.Dec.{leb, eqb}
use Rattle.errors.specs.Refusal.{done, ◌>>=◌}
use Rattle.errors.proofs.Laws.{done_one, not_done, asked, bound, bound_done}
use Rattle.blocks.specs.declared.Part.{Part}
use Rattle.blocks.specs.declared.Part.TheVariants.{Text, Key, Number, Flag, Size, OptNumber, OptText, Literal, Block, OptBlock, Blocks, Ascending, Distinct, Names, Paths, Values}
use Rattle.blocks.specs.Bytes.{bytes, le, le2, le4, le8, bytes_at}
use Rattle.blocks.proofs.Bytes.{bytes_length, le_one, after, behind, back}
use Rattle.blocks.specs.Name.{is_text}
use Rattle.blocks.specs.Grammar.{parts_of}
use Rattle.blocks.specs.Tree.{Tree, name, num, block, nil, cons, number}
use Rattle.blocks.specs.Read.{Step, Earlier, paths_before, in_order, name_of, met, in_type, Reader, read_text, read_key, read_number, read_flag, read_if, read_optional, read_literal, read_count, read_entries, read_list, read_value, read_part, read_parts, read_header, read_block, read_input}
use Rattle.blocks.specs.Write.{write}
use Rattle.roundtrip.specs.Placed.{placed}
use Rattle.roundtrip.specs.Shape.{Form, form_of, forms_of, times, Shaped, BlockShaped, cut}
use Rattle.roundtrip.proofs.Bytes.{text_length, frame, text_back, block_back}
use Rattle.roundtrip.proofs.Accepted.{header_got}

-- numbers keep their widths
cut_length : (t : Tree) → length (write (cut t)) ≡ length (write t)
unfolding cut write
cut_length (name n) = refl
cut_length (num w v) = bytes_length w (v % 256 ^ w) ∙ sym (bytes_length w v)
cut_length (block at k t) = frame (2 + length (write (cut t))) k (write (cut t)) ∙ ap (λ (n : ℕ). 6 + n) (cut_length t) ∙ sym (frame (2 + length (write t)) k (write t))
cut_length nil = refl
cut_length (cons a b) = length-append (write (cut a)) (write (cut b)) ∙ ap₂ ◌+◌ (cut_length a) (cut_length b) ∙ sym (length-append (write a) (write b))

-- what is to be read at `at`
abbrev pub put : ℕ → Tree → (Tree × ℕ)
put at t = (placed at (cut t), at + length (write t))

-- if the bytes of t stand at `at`, then this step gives t or is refused
abbrev pub Finds : List ℕ → Step → ℕ → Tree → Type 0
Finds s o at t = (r : List ℕ) → drop at s ≡ write t ++ r → length (write t) ≤ 65536 → (x : Tree × ℕ) → o ≡ done x → x ≡ put at t

-- so for every tree of a form
abbrev pub FindsAll : List ℕ → (ℕ → Step) → Form → Type 0
FindsAll s f F = (t : Tree) → Shaped F t → (at : ℕ) → Finds s (f at) at t

-- a tree and an offset are equal if both parts are
pair : {a b : Tree} {m n : ℕ} → a ≡ b → m ≡ n → ◌≡◌ {A = Tree × ℕ} (a, m) (b, n)
pair e f = rw (e, f)

-- one part, then others
chain : (s : List ℕ) (o : Step) (g : (Tree × ℕ) → Step) (a b : Tree) (at : ℕ) → Finds s o at a → Finds s (g (put at a)) (at + length (write a)) b →
    Finds s (o >>= (λ x. g x >>= (λ y. done (cons x.0 y.0, y.1)))) at (cons a b)
unfolding write placed cut
chain s o g a b at hf hg r h l z e =
    let n : length (write a ++ write b) ≡ length (write a) + length (write b) = length-append (write a) (write b) in
    let h1 : drop at s ≡ write a ++ (write b ++ r) = h ∙ append_assoc (write a) (write b) r in
    let c = bound o _ _ e in
    let d = bound (g c.0) _ _ c.2 in
    let ea : c.0 ≡ put at a = hf (write b ++ r) h1 (omega arith) c.0 c.1 in
    let eb : d.0 ≡ put (at + length (write a)) b = hg r (after s (write a) (write b ++ r) at h1) (omega arith) d.0 (ap g (sym ea) ∙ d.1) in
    sym (done_one d.2) ∙ ap₂ (λ (x y : Tree × ℕ). (cons x.0 y.0, y.1)) ea eb
    ∙ pair (ap (λ (k : ℕ). cons (placed at (cut a)) (placed (at + k) (cut b))) (sym (cut_length a))) (omega arith)

-- no part: nothing is read
none_finds : (s : List ℕ) → FindsAll s (λ at. done (nil, at)) Form.nothing
unfolding write placed cut
none_finds s t Shaped.nothing at r h l x e = sym (done_one e) ∙ pair refl (omega arith)

-- a code and a number
literal_put : (v u c at : ℕ) (y x : Tree × ℕ) → c ≡ v % 256 → y ≡ put (at + 1) (num 8 u) → (cons (num 1 c) y.0, y.1) ≡ x → x ≡ put at (cons (num 1 v) (num 8 u))
unfolding write placed cut
literal_put v u c at y x e d f = sym f ∙ rw (e, d) (pair refl (omega (arith, length-append (bytes 1 v) (bytes 8 u), bytes_length 1 v)))

-- an entry has two bytes or more
pub text_wide : (t : Tree) → Shaped Form.text t → 2 ≤ length (write t)
unfolding write
text_wide t (Shaped.text {n}) = omega (arith, text_length n)

-- so has a block
pub block_wide : (t : Tree) → Shaped Form.block t → 2 ≤ length (write t)
unfolding write
block_wide t (Shaped.block {k} {t = b} m p) = omega (arith, frame (2 + length (write b)) k (write b))

-- and a name with a number
pub value_wide : (t : Tree) → Shaped (Form.both Form.text (Form.number 8)) t → 2 ≤ length (write t)
unfolding write
value_wide t (Shaped.both {a} {b} p q) = omega (arith, length-append (write a) (write b), text_wide a p)

module _ (s : List ℕ) (end start : ℕ) where
  -- a number of w bytes, read as v
  width_finds : (w v u at : ℕ) (r : List ℕ) → drop at s ≡ bytes w v ++ r → le w s at ≡ u → ◌≡◌ {A = Tree × ℕ} (num w u, at + w) (put at (num w v))
  unfolding write placed cut
  width_finds w v u at r h e = pair (ap (num w) (sym e ∙ back s w at v r h)) (ap (λ (n : ℕ). at + n) (sym (bytes_length w v)))

  -- each reader finds what was written: that of a text
  text_finds : FindsAll s (read_text s start end) Form.text
  unfolding read_text write placed cut
  text_finds t (Shaped.text {n}) at r h l x e =
      let m : length (bytes 2 (length n) ++ n) ≡ 2 + length n = text_length n in
      let b = text_back s at n r (omega arith) h in
      let q1 = asked (leb (at + 2) end) _ _ _ e in
      let q2 = asked (leb (at + 2 + le2 s at) end) _ _ _ q1.1 in
      let q3 = asked (is_text (bytes_at s (at + 2) (le2 s at))) _ _ _ q2.1 in
      sym (done_one q3.1) ∙ pair (ap name b.1) (omega (arith, b.0))

  -- of a name in its order
  pub key_finds : (e : Earlier) → FindsAll s (read_key s start end e) Form.text
  unfolding read_key
  key_finds e t p at r h l x d =
      let b = bound (read_text s start end at) _ _ d in
      let q = asked (in_order e (name_of b.0.0)) _ _ _ b.2 in
      sym (done_one q.1) ∙ text_finds t p at r h l b.0 b.1

  -- of a number of eight bytes
  number_finds : FindsAll s (read_number s start end) (Form.number 8)
  unfolding read_number write
  number_finds t (Shaped.number {v}) at r h l x e =
      let q = asked (leb (at + 8) end) _ _ _ e in
      sym (done_one q.1) ∙ width_finds 8 v (le8 s at) at r h refl

  -- of a flag
  pub flag_finds : FindsAll s (read_flag s start end) (Form.number 1)
  unfolding read_flag write
  flag_finds t (Shaped.number {v}) at r h l x e =
      let q1 = asked (leb (at + 1) end) _ _ _ e in
      let q2 = asked (leb (get_or s at 0) 1) _ _ _ q1.1 in
      sym (done_one q2.1) ∙ width_finds 1 v (get_or s at 0) at r h (le_one s at)

  -- of a list's count
  pub count_finds : (limit : ℕ) → FindsAll s (read_count limit s start end) (Form.number 2)
  unfolding read_count write
  count_finds limit t (Shaped.number {v}) at r h l x e =
      let q1 = asked (leb (at + 2) end) _ _ _ e in
      let q2 = asked (leb (le2 s at) limit) _ _ _ q1.1 in
      sym (done_one q2.1) ∙ width_finds 2 v (le2 s at) at r h refl

  -- of what a flag announces
  if_finds : {f : ℕ → Step} {F : Form} → FindsAll s f F → (b : Bool) → FindsAll s (read_if b f) (cond b F Form.nothing)
  unfolding read_if
  if_finds hf true = hf
  if_finds hf false = none_finds s

  -- of a flag and what it announces
  optional_finds : {f : ℕ → Step} {F : Form} → FindsAll s f F → (on : ℕ) → FindsAll s (read_optional f on s start end) (Form.optional F on)
  unfolding read_optional write placed cut
  optional_finds {f} hf on t (Shaped.optional {v} {t = a} m p) at =
      let e : v % 256 ≡ v = mod-eq_of_lt m in
      chain s (read_flag s start end at) (λ x. read_if (eqb (number x.0) on) f x.1) (num 1 v) a at (flag_finds (num 1 v) Shaped.number at)
      (rw e (if_finds hf (eqb v on) a p (at + length (bytes 1 v))))

  -- of a literal
  literal_finds : FindsAll s (read_literal s start end) (Form.both (Form.number 1) (Form.number 8))
  unfolding read_literal write placed cut
  literal_finds t (Shaped.both (Shaped.number {v}) (Shaped.number {v = u})) at r h l x e =
      let h1 : drop at s ≡ bytes 1 v ++ (bytes 8 u ++ r) = h ∙ append_assoc (bytes 1 v) (bytes 8 u) r in
      let h2 : drop (at + 1) s ≡ bytes 8 u ++ r = behind s 1 v (bytes 8 u ++ r) at h1 in
      let c : get_or s at 0 ≡ v % 256 = sym (le_one s at) ∙ back s 1 at v (bytes 8 u ++ r) h1 in
      let q1 = asked (leb (at + 1) end) _ _ _ e in
      let q2 = asked (leb (get_or s at 0) 7) _ _ _ q1.1 in
      let b = bound (read_number s start end (at + 1)) _ _ q2.1 in
      let q3 = asked (in_type (get_or s at 0) (number b.0.0)) _ _ _ b.2 in
      let d = number_finds (num 8 u) Shaped.number (at + 1) r h2 (omega (arith, bytes_length 8 u)) b.0 b.1 in
      literal_put v u (get_or s at 0) at b.0 x c d (done_one q3.1)

  -- entries have bytes, so a count below 65,536 is that of the list
  pub enough : {F : Form} → ((t : Tree) → Shaped F t → 2 ≤ length (write t)) → (n : ℕ) (t : Tree) → Shaped (times n F) t → n + n ≤ length (write t)
  unfolding times write
  enough w zero t Shaped.nothing = omega arith
  enough w (suc n) t (Shaped.both {a} {b} p q) = omega (arith, w a p, enough w n b q, length-append (write a) (write b))

  -- of n entries
  entries_finds : {f : Earlier → ℕ → Step} {F : Form} → ((e : Earlier) → FindsAll s (f e) F) → (n : ℕ) (e : Earlier) → FindsAll s (read_entries f e n) (times n F)
  unfolding read_entries times
  entries_finds hf zero e t p at = none_finds s t p at
  entries_finds {f} hf (suc n) e t (Shaped.both {a} {b} p q) at =
      chain s (f e at) (λ x. read_entries f (met e x.0) n x.1) a b at (hf e a p at) (entries_finds hf n (met e (placed at (cut a))) b q (at + length (write a)))

  -- of a list
  list_finds : {f : Earlier → ℕ → Step} {F : Form} → ((t : Tree) → Shaped F t → 2 ≤ length (write t)) → ((e : Earlier) → FindsAll s (f e) F)
      → (o : Earlier) (limit : ℕ) → FindsAll s (read_list f o limit s start end) (Form.list F)
  unfolding read_list write placed cut
  list_finds {f} w hf o limit t (Shaped.list {n} {t = a} p) at =
      chain s (read_count limit s start end at) (λ k. read_entries f o (number k.0) k.1) (num 2 n) a at (count_finds limit (num 2 n) Shaped.number at)
      (λ r h l. let e : n % 65536 ≡ n = mod-eq_of_lt (omega (arith, enough w n a p)) in rw e (entries_finds hf n o a p (at + length (bytes 2 n)) r h l))

  -- of a value: a name and a number
  pub value_finds : (e : Earlier) → FindsAll s (read_value s start end e) (Form.both Form.text (Form.number 8))
  unfolding read_value
  value_finds e t (Shaped.both {a} {b} p q) at = chain s (read_key s start end e at) (λ x. read_number s start end x.1) a b at (key_finds e a p at) (number_finds b q (at + length (write a)))

  -- rb reads blocks
  module _ (rb : Reader) (m : (e : Earlier) (lo hi : ℕ) → FindsAll s (λ at. rb e lo hi at end) Form.block) where
    -- of any part of the grammar
    pub part_finds : (p : Part) (e : Earlier) → FindsAll s (read_part rb s e start end p) (form_of p)
    unfolding read_part form_of
    part_finds Text e = text_finds
    part_finds Key e = key_finds e
    part_finds Number e = number_finds
    part_finds Flag e = flag_finds
    part_finds Size e = optional_finds number_finds 0
    part_finds OptNumber e = optional_finds number_finds 1
    part_finds OptText e = optional_finds text_finds 1
    part_finds Literal e = literal_finds
    part_finds (Block lo hi) e = m Earlier.any lo hi
    part_finds (OptBlock lo hi) e = optional_finds (m Earlier.any lo hi) 1
    part_finds (Blocks lo hi limit) e = list_finds block_wide (λ f. m f lo hi) Earlier.any limit
    part_finds (Ascending lo hi limit) e = list_finds block_wide (λ f. m f lo hi) (Earlier.ascending [] 0) limit
    part_finds (Distinct lo hi limit) e = list_finds block_wide (λ f. m f lo hi) (Earlier.distinct []) limit
    part_finds (Names limit) e = list_finds text_wide key_finds Earlier.any limit
    part_finds (Paths limit) e = list_finds text_wide key_finds (Earlier.ascending [] 0) (limit - paths_before e)
    part_finds (Values limit) e = list_finds value_wide value_finds (Earlier.ascending [] 0) limit

    -- of all parts of a body
    parts_finds : (ps : List Part) (e : Earlier) → FindsAll s (read_parts rb s e start end ps) (forms_of ps)
    unfolding read_parts forms_of
    parts_finds [] e t p at = none_finds s t p at
    parts_finds (q ∷ qs) e t (Shaped.both {a} {b} p ps) at =
        chain s (read_part rb s e start end q at) (λ x. read_parts rb s e start end qs x.1) a b at (part_finds q e a p at) (parts_finds qs e b ps (at + length (write a)))

-- a reader of blocks that finds them
abbrev BlocksFound : List ℕ → Reader → Type 0
BlocksFound s rb = (end : ℕ) (e : Earlier) (lo hi : ℕ) → FindsAll s (λ at. rb e lo hi at end) Form.block

module _ (s : List ℕ) where
  -- the reader of blocks finds a block that was written, with any number of blocks open
  pub block_finds : (room : ℕ) → BlocksFound s (read_block room s)
  unfolding read_block write placed cut
  block_finds zero end e lo hi t p at r h l x d = absurd (not_done (bound (read_header s lo hi at end) _ _ d).2)
  block_finds (suc room) end e lo hi t (Shaped.block {k} {t = b} m p) at r h l x d =
      let f : length (write t) ≡ 6 + length (write b) = frame (2 + length (write b)) k (write b) in
      let c = block_back s at (2 + length (write b)) k (write b) r (omega arith) m h in
      let a = bound (read_header s lo hi at end) _ _ d in
      let g = header_got s lo hi at end a.0 a.1 in
      let y = bound (read_parts (read_block room s) s e at (at + 4 + le4 s at) (parts_of (le2 s (at + 4))) (at + 6)) _ _ (sym (bound_done _ g.read) ∙ d) in
      let q = asked (eqb y.0.1 (at + 4 + le4 s at)) _ _ _ y.2 in
      let ps = subst (λ (j : ℕ). Shaped (forms_of (parts_of j)) b) (sym c.1) p in
      let i : y.0 ≡ put (at + 6) b =
      parts_finds s (at + 4 + le4 s at) at (read_block room s) (block_finds room (at + 4 + le4 s at)) (parts_of (le2 s (at + 4))) e b ps (at + 6) r c.2 (omega arith) y.0 y.1 in
      sym (done_one q.1) ∙ pair (ap₂ (block at) c.1 (ap (λ (z : Tree × ℕ). z.0) i)) (omega (arith, c.0))

-- If the writing of a tree of the grammar's shape is accepted, it is read as that tree, each number modulo what its bytes
-- hold and each block with its offset.
pub unique : (room k : ℕ) (t u : Tree) → BlockShaped t → length (write t) ≤ 65536 → read_input room k (write t) ≡ done u → u ≡ placed 0 (cut t)
unfolding read_input
unique room k t u p l e =
    let b = bound (read_block room (write t) Earlier.any k k 0 (length (write t))) _ _ e in
    let q = asked (eqb b.0.1 (length (write t))) _ _ _ b.2 in
    let g = block_finds (write t) room (length (write t)) Earlier.any k k t p 0 [] (sym (append-nil (write t))) l b.0 b.1 in
    sym (done_one q.1) ∙ ap (λ (z : Tree × ℕ). z.0) g
