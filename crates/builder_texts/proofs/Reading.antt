-- What was read has texts only: question 3 is put at each name and text.
use Prim.Native.Nat.{ℕ, zero, suc, ◌+◌}
use mathlib.Core.Path.{◌≡◌, subst}
use mathlib.Core.Bool.{Bool, true, false}
use mathlib.Core.List.{List, [], ◌∷◌}
use lib.Dec.{leb, eqb}
use lib.ListN.{length, get_or}
use Rattle.errors.specs.Refusal.{done, ◌>>=◌}
use Rattle.errors.proofs.Laws.{done_one, not_done, asked, bound}
use Rattle.blocks.specs.declared.Part.{Part}
use Rattle.blocks.specs.Bytes.{le2, name_at}
use Rattle.blocks.specs.Name.{is_text}
use Rattle.blocks.specs.Grammar.{parts_of}
use Rattle.blocks.specs.Tree.{Tree, name, block, cons, number}
use Rattle.blocks.specs.Read.{Step, Earlier, in_order, name_of, in_type, met, Reader, read_text, read_key, read_number, read_flag, read_if, read_optional, read_literal, read_count, read_entries}
use Rattle.blocks.specs.Read.{read_list, read_value, read_part, read_parts, read_header, read_block, read_input}
use Rattle.roundtrip.proofs.Parts.{each_part}
use Rattle.builder_texts.specs.Texts.{Texts}

-- an answer, if one is given, is a tree of texts
abbrev Answer : Step → Type 0
Answer o = (x : Tree × ℕ) → o ≡ done x → Texts x.0

-- one that is given
given : (x : Tree × ℕ) → Texts x.0 → Answer (done x)
given x h y e = subst (λ (z : Tree × ℕ). Texts z.0) (done_one e) h

-- one part, then others
joined : (o : Step) (g : Tree × ℕ → Step) → Answer o → ((x : Tree × ℕ) → Answer (g x)) → Answer (o >>= (λ x. g x >>= (λ y. done (cons x.0 y.0, y.1))))
joined o g ho hg z e =
    let (x, d, i) = bound o _ z e in
    let (y, f, j) = bound (g x) _ z i in
    given (cons x.0 y.0, y.1) (ho x d, hg x y f) z j

module _ (s : List ℕ) (start end : ℕ) where
  -- each reader gives such an answer: that of a text asks 3
  text_texts : (at : ℕ) → Answer (read_text s start end at)
  unfolding read_text
  text_texts at x e =
      let q1 = asked (leb (at + 2) end) _ _ _ e in
      let q2 = asked (leb (at + 2 + le2 s at) end) _ _ _ q1.1 in
      let q3 = asked (is_text (name_at s at)) _ _ _ q2.1 in
      given (name (name_at s at), at + 2 + le2 s at) q3.0 x q3.1

  -- of a name in its order
  key_texts : (e : Earlier) (at : ℕ) → Answer (read_key s start end e at)
  unfolding read_key
  key_texts e at x d =
      let (y, f, i) = bound (read_text s start end at) _ x d in
      let q = asked (in_order e (name_of y.0)) _ _ _ i in
      given y (text_texts at y f) x q.1

  -- of a number
  number_texts : (at : ℕ) → Answer (read_number s start end at)
  unfolding read_number
  number_texts at x e = given _ tt x (asked (leb (at + 8) end) _ _ _ e).1

  -- of a flag
  flag_texts : (at : ℕ) → Answer (read_flag s start end at)
  unfolding read_flag
  flag_texts at x e = given _ tt x (asked (leb (get_or s at 0) 1) _ _ _ (asked (leb (at + 1) end) _ _ _ e).1).1

  -- of a part that a flag announces
  if_texts : {f : ℕ → Step} → ((at : ℕ) → Answer (f at)) → (b : Bool) (at : ℕ) → Answer (read_if b f at)
  unfolding read_if
  if_texts hf true at = hf at
  if_texts hf false at = given _ tt

  -- of a flag and that part
  optional_texts : {f : ℕ → Step} → ((at : ℕ) → Answer (f at)) → (on at : ℕ) → Answer (read_optional f on s start end at)
  unfolding read_optional
  optional_texts {f} hf on at =
      joined (read_flag s start end at) (λ x. read_if (eqb (number x.0) on) f x.1) (flag_texts at) (λ x. if_texts hf (eqb (number x.0) on) x.1)

  -- of a literal
  literal_texts : (at : ℕ) → Answer (read_literal s start end at)
  unfolding read_literal
  literal_texts at x e =
      let q1 = asked (leb (at + 1) end) _ _ _ e in
      let q2 = asked (leb (get_or s at 0) 7) _ _ _ q1.1 in
      let (y, f, i) = bound (read_number s start end (at + 1)) _ x q2.1 in
      let q3 = asked (in_type (get_or s at 0) (number y.0)) _ _ _ i in
      given _ (tt, number_texts (at + 1) y f) x q3.1

  -- of a list's count
  count_texts : (limit at : ℕ) → Answer (read_count limit s start end at)
  unfolding read_count
  count_texts limit at x e = given _ tt x (asked (leb (le2 s at) limit) _ _ _ (asked (leb (at + 2) end) _ _ _ e).1).1

  -- of a list's entries
  entries_texts : {f : Earlier → ℕ → Step} → ((e : Earlier) (at : ℕ) → Answer (f e at)) → (n : ℕ) (e : Earlier) (at : ℕ) → Answer (read_entries f e n at)
  unfolding read_entries
  entries_texts hf zero e at = given _ tt
  entries_texts {f} hf (suc n) e at = joined (f e at) (λ x. read_entries f (met e x.0) n x.1) (hf e at) (λ x. entries_texts hf n (met e x.0) x.1)

  -- of a list
  list_texts : {f : Earlier → ℕ → Step} → ((e : Earlier) (at : ℕ) → Answer (f e at)) → (e : Earlier) (limit at : ℕ) → Answer (read_list f e limit s start end at)
  unfolding read_list
  list_texts {f} hf e limit at =
      joined (read_count limit s start end at) (λ n. read_entries f e (number n.0) n.1) (count_texts limit at) (λ n. entries_texts hf (number n.0) e n.1)

  -- of a value: a name and a number
  value_texts : (e : Earlier) (at : ℕ) → Answer (read_value s start end e at)
  unfolding read_value
  value_texts e at = joined (read_key s start end e at) (λ x. read_number s start end x.1) (key_texts e at) (λ x. number_texts x.1)

  -- rb reads blocks
  module _ (rb : Reader) (m : (e : Earlier) (lo hi at end : ℕ) → Answer (rb e lo hi at end)) where
    -- of any part of the grammar
    part_texts : (p : Part) (e : Earlier) (at : ℕ) → Answer (read_part rb s e start end p at)
    part_texts p e = each_part {R = λ f P. (at : ℕ) → Answer (f at)} (record {
      text = text_texts;
      key = key_texts;
      number = number_texts;
      flag = flag_texts;
      literal = literal_texts;
      value = value_texts;
      optional = λ h on. optional_texts h on;
      list = λ h o limit. list_texts h o limit;
    }) rb {B = λ f lo hi t. Unit {0}} (λ f lo hi at. m f lo hi at end) p e

    -- of all parts of a body
    parts_texts : (ps : List Part) (e : Earlier) (at : ℕ) → Answer (read_parts rb s e start end ps at)
    unfolding read_parts
    parts_texts [] e at = given _ tt
    parts_texts (p ∷ ps) e at = joined (read_part rb s e start end p at) (λ x. read_parts rb s e start end ps x.1) (part_texts p e at) (λ x. parts_texts ps e x.1)

-- of a block
block_texts : (room : ℕ) (s : List ℕ) (e : Earlier) (lo hi at end : ℕ) → Answer (read_block room s e lo hi at end)
unfolding read_block
block_texts zero s e lo hi at end x d = absurd (not_done (bound (read_header s lo hi at end) _ _ d).2)
block_texts (suc room) s e lo hi at end x d =
    let (h, f, i) = bound (read_header s lo hi at end) _ x d in
    let (y, g, j) = bound (read_parts (read_block room s) s e at h.1 (parts_of h.0) (at + 6)) _ x i in
    let q = asked (eqb y.1 h.1) _ _ _ j in
    given (block at h.0 y.0, h.1) (parts_texts s at h.1 (read_block room s) (block_texts room s) (parts_of h.0) e (at + 6) y g) x q.1

-- what was read of a whole input is a tree of texts
pub input_texts : (room k : ℕ) (s : List ℕ) (t : Tree) → read_input room k s ≡ done t → Texts t
unfolding read_input
input_texts room k s t e =
    let (x, d, i) = bound (read_block room s Earlier.any k k 0 (length s)) _ t e in
    let q = asked (eqb x.1 (length s)) _ _ _ i in
    subst Texts (done_one q.1) (block_texts room s Earlier.any k k 0 (length s) x d)
