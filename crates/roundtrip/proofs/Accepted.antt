-- What is accepted is the writing of the tree that is given, and the tree is within the limits.
use mathlib.Core.Path.{◌≡◌, refl, sym, ◌∙◌, ap, ap₂, subst}
use mathlib.Core.Bool.{Bool, true, false}
use mathlib.Core.List.{List, [], ◌∷◌, ◌++◌, append_assoc, append-nil}
use Prim.Native.Nat.{ℕ, zero, suc, ◌+◌, ◌≤◌, ◌<◌}
use native.Mathlib.Omega.{arith}
use lib.ListN.{length, get_or, take, drop, length-append, length-drop, take-append-drop}
use lib.Seq.{drop-drop, length-take-le, drop-length, take-append_seam}
use lib.Dec.{leb, eqb}
use borrow.Author.Tests.{leb-true, eqb-true}
use Rattle.errors.specs.Refusal.{done, ◌>>=◌}
use Rattle.errors.proofs.Laws.{done_one, not_done, asked, bound, bound_done}
use Rattle.blocks.specs.declared.Part.{Part}
use Rattle.blocks.specs.Bytes.{bytes, le, le2, le4, le8, bytes_at}
use Rattle.blocks.proofs.Bytes.{bytes_length, le_one, below, spelt}
use Rattle.blocks.specs.Name.{is_text}
use Rattle.blocks.specs.Grammar.{parts_of, within}
use Rattle.blocks.specs.Tree.{Tree, name, num, block, nil, cons, number}
use Rattle.blocks.specs.Read.{Step, Earlier, in_order, name_of, met, in_type, Reader, read_text, read_key, read_number, read_flag, read_if, read_optional, read_literal, read_count, read_entries, read_list, read_value, read_part, read_parts, read_header, read_block, read_input}
use Rattle.blocks.specs.Write.{write}
use Rattle.roundtrip.specs.Placed.{placed}
use Rattle.roundtrip.specs.Fits.{Limits, Nothing, nothing, Both, both, TextFits, text, KeyFits, NumberFits, held, FlagFits, IfFits, there, absent, OptionalFits, LiteralFits, CountFits, EntriesFits, ListFits, ValueFits, InBlocks, PartFits, PartsFits, Inside, inside, BlockFits}
use Rattle.roundtrip.proofs.Parts.{each_part}
use Rattle.roundtrip.proofs.Bytes.{text_length, frame}

-- What was read from `at` on: a tree within limits, whose bytes stand there, with its offsets; and the offset behind it.
pub record Got (s : List ℕ) (P : Limits) (at end : ℕ) (x : Tree × ℕ) : Type 0 where
  pub stop : x.1 ≡ at + length (write x.0)
  pub high : x.1 ≤ end
  pub same : drop at s ≡ write x.0 ++ drop x.1 s
  pub offsets : placed at x.0 ≡ x.0
  pub fits : P x.0

-- the bytes that were read
pub taken : {s : List ℕ} {P : Limits} {at end : ℕ} {x : Tree × ℕ} → Got s P at end x → bytes_at s at (length (write x.0)) ≡ write x.0
taken {s} {x} h = ap (take (length (write x.0))) h.same ∙ take-append_seam (write x.0) (drop x.1 s)

-- said of the answer that the reader gives
moved : {s : List ℕ} {P : Limits} {at end : ℕ} {x y : Tree × ℕ} → Got s P at end x → done x ≡ done y → Got s P at end y
moved {s} {P} {at} {end} h e = subst (λ (z : Tree × ℕ). Got s P at end z) (done_one e) h

-- with one more question
more : {s : List ℕ} {P Q : Limits} {at end : ℕ} {x : Tree × ℕ} → Got s P at end x → Q x.0 → Got s Q at end x
more h q = record { stop = h.stop; high = h.high; same = h.same; offsets = h.offsets; fits = q }

-- nothing is read where no part is left
none_got : (s : List ℕ) (at end : ℕ) → at ≤ end → Got s Nothing at end (nil, at)
unfolding write placed
none_got s at end h = record { stop = omega arith; high = h; same = refl; offsets = refl; fits = nothing }

-- one part, then others
joined : {s : List ℕ} {P : Limits} {Q : Tree → Limits} {at end : ℕ} {x y : Tree × ℕ} → Got s P at end x → Got s (Q x.0) x.1 end y → Got s (Both P Q) at end (cons x.0 y.0, y.1)
unfolding write placed
joined {s} {P} {Q} {at} {end} {x} {y} h g = record {
  stop = omega (arith, h.stop, g.stop, length-append (write x.0) (write y.0));
  high = g.high;
  same = h.same ∙ ap (λ (l : List ℕ). write x.0 ++ l) g.same ∙ sym (append_assoc (write x.0) (write y.0) (drop y.1 s));
  offsets = ap₂ cons h.offsets (ap (λ (o : ℕ). placed o y.0) (sym h.stop) ∙ g.offsets);
  fits = both h.fits g.fits;
}

-- what was read of a whole input
ended : (s : List ℕ) (P : Limits) (x : Tree × ℕ) (t : Tree) → Got s P 0 (length s) x → x.1 ≡ length s → x.0 ≡ t → (write t ≡ s) × P t × (placed 0 t ≡ t)
ended s P x t g e f =
    let h : drop 0 s ≡ write x.0 = g.same ∙ ap (λ (n : ℕ). write x.0 ++ drop n s) e ∙ ap (λ (r : List ℕ). write x.0 ++ r) (drop-length s) ∙ append-nil (write x.0) in
    rw (← f) (sym h, g.fits, g.offsets)

-- reading one part, then others
both_got : {s : List ℕ} {P : Limits} {Q : Tree → Limits} {at end : ℕ} {z : Tree × ℕ} (o : Step) (g : (Tree × ℕ) → Step) →
    ((x : Tree × ℕ) → o ≡ done x → Got s P at end x) → ((x y : Tree × ℕ) → Got s P at end x → g x ≡ done y → Got s (Q x.0) x.1 end y) →
    (o >>= (λ x. g x >>= (λ y. done (cons x.0 y.0, y.1)))) ≡ done z → Got s (Both P Q) at end z
both_got o g hf hg e =
    let a = bound o _ _ e in
    let b = bound (g a.0) _ _ a.2 in
    let h = hf a.0 a.1 in
    moved (joined h (hg a.0 b.0 h b.1)) b.2

module _ (s : List ℕ) (small : (i : ℕ) → get_or s i 0 < 256) (end : ℕ) (fits : end ≤ length s) where
  -- a number of w bytes
  width_got : (w at v : ℕ) → at + w ≤ end → le w s at ≡ v → Got s (NumberFits w) at end (num w v, at + w)
  unfolding write placed
  width_got w at v h e = record {
    stop = ap (λ (n : ℕ). at + n) (sym (bytes_length w v));
    high = h;
    same = rw (← e) (spelt s small w at (omega arith));
    offsets = refl;
    fits = held (rw e at (below s small w at));
  }

  -- each reader gives such an answer: that of a text
  text_got : (start at : ℕ) (x : Tree × ℕ) → read_text s start end at ≡ done x → Got s TextFits at end x
  unfolding read_text write placed
  text_got start at x e =
      let n : ℕ = le2 s at in
      let t : List ℕ = bytes_at s (at + 2) n in
      let q1 = asked (leb (at + 2) end) _ _ _ e in
      let q2 = asked (leb (at + 2 + n) end) _ _ _ q1.1 in
      let q3 = asked (is_text t) _ _ _ q2.1 in
      let h2 : at + 2 + n ≤ end = leb-true _ _ q2.0 in
      let l : length t ≡ n = length-take-le n (drop (at + 2) s) (rw length-drop (omega arith)) in
      let w = width_got 2 at (length t) (omega arith) (sym l) in
      let d : drop (at + 2) s ≡ t ++ drop (at + 2 + n) s = sym (take-append-drop n (drop (at + 2) s)) ∙ ap (λ (r : List ℕ). t ++ r) (drop-drop n (at + 2) s) in
      moved {x = (name t, at + 2 + n)} (record {
        stop = omega (arith, l, text_length t);
        high = h2;
        same = w.same ∙ ap (λ (r : List ℕ). bytes 2 (length t) ++ r) d ∙ sym (append_assoc (bytes 2 (length t)) t (drop (at + 2 + n) s));
        offsets = refl;
        fits = text q3.0;
      }) q3.1

  -- of a name in its order
  key_got : (start : ℕ) (e : Earlier) (at : ℕ) (x : Tree × ℕ) → read_key s start end e at ≡ done x → Got s (KeyFits e) at end x
  unfolding read_key
  key_got start e at x d =
      let b = bound (read_text s start end at) _ _ d in
      let h = text_got start at b.0 b.1 in
      let q = asked (in_order e (name_of b.0.0)) _ _ _ b.2 in
      moved (more h (h.fits, q.0)) q.1

  -- of a number of eight bytes
  number_got : (start at : ℕ) (x : Tree × ℕ) → read_number s start end at ≡ done x → Got s (NumberFits 8) at end x
  unfolding read_number
  number_got start at x e =
      let q = asked (leb (at + 8) end) _ _ _ e in
      moved (width_got 8 at (le8 s at) (leb-true _ _ q.0) refl) q.1

  -- of a flag
  flag_got : (start at : ℕ) (x : Tree × ℕ) → read_flag s start end at ≡ done x → Got s FlagFits at end x
  unfolding read_flag
  flag_got start at x e =
      let q1 = asked (leb (at + 1) end) _ _ _ e in
      let q2 = asked (leb (get_or s at 0) 1) _ _ _ q1.1 in
      let h = width_got 1 at (get_or s at 0) (leb-true _ _ q1.0) (le_one s at) in
      moved (more h (h.fits, leb-true _ _ q2.0)) q2.1

  -- a reader whose answers are within limits
  abbrev Meets : (ℕ → Step) → Limits → Type 0
  Meets f P = (at : ℕ) (x : Tree × ℕ) → f at ≡ done x → Got s P at end x

  -- of a part that a flag announces
  if_got : {f : ℕ → Step} {P : Limits} → Meets f P → (b : Bool) (at : ℕ) (x : Tree × ℕ) → at ≤ end → read_if b f at ≡ done x → Got s (IfFits P b) at end x
  unfolding read_if
  if_got hf true at x h e = let g = hf at x e in more g (there g.fits)
  if_got hf false at x h e = moved (more (none_got s at end h) absent) e

  -- of a flag and that part
  optional_got : {f : ℕ → Step} {P : Limits} → Meets f P → (on start : ℕ) → Meets (read_optional f on s start end) (OptionalFits P on)
  unfolding read_optional
  optional_got {f} hf on start at z e =
      both_got (read_flag s start end at) (λ x. read_if (eqb (number x.0) on) f x.1) (flag_got start at)
      (λ x y h d. if_got hf (eqb (number x.0) on) x.1 y h.high d) e

  -- of a literal
  literal_got : (start : ℕ) → Meets (read_literal s start end) LiteralFits
  unfolding read_literal
  literal_got start at x e =
      let c : ℕ = get_or s at 0 in
      let q1 = asked (leb (at + 1) end) _ _ _ e in
      let q2 = asked (leb c 7) _ _ _ q1.1 in
      let b = bound (read_number s start end (at + 1)) _ _ q2.1 in
      let q3 = asked (in_type c (number b.0.0)) _ _ _ b.2 in
      let h = width_got 1 at c (leb-true _ _ q1.0) (le_one s at) in
      let g = number_got start (at + 1) b.0 b.1 in
      moved (joined {x = (num 1 c, at + 1)} (more h (h.fits, leb-true _ _ q2.0)) (more g (g.fits, q3.0))) q3.1

  -- of a list's count
  count_got : (limit start : ℕ) → Meets (read_count limit s start end) (CountFits limit)
  unfolding read_count
  count_got limit start at x e =
      let q1 = asked (leb (at + 2) end) _ _ _ e in
      let q2 = asked (leb (le2 s at) limit) _ _ _ q1.1 in
      let h = width_got 2 at (le2 s at) (leb-true _ _ q1.0) refl in
      moved (more h (h.fits, leb-true _ _ q2.0)) q2.1

  -- of a list's entries
  entries_got : {f : Earlier → ℕ → Step} {P : Earlier → Limits} → ((e : Earlier) → Meets (f e) (P e)) → (n : ℕ) (e : Earlier) (at : ℕ) (x : Tree × ℕ)
      → at ≤ end → read_entries f e n at ≡ done x → Got s (EntriesFits P e n) at end x
  unfolding read_entries EntriesFits
  entries_got hf zero e at x h d = moved (none_got s at end h) d
  entries_got {f} hf (suc n) e at z h d =
      both_got (f e at) (λ x. read_entries f (met e x.0) n x.1) (hf e at)
      (λ x y g c. entries_got hf n (met e x.0) x.1 y g.high c) d

  -- of a list
  list_got : {f : Earlier → ℕ → Step} {P : Earlier → Limits} → ((e : Earlier) → Meets (f e) (P e)) → (o : Earlier) (limit start : ℕ) → Meets (read_list f o limit s start end) (ListFits P o limit)
  unfolding read_list
  list_got {f} hf o limit start at z e =
      both_got (read_count limit s start end at) (λ n. read_entries f o (number n.0) n.1) (count_got limit start at)
      (λ n y h d. entries_got hf (number n.0) o n.1 y h.high d) e

  -- of a value: a name and a number
  value_got : (start : ℕ) (e : Earlier) → Meets (read_value s start end e) (ValueFits e)
  unfolding read_value
  value_got start e at z d = both_got (read_key s start end e at) (λ x. read_number s start end x.1) (key_got start e at) (λ x y h c. number_got start x.1 y c) d

  -- rb reads blocks
  module _ (rb : Reader) {B : InBlocks} (m : (e : Earlier) (lo hi : ℕ) → Meets (λ at. rb e lo hi at end) (B e lo hi)) where
    -- of any part of the grammar
    part_got : (p : Part) (e : Earlier) (start : ℕ) → Meets (read_part rb s e start end p) (PartFits B e p)
    part_got p e start = each_part {R = λ f P. Meets f P} (record {
      text = text_got start;
      key = key_got start;
      number = number_got start;
      flag = flag_got start;
      literal = literal_got start;
      value = value_got start;
      optional = λ m on. optional_got m on start;
      list = λ m o limit. list_got m o limit start;
    }) rb m p e

    -- of all parts of a body
    parts_got : (ps : List Part) (e : Earlier) (start at : ℕ) (x : Tree × ℕ) → at ≤ end → read_parts rb s e start end ps at ≡ done x → Got s (PartsFits B e ps) at end x
    unfolding read_parts PartsFits
    parts_got [] e start at x h d = moved (none_got s at end h) d
    parts_got (p ∷ ps) e start at z h d =
        both_got (read_part rb s e start end p at) (λ x. read_parts rb s e start end ps x.1) (part_got p e start at)
        (λ x y g c. parts_got ps e start x.1 y g.high c) d

-- a header that was read
pub record Header (s : List ℕ) (lo hi at end : ℕ) : Type 0 where
  pub long : 2 ≤ le4 s at
  pub high : at + 4 + le4 s at ≤ end
  pub known : within lo hi (le2 s (at + 4)) ≡ true
  pub read : read_header s lo hi at end ≡ done (le2 s (at + 4), at + 4 + le4 s at)

-- what a header that was read says of its bytes
pub header_got : (s : List ℕ) (lo hi at end : ℕ) (h : ℕ × ℕ) → read_header s lo hi at end ≡ done h → Header s lo hi at end
unfolding read_header
header_got s lo hi at end h e =
    let q1 = asked (leb (at + 6) end) _ _ _ e in
    let q2 = asked (leb 2 (le4 s at)) _ _ _ q1.1 in
    let q3 = asked (leb (at + 4 + le4 s at) end) _ _ _ q2.1 in
    let q4 = asked (within lo hi (le2 s (at + 4))) _ _ _ q3.1 in
    record { long = leb-true _ _ q2.0; high = leb-true _ _ q3.0; known = q4.0; read = e ∙ sym q4.1 }

module _ (s : List ℕ) (small : (i : ℕ) → get_or s i 0 < 256) where
  -- a reader of blocks whose answers are within limits
  abbrev AllMeet : Reader → InBlocks → Type 0
  AllMeet rb B = (end : ℕ) → end ≤ length s → (e : Earlier) (lo hi at : ℕ) (x : Tree × ℕ) → rb e lo hi at end ≡ done x → Got s (B e lo hi) at end x

  -- length, kind and body make the block
  framed : {P : ℕ → Limits} {lo hi at end k n : ℕ} {x : Tree × ℕ} → end ≤ length s → at + 4 + n ≤ end → 2 ≤ n → le 4 s at ≡ n → le 2 s (at + 4) ≡ k → within lo hi k ≡ true → x.1 ≡ at + 4 + n →
      Got s (P k) (at + 6) (at + 4 + n) x → Got s (Inside P lo hi) at end (block at k x.0, at + 4 + n)
  unfolding write placed
  framed {at} {end} {k} {n} {x} fits h4 h2 en ek w stop g =
      let l : n ≡ 2 + length (write x.0) = omega (arith, g.stop) in
      let f : at + 4 + 2 ≡ at + 6 = omega arith in
      let g4 = width_got s small end fits 4 at (2 + length (write x.0)) (omega arith) (en ∙ l) in
      let g2 = width_got s small end fits 2 (at + 4) k (omega arith) ek in
      let b : drop (at + 4 + 2) s ≡ write x.0 ++ drop (at + 4 + n) s = rw (f, ← stop) g.same in
      record {
        stop = omega (arith, l, frame (2 + length (write x.0)) k (write x.0));
        high = h4;
        same = g4.same ∙ ap (λ (r : List ℕ). bytes 4 (2 + length (write x.0)) ++ r) (g2.same ∙ ap (λ (r : List ℕ). bytes 2 k ++ r) b) ∙ simp append_assoc;
        offsets = ap (block at k) g.offsets;
        fits = inside w (rw ek at (below s small 2 (at + 4))) (rw (en, l) at (below s small 4 at)) g.fits;
      }

  -- a block that was read is within the limits, and its bytes stand there
  pub block_got : (room : ℕ) → AllMeet (read_block room s) (BlockFits room)
  unfolding read_block BlockFits
  block_got zero end fits e lo hi at x d = absurd (not_done (bound (read_header s lo hi at end) _ _ d).2)
  block_got (suc room) end fits e lo hi at x d =
      let n : ℕ = le4 s at in
      let k : ℕ = le2 s (at + 4) in
      let a = bound (read_header s lo hi at end) _ _ d in
      let h = header_got s lo hi at end a.0 a.1 in
      let b = bound (read_parts (read_block room s) s e at (at + 4 + n) (parts_of k) (at + 6)) _ _ (sym (bound_done _ h.read) ∙ d) in
      let q = asked (eqb b.0.1 (at + 4 + n)) _ _ _ b.2 in
      let f : at + 4 + n ≤ length s = omega (arith, h.high) in
      let g = parts_got s small (at + 4 + n) f (read_block room s) (block_got room (at + 4 + n) f) (parts_of k) e at (at + 6) b.0 (omega (arith, h.long)) b.1 in
      moved (framed {x = b.0} fits h.high h.long refl refl h.known (eqb-true b.0.1 (at + 4 + n) q.0) g) q.1

-- What is accepted is the writing of the tree that is given; that tree is within the limits, and its blocks have their
-- offsets.
pub accepted : (room k : ℕ) (s : List ℕ) → ((i : ℕ) → get_or s i 0 < 256) → (t : Tree) → read_input room k s ≡ done t → (write t ≡ s) × BlockFits room Earlier.any k k t × (placed 0 t ≡ t)
unfolding read_input
accepted room k s small t e =
    let b = bound (read_block room s Earlier.any k k 0 (length s)) _ _ e in
    let q = asked (eqb b.0.1 (length s)) _ _ _ b.2 in
    let g = block_got s small room (length s) (omega arith) Earlier.any k k 0 b.0 b.1 in
    ended s (BlockFits room Earlier.any k k) b.0 t g (eqb-true _ _ q.0) (done_one q.1)
