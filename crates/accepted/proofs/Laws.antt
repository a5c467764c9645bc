-- What accepted bytes say of a block and its parts: where each stands, what it holds, and what is accepted inside. Of a
-- block `opened`, then one law for each part: what it holds, and the parts behind it.
use mathlib.Core.Path.{◌≡◌, refl, sym, ◌∙◌, ap, subst}
use mathlib.Core.Bool.{Bool, true, false, cond}
use mathlib.Core.List.{List, [], ◌∷◌}
use Prim.Native.Nat.{ℕ, zero, suc, ◌+◌, ◌-◌, ◌≤◌, ◌<◌}
use native.Mathlib.Numerals.{sub-one}
use native.Mathlib.Omega.{arith}
use lib.ListN.{length, get_or}
use lib.Dec.{leb, eqb}
use borrow.Author.Tests.{leb-true, eqb-true, eqb-false}
use Rattle.errors.specs.Refusal.{done}
use Rattle.errors.proofs.Laws.{done_one, not_done, asked, bound, bound_done}
use Rattle.blocks.specs.declared.Part.{Part}
use Rattle.blocks.specs.declared.Part.TheVariants.{Text, Key, Number, Flag, Size, OptNumber, Literal, Block}
use Rattle.blocks.specs.Bytes.{le2, le4, le8}
use Rattle.blocks.specs.Name.{is_text}
use Rattle.blocks.specs.Grammar.{parts_of, within}
use Rattle.blocks.specs.Tree.{Tree, name, num, block, nil, cons, first, rest, body, part}
use Rattle.blocks.specs.Read.{Step, Earlier, in_order, in_type, paths_before, met, Reader, read_optional, read_entries, read_list, read_part, read_parts, read_header, read_block, read_input}
use Rattle.blocks.proofs.Name.{and_left, and_right}
use Rattle.roundtrip.proofs.Accepted.{header_got}
use Rattle.accepted.specs.Accepted.{Accepted, Parts, Item, read_item, Entries, Listed, name_at, Optional, Counted}
use Rattle.accepted.proofs.Read.{Both, both, value_read, text_read, key_read, number_read, flag_read, literal_read, optional_read, list_read}

-- ---- a block

-- A block of kind k, whose parts are ps: its parts, read with one room less, end where it ends.
pub record Opened {s : List ℕ} {lo hi at : ℕ} (k : ℕ) (ps : List Part) (a : Accepted s lo hi at) : Type 0 where
  pub parts : Parts s ps (at + 6)
  pub long : 2 ≤ le4 s at
  pub high : at + 4 + le4 s at ≤ a.end
  pub least : lo ≤ k
  pub most : k ≤ hi
  pub tree : a.got.0 ≡ block at k parts.got.0
  pub stop : a.got.1 ≡ at + 4 + le4 s at
  pub room : a.room ≡ suc parts.room
  pub earlier : parts.earlier ≡ a.earlier
  pub end : parts.end ≡ at + 4 + le4 s at
  pub ended : parts.got.1 ≡ at + 4 + le4 s at

-- the same of a block that was read with at least one room
opened_suc : (s : List ℕ) (lo hi at k : ℕ) (ps : List Part) (room : ℕ) (e : Earlier) (end : ℕ) (got : Tree × ℕ) (fits : end ≤ length s) (read : read_block (suc room) s e lo hi at end ≡ done got) →
    le2 s (at + 4) ≡ k → parts_of k ≡ ps → Opened k ps (record { room = suc room; earlier = e; end = end; got = got; fits = fits; read = read })
unfolding read_block
opened_suc s lo hi at k ps room e end got fits read ek ep =
    let n : ℕ = le4 s at in
    let a = bound (read_header s lo hi at end) _ _ read in
    let h = header_got s lo hi at end a.0 a.1 in
    let b = bound (read_parts (read_block room s) s e at (at + 4 + n) (parts_of (le2 s (at + 4))) (at + 6)) _ _ (sym (bound_done _ h.read) ∙ read) in
    let q = asked (eqb b.0.1 (at + 4 + n)) _ _ _ b.2 in
    let g : got ≡ (block at (le2 s (at + 4)) b.0.0, at + 4 + n) = sym (done_one q.1) in
    let w : within lo hi k ≡ true = ap (within lo hi) (sym ek) ∙ h.known in
    let r : read_parts (read_block room s) s e at (at + 4 + n) ps (at + 6) ≡ done b.0 =
    subst (λ (l : List Part). read_parts (read_block room s) s e at (at + 4 + n) l (at + 6) ≡ done b.0) (ap parts_of ek ∙ ep) b.1 in
    record {
      parts = record { room = room; earlier = e; start = at; end = at + 4 + n; got = b.0; fits = omega (arith, h.high); read = r };
      long = h.long;
      high = h.high;
      least = leb-true _ _ (and_left _ _ w);
      most = leb-true _ _ (and_right (leb lo k) _ w);
      tree = ap (λ (z : Tree × ℕ). z.0) g ∙ ap (λ (j : ℕ). block at j b.0.0) ek;
      stop = ap (λ (z : Tree × ℕ). z.1) g;
      room = refl;
      earlier = refl;
      end = refl;
      ended = eqb-true b.0.1 (at + 4 + n) q.0;
    }

-- an accepted block of kind k is opened: header, parts and end
pub opened : {s : List ℕ} {lo hi at k : ℕ} {ps : List Part} (a : Accepted s lo hi at) → le2 s (at + 4) ≡ k → parts_of k ≡ ps → Opened k ps a
unfolding read_block
opened {s} {lo} {hi} {at} {k} {ps} a = go a.room a.earlier a.end a.got a.fits a.read
  where
    go : (room : ℕ) (e : Earlier) (end : ℕ) (got : Tree × ℕ) (fits : end ≤ length s) (read : read_block room s e lo hi at end ≡ done got) →
        le2 s (at + 4) ≡ k → parts_of k ≡ ps → Opened k ps (record { room = room; earlier = e; end = end; got = got; fits = fits; read = read })
    go zero e end got fits read ek ep = absurd (not_done (bound (read_header s lo hi at end) _ _ read).2)
    go (suc room) e end got fits read ek ep = opened_suc s lo hi at k ps room e end got fits read ek ep

-- a block's header lies inside the bytes
pub header_inside : {s : List ℕ} {lo hi at : ℕ} → Accepted s lo hi at → at + 6 ≤ length s
header_inside a = let o = opened a refl refl in omega (arith, o.long, o.high, a.fits)

-- where one kind was asked for, the block has it
pub sole_kind : {s : List ℕ} {k at : ℕ} (a : Accepted s k k at) → le2 s (at + 4) ≡ k
sole_kind a = let o = opened a refl refl in omega (arith, o.least, o.most)

-- what holds of d kinds, from k on, one by one
abbrev pub Each : (ℕ → Type 0) → ℕ → ℕ → Type 0
Each P k zero = Unit
Each P k (suc d) = P k × Each P (k + 1) d

-- what holds of each kind of a range one by one holds of every kind in it
pub each : (P : ℕ → Type 0) (d lo : ℕ) → Each P lo d → (k : ℕ) → lo ≤ k → k < lo + d → P k
each P zero lo h k a b = absurd (omega arith)
each P (suc d) lo h k a b = go (eqb lo k) refl (each P d (lo + 1) h.1 k)
  where
    go : (t : Bool) → eqb lo k ≡ t → (lo + 1 ≤ k → k < lo + 1 + d → P k) → P k
    go true e f = subst P (eqb-true lo k e) h.0
    go false e f = let n = eqb-false lo k e in f (omega arith) (omega arith)

-- ---- parts

-- The parts behind the first, from q on, where the first is t.
pub record Behind {s : List ℕ} {p : Part} {ps : List Part} {at : ℕ} (c : Parts s (p ∷ ps) at) (t : Tree) (q : ℕ) : Type 0 where
  pub rest : Parts s ps q
  pub inside : q ≤ c.end
  pub tree : c.got.0 ≡ cons t rest.got.0
  pub stop : c.got.1 ≡ rest.got.1
  pub room : rest.room ≡ c.room
  pub end : rest.end ≡ c.end

-- how a part, or parts, are read there
abbrev part_at : {s : List ℕ} {ps : List Part} {at : ℕ} → Parts s ps at → Part → ℕ → Step
part_at {s} c = read_part (read_block c.room s) s c.earlier c.start c.end

-- how the parts ps are read there
abbrev parts_at : {s : List ℕ} {ps : List Part} {at : ℕ} → Parts s ps at → List Part → ℕ → Step
parts_at {s} c = read_parts (read_block c.room s) s c.earlier c.start c.end

-- said of another offset that is the same
pub behind_at : {s : List ℕ} {p : Part} {ps : List Part} {at : ℕ} {c : Parts s (p ∷ ps) at} {t : Tree} {q r : ℕ} → q ≡ r → Behind c t q → Behind c t r
behind_at {c} {t} e b = subst (λ (n : ℕ). Behind c t n) e b

-- the first part was read, and so were those behind it
pub chained : {s : List ℕ} {p : Part} {ps : List Part} {at : ℕ} (c : Parts s (p ∷ ps) at) → Both (part_at c p at) (λ x. parts_at c ps x.1) c.got
unfolding read_parts
chained {p} {ps} {at} c = both (part_at c p at) (λ x. parts_at c ps x.1) c.read

-- the parts behind the first, where it is known what the first is and where it ends
pub behind : {s : List ℕ} {p : Part} {ps : List Part} {at q : ℕ} {t : Tree} (c : Parts s (p ∷ ps) at) → (chained c).one ≡ (t, q) → q ≤ c.end → Behind c t q
behind {ps} c e h =
    let b = chained c in
    record {
      rest = record {
        room = c.room;
        earlier = c.earlier;
        start = c.start;
        end = c.end;
        got = b.more;
        fits = c.fits;
        read = subst (λ (z : Tree × ℕ). parts_at c ps z.1 ≡ done b.more) e b.more_read;
      };
      inside = h;
      tree = ap (λ (z : Tree × ℕ). z.0) b.is ∙ ap (λ (z : Tree × ℕ). cons z.0 b.more.0) e;
      stop = ap (λ (z : Tree × ℕ). z.1) b.is;
      room = refl;
      end = refl;
    }

module _ {s : List ℕ} {ps : List Part} {at : ℕ} where
  -- the first part is a text: it may stand there, and what is behind it
  pub text_part : (c : Parts s (Text ∷ ps) at) → (is_text (name_at s at) ≡ true) × Behind c (name (name_at s at)) (at + 2 + le2 s at)
  unfolding read_part
  text_part c = let t = text_read s c.start c.end at (chained c).one_read in (t.1, behind c t.2 t.0)

  -- a name in its order
  pub key_part : (c : Parts s (Key ∷ ps) at) → (is_text (name_at s at) ≡ true) × (in_order c.earlier (name_at s at) ≡ true) × Behind c (name (name_at s at)) (at + 2 + le2 s at)
  unfolding read_part
  key_part c = let k = key_read s c.start c.end at c.earlier (chained c).one_read in (k.1, k.2, behind c k.3 k.0)

  -- a number of eight bytes
  pub number_part : (c : Parts s (Number ∷ ps) at) → Behind c (num 8 (le8 s at)) (at + 8)
  unfolding read_part
  number_part c = let n = number_read s c.start c.end at (chained c).one_read in behind c n.1 n.0

  -- a flag
  pub flag_part : (c : Parts s (Flag ∷ ps) at) → (get_or s at 0 ≤ 1) × Behind c (num 1 (get_or s at 0)) (at + 1)
  unfolding read_part
  flag_part c = let f = flag_read s c.start c.end at (chained c).one_read in (f.1, behind c f.2 f.0)

  -- a literal: its code, and its number inside the code's type
  pub literal_part : (c : Parts s (Literal ∷ ps) at) →
      (get_or s at 0 ≤ 7) × (in_type (get_or s at 0) (le8 s (at + 1)) ≡ true) × Behind c (cons (num 1 (get_or s at 0)) (num 8 (le8 s (at + 1)))) (at + 1 + 8)
  unfolding read_part
  literal_part c = let l = literal_read s c.start c.end at (chained c).one_read in (l.1, l.2, behind c l.3 l.0)

-- ---- a block among the parts

-- the block that is the first part, with the room and the end of the whole
pub record Child {s : List ℕ} {ps : List Part} {lo hi at : ℕ} (c : Parts s (Block lo hi ∷ ps) at) : Type 0 where
  pub child : Accepted s lo hi at
  pub room : child.room ≡ c.room
  pub end : child.end ≡ c.end
  pub behind : Behind c child.got.0 (at + 4 + le4 s at)

-- where the first part is a block, it is accepted itself
pub block_part : {s : List ℕ} {ps : List Part} {lo hi at : ℕ} (c : Parts s (Block lo hi ∷ ps) at) → Child c
unfolding read_part
block_part {s} {lo} {hi} {at} c =
    let b = chained c in
    let a : Accepted s lo hi at = record { room = c.room; earlier = Earlier.any; end = c.end; got = b.one; fits = c.fits; read = b.one_read } in
    let o = opened a refl refl in
    record { child = a; room = refl; end = refl; behind = behind c (ap (λ (n : ℕ). (b.one.0, n)) o.stop) o.high }

-- ---- an optional part

-- Where the flag says that it is there: the same parts, with what stands behind the flag in its place.
pub record There {s : List ℕ} {p : Part} {ps : List Part} {at : ℕ} (c : Parts s (p ∷ ps) at) (inner : Part) : Type 0 where
  pub parts : Parts s (inner ∷ ps) (at + 1)
  pub tree : c.got.0 ≡ cons (cons (num 1 (get_or s at 0)) (first parts.got.0)) (rest parts.got.0)
  pub stop : c.got.1 ≡ parts.got.1
  pub room : parts.room ≡ c.room
  pub end : parts.end ≡ c.end

-- what a flag says: whether the part behind it is there
pub record Announced {s : List ℕ} {p : Part} {ps : List Part} {at : ℕ} (c : Parts s (p ∷ ps) at) (on : ℕ) (inner : Part) : Type 0 where
  pub inside : at + 1 ≤ c.end
  pub small : get_or s at 0 ≤ 1
  pub there : get_or s at 0 ≡ on → There c inner
  pub absent : (get_or s at 0 ≡ on → ⊥) → Behind c (cons (num 1 (get_or s at 0)) nil) (at + 1)

-- the four optional parts are read alike
optional_as : {p inner : Part} {on : ℕ} → Optional p on inner → (rb : Reader) (s : List ℕ) (e : Earlier) (start end at : ℕ)
    → read_part rb s e start end p at ≡ read_optional (read_part rb s e start end inner) on s start end at
unfolding read_part
optional_as Optional.size rb s e start end at = refl
optional_as Optional.number rb s e start end at = refl
optional_as Optional.text rb s e start end at = refl
optional_as Optional.block rb s e start end at = refl

-- the part behind the flag was read: the parts from behind the flag on
there_is : {s : List ℕ} {p : Part} {ps : List Part} {at : ℕ} (c : Parts s (p ∷ ps) at) (inner : Part) (x m : Tree × ℕ) → parts_at c ps x.1 ≡ done m → c.got ≡ (cons x.0 m.0, m.1) →
    (y : Tree × ℕ) × (part_at c inner (at + 1) ≡ done y) × (x ≡ (cons (num 1 (get_or s at 0)) y.0, y.1)) → There c inner
unfolding read_parts
there_is {ps} c inner x m r g (y, d, i) =
    let n : parts_at c ps y.1 ≡ done m = subst (λ (z : Tree × ℕ). parts_at c ps z.1 ≡ done m) i r in
    record {
      parts = record { room = c.room; earlier = c.earlier; start = c.start; end = c.end; got = (cons y.0 m.0, m.1); fits = c.fits; read = bound_done _ d ∙ bound_done _ n };
      tree = ap (λ (z : Tree × ℕ). z.0) g ∙ ap (λ (z : Tree × ℕ). cons z.0 m.0) i;
      stop = ap (λ (z : Tree × ℕ). z.1) g;
      room = refl;
      end = refl;
    }

-- the first part is an optional one: both values of its flag
pub optional_part : {s : List ℕ} {p inner : Part} {ps : List Part} {on at : ℕ} → Optional p on inner → (c : Parts s (p ∷ ps) at) → Announced c on inner
optional_part {s} {inner} {on} {at} o c =
    let b = chained c in
    let f = optional_read (part_at c inner) on s c.start c.end at (sym (optional_as o (read_block c.room s) s c.earlier c.start c.end at) ∙ b.one_read) in
    record {
      inside = f.inside;
      small = f.small;
      there = λ y. there_is c inner b.one b.more b.more_read b.is (f.there y);
      absent = λ n. behind c (f.absent n) f.inside;
    }

-- Where what stands behind the flag is t and ends at q, for both values of the flag.
abbrev pub optional_tree : List ℕ → ℕ → ℕ → Tree → Tree
optional_tree s at on t = cons (num 1 (get_or s at 0)) (cond (eqb (get_or s at 0) on) t nil)

-- where an optional part ends
abbrev pub behind_optional : List ℕ → ℕ → ℕ → ℕ → ℕ
behind_optional s at on q = cond (eqb (get_or s at 0) on) q (at + 1)

-- the parts behind an optional part, for both values of its flag
pub optional_behind : {s : List ℕ} {p inner : Part} {ps : List Part} {on at q : ℕ} {t : Tree} → Optional p on inner → (c : Parts s (p ∷ ps) at) → ((i : Parts s (inner ∷ ps) (at + 1)) → Behind i t q) →
    Behind c (optional_tree s at on t) (behind_optional s at on q)
optional_behind {s} {inner} {on} {at} {q} {t} o c h = go (eqb (get_or s at 0) on) refl (optional_part o c)
  where
    go : (b : Bool) → eqb (get_or s at 0) on ≡ b → Announced c on inner → Behind c (cons (num 1 (get_or s at 0)) (cond b t nil)) (cond b q (at + 1))
    go true e a =
        let w = a.there (eqb-true _ _ e) in
        let b = h w.parts in
        record {
          rest = b.rest;
          inside = omega (arith, b.inside, w.end);
          tree = w.tree ∙ ap (λ (z : Tree). cons (cons (num 1 (get_or s at 0)) (first z)) (rest z)) b.tree;
          stop = w.stop ∙ b.stop;
          room = b.room ∙ w.room;
          end = b.end ∙ w.end;
        }
    go false e a = a.absent (eqb-false _ _ e)

module _ {s : List ℕ} {ps : List Part} {at : ℕ} where
  -- an optional size
  pub size_part : (c : Parts s (Size ∷ ps) at) → Behind c (optional_tree s at 0 (num 8 (le8 s (at + 1)))) (behind_optional s at 0 (at + 1 + 8))
  size_part c = optional_behind Optional.size c number_part

  -- an optional number
  pub opt_number_part : (c : Parts s (OptNumber ∷ ps) at) → Behind c (optional_tree s at 1 (num 8 (le8 s (at + 1)))) (behind_optional s at 1 (at + 1 + 8))
  opt_number_part c = optional_behind Optional.number c number_part

-- ---- a list

-- how an entry, or entries, are read there
abbrev item_at : {s : List ℕ} {i : Item} {n at : ℕ} → Entries s i n at → Earlier → ℕ → Step
item_at {s} {i} l = read_item i l.room s l.start l.end

-- The entries behind the first, from q on, where the first is t.
pub record After {s : List ℕ} {i : Item} {n at : ℕ} (l : Entries s i n at) (t : Tree) (q : ℕ) : Type 0 where
  pub rest : Entries s i (n - 1) q
  pub inside : q ≤ l.end
  pub tree : l.got.0 ≡ cons t rest.got.0
  pub stop : l.got.1 ≡ rest.got.1
  pub room : rest.room ≡ l.room
  pub end : rest.end ≡ l.end

-- no entry
pub none_left : {s : List ℕ} {i : Item} {n at : ℕ} (l : Entries s i n at) → n ≤ 0 → l.got ≡ (nil, at)
unfolding read_entries
none_left {n = zero} l h = sym (done_one l.read)
none_left {n = suc n} l h = absurd (omega arith)

-- the first entry was read, and so were those behind it
pub entered : {s : List ℕ} {i : Item} {n at : ℕ} (l : Entries s i n at) → 0 < n → Both (item_at l l.earlier at) (λ x. read_entries (item_at l) (met l.earlier x.0) (n - 1) x.1) l.got
unfolding read_entries
entered {n = zero} l h = absurd (omega arith)
entered {n = suc n} {at} l h = rw sub-one (both (item_at l l.earlier at) (λ x. read_entries (item_at l) (met l.earlier x.0) n x.1) l.read)

-- the entries behind the first, where it is known what the first is and where it ends
pub after : {s : List ℕ} {i : Item} {n at q : ℕ} {t : Tree} (l : Entries s i n at) (h : 0 < n) → (entered l h).one ≡ (t, q) → q ≤ l.end → After l t q
after {n} l h e f =
    let b = entered l h in
    record {
      rest = record {
        room = l.room;
        earlier = met l.earlier b.one.0;
        start = l.start;
        end = l.end;
        got = b.more;
        fits = l.fits;
        read = subst (λ (z : ℕ). read_entries (item_at l) (met l.earlier b.one.0) (n - 1) z ≡ done b.more) (ap (λ (z : Tree × ℕ). z.1) e) b.more_read;
      };
      inside = f;
      tree = ap (λ (z : Tree × ℕ). z.0) b.is ∙ ap (λ (z : Tree × ℕ). cons z.0 b.more.0) e;
      stop = ap (λ (z : Tree × ℕ). z.1) b.is;
      room = refl;
      end = refl;
    }

-- the block that is the first entry, with the room and the end of the list
pub record Enter {s : List ℕ} {lo hi n at : ℕ} (l : Listed s lo hi n at) : Type 0 where
  pub child : Accepted s lo hi at
  pub room : child.room ≡ l.room
  pub end : child.end ≡ l.end
  pub after : After l child.got.0 (at + 4 + le4 s at)

-- where the first entry is a block, it is accepted itself
pub block_entry : {s : List ℕ} {lo hi n at : ℕ} (l : Listed s lo hi n at) → 0 < n → Enter l
block_entry {s} {lo} {hi} {at} l h =
    let b = entered l h in
    let a : Accepted s lo hi at = record { room = l.room; earlier = l.earlier; end = l.end; got = b.one; fits = l.fits; read = b.one_read } in
    let o = opened a refl refl in
    record { child = a; room = refl; end = refl; after = after l h (ap (λ (n : ℕ). (b.one.0, n)) o.stop) o.high }

module _ {s : List ℕ} {n at : ℕ} where
  -- the first entry is a name in its order
  pub name_entry : (l : Entries s Item.names n at) → 0 < n → (is_text (name_at s at) ≡ true) × (in_order l.earlier (name_at s at) ≡ true) × After l (name (name_at s at)) (at + 2 + le2 s at)
  name_entry l h = let k = key_read s l.start l.end at l.earlier (entered l h).one_read in (k.1, k.2, after l h k.3 k.0)

  -- the first entry is a name in its order with a number
  pub value_entry : (l : Entries s Item.values n at) → 0 < n →
      (is_text (name_at s at) ≡ true) × (in_order l.earlier (name_at s at) ≡ true) × After l (cons (name (name_at s at)) (num 8 (le8 s (at + 2 + le2 s at)))) (at + 2 + le2 s at + 8)
  value_entry l h = let k = value_read s l.start l.end at l.earlier (entered l h).one_read in (k.1, k.2, after l h k.3 k.0)

  -- what is asked of the entry behind it: the same, with this one met; keeps the order of a list from one entry to the next
  pub value_met : (l : Entries s Item.values n at) (h : 0 < n) → (value_entry l h).2.rest.earlier ≡ met l.earlier (cons (name (name_at s at)) (num 8 (le8 s (at + 2 + le2 s at))))
  unfolding value_entry after
  value_met l h =
      let k = value_read s l.start l.end at l.earlier (entered l h).one_read in
      ap (λ (z : Tree × ℕ). met l.earlier z.0) k.3

-- where a list ends
item_high : (i : Item) (room : ℕ) (s : List ℕ) (start end : ℕ) → end ≤ length s → (e : Earlier) (at : ℕ) (x : Tree × ℕ) → read_item i room s start end e at ≡ done x → x.1 ≤ end
item_high (Item.blocks lo hi) room s start end fits e at x d =
    let a : Accepted s lo hi at = record { room = room; earlier = e; end = end; got = x; fits = fits; read = d } in
    let o = opened a refl refl in
    omega (arith, o.stop, o.high)
item_high Item.names room s start end fits e at x d = let k = key_read s start end at e d in omega (arith, k.0, ap (λ (z : Tree × ℕ). z.1) k.3)
item_high Item.values room s start end fits e at x d = let k = value_read s start end at e d in omega (arith, k.0, ap (λ (z : Tree × ℕ). z.1) k.3)

-- entries end inside, if each one does
entries_high : (f : Earlier → ℕ → Step) (end : ℕ) → ((e : Earlier) (at : ℕ) (x : Tree × ℕ) → f e at ≡ done x → x.1 ≤ end) →
    (n : ℕ) (e : Earlier) (at : ℕ) (x : Tree × ℕ) → at ≤ end → read_entries f e n at ≡ done x → x.1 ≤ end
unfolding read_entries
entries_high f end h zero e at x l d = omega (arith, ap (λ (z : Tree × ℕ). z.1) (done_one d))
entries_high f end h (suc n) e at x l d =
    let b = both (f e at) (λ x. read_entries f (met e x.0) n x.1) d in
    let r = entries_high f end h n (met e b.one.0) b.one.1 b.more (h e at b.one b.one_read) b.more_read in
    omega (arith, r, ap (λ (z : Tree × ℕ). z.1) b.is)

-- an accepted list ends inside its block
pub list_high : {s : List ℕ} {i : Item} {n at : ℕ} (l : Entries s i n at) → at ≤ l.end → l.got.1 ≤ l.end
list_high {s} {i} {n} {at} l h = entries_high (item_at l) l.end (item_high i l.room s l.start l.end l.fits) n l.earlier at l.got h l.read

-- A count n within its limit, and a list of n entries; the other parts stand behind the list.
pub record Enlisted {s : List ℕ} {p : Part} {ps : List Part} {at : ℕ} (c : Parts s (p ∷ ps) at) (i : Item) (limit : ℕ) (e : Earlier) : Type 0 where
  pub inside : at + 2 ≤ c.end
  pub few : le2 s at ≤ limit
  pub list : Entries s i (le2 s at) (at + 2)
  pub room : list.room ≡ c.room
  pub end : list.end ≡ c.end
  pub earlier : list.earlier ≡ e
  pub behind : Behind c (cons (num 2 (le2 s at)) list.got.0) list.got.1

-- the six parts that are lists are read alike
counted_as : {p : Part} {i : Item} {limit : ℕ} {o : Earlier} → Counted p i limit o → (room : ℕ) (s : List ℕ) (e : Earlier) (start end at : ℕ) →
    (m : ℕ) × (m ≤ limit) × (read_part (read_block room s) s e start end p at ≡ read_list (read_item i room s start end) o m s start end at)
unfolding read_part
counted_as (Counted.any {limit}) room s e start end at = (limit, omega arith, refl)
counted_as (Counted.ascending {limit}) room s e start end at = (limit, omega arith, refl)
counted_as (Counted.distinct {limit}) room s e start end at = (limit, omega arith, refl)
counted_as (Counted.names {limit}) room s e start end at = (limit, omega arith, refl)
counted_as (Counted.paths {limit}) room s e start end at = (limit - paths_before e, omega arith, refl)
counted_as (Counted.values {limit}) room s e start end at = (limit, omega arith, refl)

-- the first part is a list: its count, its entries, and the parts behind it
pub list_part : {s : List ℕ} {p : Part} {ps : List Part} {i : Item} {limit at : ℕ} {o : Earlier} → Counted p i limit o → (c : Parts s (p ∷ ps) at) → Enlisted c i limit o
list_part {s} {i} {limit} {at} {o} k c =
    let m = counted_as k c.room s c.earlier c.start c.end at in
    let f = list_read (read_item i c.room s c.start c.end) o m.0 s c.start c.end at (sym m.2 ∙ (chained c).one_read) in
    let l : Entries s i (le2 s at) (at + 2) = record { room = c.room; earlier = o; start = c.start; end = c.end; got = f.list; fits = c.fits; read = f.list_read } in
    record {
      inside = f.inside;
      few = omega (arith, f.few, m.1);
      list = l;
      room = refl;
      end = refl;
      earlier = refl;
      behind = behind c f.is (list_high l f.inside);
    }

-- What holds of every accepted block holds of the blocks of a list.
pub data All (P : Tree → Type 0) : Tree → Type 0 where
  none : All P nil
  more : {a b : Tree} → P a → All P b → All P (cons a b)

-- what holds of every accepted block holds of each entry of a list of blocks
pub all_entries : {s : List ℕ} {lo hi n at : ℕ} (P : Tree → Type 0) → ((q : ℕ) (a : Accepted s lo hi q) → P a.got.0) → (l : Listed s lo hi n at) → All P l.got.0
all_entries {s} {lo} {hi} {n} {at} P h l = go n at l
  where
    go : (n at : ℕ) (l : Listed s lo hi n at) → All P l.got.0
    go zero at l = rw (none_left l (omega arith)) All.none
    go (suc n) at l =
        let e = block_entry l (omega arith) in
        let f : (q : ℕ) (r : Listed s lo hi (suc n - 1) q) → All P r.got.0 = rw sub-one (go n) in
        subst (All P) (sym e.after.tree) (All.more (h at e.child) (f (at + 4 + le4 s at) e.after.rest))

-- ---- a block that is one list

-- 32 references, 36 type set, 65 path, 160 layout, 192 values
pub record Sole {s : List ℕ} {lo hi at : ℕ} (a : Accepted s lo hi at) (i : Item) (limit : ℕ) : Type 0 where
  pub inside : at + 6 + 2 ≤ length s
  pub few : le2 s (at + 6) ≤ limit
  pub list : Entries s i (le2 s (at + 6)) (at + 6 + 2)
  pub tree : rest (part 0 (body a.got.0)) ≡ list.got.0

-- a block whose only part is a list: the list
pub sole : {s : List ℕ} {k at limit : ℕ} {p : Part} {i : Item} {o : Earlier} (a : Accepted s k k at) → parts_of k ≡ p ∷ [] → Counted p i limit o → Sole a i limit
unfolding part
sole {s} {k} {at} a e d =
    let w = opened a refl refl in
    let b = opened a (omega (arith, w.least, w.most)) e in
    let l = list_part d b.parts in
    record {
      inside = omega (arith, l.inside, b.parts.fits);
      few = l.few;
      list = l.list;
      tree = ap (λ (z : Tree). rest (part 0 (body z))) b.tree ∙ ap (λ (z : Tree). rest (part 0 z)) l.behind.tree;
    }

-- what is asked of the list's first entry: where the order of its entries begins
pub sole_earlier : {s : List ℕ} {k at limit : ℕ} {p : Part} {i : Item} {o : Earlier} (a : Accepted s k k at) (e : parts_of k ≡ p ∷ []) (d : Counted p i limit o) → (sole a e d).list.earlier ≡ o
unfolding sole
sole_earlier a e d =
    let w = opened a refl refl in
    let b = opened a (omega (arith, w.least, w.most)) e in
    (list_part d b.parts).earlier

-- ---- an input

-- An input that was read is an accepted block that ends where the input ends.
pub input : (room k : ℕ) (s : List ℕ) {t : Tree} → read_input room k s ≡ done t → (a : Accepted s k k 0) × (a.got ≡ (t, length s))
unfolding read_input
input room k s e =
    let b = bound (read_block room s Earlier.any k k 0 (length s)) _ _ e in
    let q = asked (eqb b.0.1 (length s)) _ _ _ b.2 in (
      record { room = room; earlier = Earlier.any; end = length s; got = b.0; fits = omega arith; read = b.1 },
      ap (λ (n : ℕ). (b.0.0, n)) (eqb-true _ _ q.0) ∙ ap (λ (z : Tree). (z, length s)) (done_one q.1),
    )
