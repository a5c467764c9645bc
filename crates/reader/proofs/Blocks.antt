-- The parts of a block, and a block, one step at a time, as the code sees them.
use mathlib.Core.Path.{◌≡◌, refl, sym, ◌∙◌, ap₂}
use mathlib.Core.Bool.{Bool, true, false, not, cond}
use mathlib.Core.List.{List, [], ◌∷◌, ◌++◌}
use mathlib.Core.Logic.{◌⊎◌, inl, inr}
use Prim.Native.Nat.{ℕ, zero, suc, ◌+◌, ◌-◌, ◌/◌, ◌%◌, ◌<◌}
use native.Mathlib.Omega.{arith}
use native.Mathlib.Numerals.{sub-one}
use lib.Dec.{eqb}
use lib.ListN.{get_or, drop}
use borrow.Author.Tests.{eq-eqb, ne_eqb}
use Rattle.errors.specs.Refusal.{Refusal, Outcome, done, refused, ◌>>=◌, ask, unread}
use Rattle.errors.proofs.Laws.{not_done}
use Rattle.blocks.specs.declared.Part.{Part}
use Rattle.blocks.specs.declared.Part.TheVariants.{Key}
use Rattle.blocks.specs.Grammar.{within, Row, grammar, find_row, metadata, node_table, parts_of}
use Rattle.blocks.proofs.Name.{false_true, and_left, and_right}
use Rattle.blocks.specs.Tree.{Tree, block}
use Rattle.blocks.specs.Read.{Step, Earlier, Reader, read_part, read_parts, read_header, read_block}
use Rattle.reader_leaf.specs.declared.Head.{Head}
use Rattle.reader_leaf.specs.Answer.{forget, head_of}
use Rattle.reader_leaf.proofs.Laws.{stopped, goes}
use Rattle.ir_nodes.specs.Codes.{code_of, part_of, row_of, Digits}
use Rattle.ir_nodes.proofs.Table.{each, passed}
use Rattle.ir_nodes.proofs.Rows.{begins, digit, no_digit}

module _ (rb : Reader) (s : List ℕ) (e : Earlier) (start end : ℕ) where
  -- no part is left: the body ends here
  pub parts_none : {ps : List Part} (at : ℕ) → ps ≡ [] → forget (read_parts rb s e start end ps at) ≡ done at
  unfolding read_parts forget
  parts_none at h = rw h

  module _ {ps qs : List Part} {p : Part} (h : ps ≡ p ∷ qs) (at : ℕ) where
    -- a refused part refuses the block
    pub parts_stop : {r : Refusal} → forget (read_part rb s e start end p at) ≡ refused r → forget (read_parts rb s e start end ps at) ≡ refused r
    unfolding read_parts
    parts_stop d = rw h (stopped (read_part rb s e start end p at) _ d)

    -- a part that was read: those behind it decide
    pub parts_go : {m : ℕ} → forget (read_part rb s e start end p at) ≡ done m → forget (read_parts rb s e start end ps at) ≡ forget (read_parts rb s e start end qs m)
    unfolding read_parts
    parts_go d = rw h (goes (read_part rb s e start end p at) (read_parts rb s e start end qs) d)

-- behind a header
found : (o : Outcome (ℕ × ℕ)) (k : (ℕ × ℕ) → Step) {h : Head} → head_of o ≡ done h → forget (o >>= k) ≡ forget (k (h.kind, h.end))
unfolding head_of ◌>>=◌
found (done x) k {h} e =
    let e0 : x.0 ≡ h.kind = cc in
    let e1 : x.1 ≡ h.end = cc in
    ap₂ (λ (y z : ℕ). forget (k (y, z))) e0 e1
found (refused r) k e = absurd (not_done e)

-- a refused header refuses what stands behind it
none : (o : Outcome (ℕ × ℕ)) (k : (ℕ × ℕ) → Step) {r : Refusal} → head_of o ≡ refused r → forget (o >>= k) ≡ refused r
unfolding head_of ◌>>=◌ forget
none (done h) k e = absurd (not_done (sym e))
none (refused r) k e = cc

-- the end of a block, behind its parts
last : ℕ → ℕ → ℕ → (Tree × ℕ) → Step
last at kind stop x = ask (eqb x.1 stop) (unread 2 at) >>= (λ u. done (block at kind x.0, stop))

module _ (at kind stop : ℕ) {n : ℕ} where
  -- the body is used up: the block is read
  last_ok : (x : Step) → forget x ≡ done n → n ≡ stop → forget (x >>= last at kind stop) ≡ done stop
  unfolding last forget ◌>>=◌ ask
  last_ok (done p) e h = let e1 : p.1 ≡ stop = cc in rw (eq-eqb p.1 stop e1)
  last_ok (refused r) e h = let z : ◌≡◌ {A = ℕ} 0 1 = cc in absurd (omega arith)

  -- the body is not used up: question 2 refuses the block
  last_rest : (x : Step) → forget x ≡ done n → (n ≡ stop → ⊥) → forget (x >>= last at kind stop) ≡ refused (unread 2 at)
  unfolding last forget ◌>>=◌ ask
  last_rest (done p) e h = let e1 : n ≡ p.1 = cc in rw (ne_eqb p.1 stop (λ g. h (e1 ∙ g)))
  last_rest (refused r) e h = let z : ◌≡◌ {A = ℕ} 0 1 = cc in absurd (omega arith)

module _ (s : List ℕ) (e : Earlier) (lo hi at end : ℕ) where
  -- a refused header refuses the block
  pub block_no : (room : ℕ) {r : Refusal} → head_of (read_header s lo hi at end) ≡ refused r → forget (read_block room s e lo hi at end) ≡ refused r
  unfolding read_block
  block_no zero d = none (read_header s lo hi at end) _ d
  block_no (suc room) d = none (read_header s lo hi at end) _ d

  module _ {h : Head} (d : head_of (read_header s lo hi at end) ≡ done h) where
    -- no more block may be open: question 4 refuses it
    pub block_full : (room : ℕ) → room ≡ 0 → forget (read_block room s e lo hi at end) ≡ refused (unread 4 at)
    unfolding read_block forget
    block_full room g = rw g (found (read_header s lo hi at end) _ d)

    -- its parts, read with this many blocks that may still be open
    abbrev inner : ℕ → Step
    inner room = read_parts (read_block room s) s e at h.end (parts_of h.kind) (at + 6)

    -- where a block may be open, its parts and its end decide
    opened : (room : ℕ) → 0 < room → forget (read_block room s e lo hi at end) ≡ forget (inner (room - 1) >>= last at h.kind h.end)
    unfolding read_block last
    opened zero l = absurd (omega arith)
    opened (suc room) l = rw sub-one (found (read_header s lo hi at end) _ d)

    module _ (room : ℕ) (l : 0 < room) where
      -- refused parts refuse the block
      pub block_stop : {r : Refusal} → forget (inner (room - 1)) ≡ refused r → forget (read_block room s e lo hi at end) ≡ refused r
      block_stop g = opened room l ∙ stopped (inner (room - 1)) (last at h.kind h.end) g

      -- parts that end where the block ends: it is read
      pub block_ok : {n : ℕ} → forget (inner (room - 1)) ≡ done n → n ≡ h.end → forget (read_block room s e lo hi at end) ≡ done h.end
      block_ok g x = opened room l ∙ last_ok at h.kind h.end (inner (room - 1)) g x

      -- parts that end before it: question 2 refuses it
      pub block_rest : {n : ℕ} → forget (inner (room - 1)) ≡ done n → (n ≡ h.end → ⊥) → forget (read_block room s e lo hi at end) ≡ refused (unread 2 at)
      block_rest g x = opened room l ∙ last_rest at h.kind h.end (inner (room - 1)) g x

-- all that a block needs behind its header
pub ruleset steps = (block_no, block_full, block_stop, block_ok, block_rest)

-- ---- a name of question 6 is the first part of its block

-- whether a part is no such name
abbrev is_other : Part → Bool
is_other p = not (eqb (code_of p) 2)

-- the row that is found among rows that pass a test does
row_passed : (f : List Part → Bool) → f [] ≡ true → (k : ℕ) (rs : List Row) → each (λ r. f r.parts) rs ≡ true → f (find_row k rs) ≡ true
unfolding find_row
row_passed f e k [] t = e
row_passed f e k (r ∷ rs) t = go (within r.lo r.hi k) (row_passed f e k rs (and_right (f r.parts) _ t))
  where
    go : (b : Bool) → f (find_row k rs) ≡ true → f (cond b r.parts (find_row k rs)) ≡ true
    go true h = and_left _ _ t
    go false h = h

-- behind the first part of a kind no such name stands
others_behind : (k : ℕ) → each is_other (drop 1 (parts_of k)) ≡ true
unfolding parts_of grammar node_table
others_behind k = go (within 128 144 k)
  where
    go : (b : Bool) → each is_other (drop 1 (cond b (metadata ++ get_or node_table (k - 128) []) (find_row k grammar))) ≡ true
    go true = passed (λ ps. each is_other (drop 1 (metadata ++ ps))) node_table (k - 128) [] refl refl
    go false = row_passed (λ ps. each is_other (drop 1 ps)) refl k grammar refl

-- parts of which only the first, if it stands where P says, may be such a name
abbrev Keys : (ℕ → Type 0) → List Part → ℕ → Type 0
Keys P ps here = (P here × (each is_other (drop 1 ps) ≡ true)) ⊎ (each is_other ps ≡ true)

module _ (P : ℕ → Type 0) (p : Part) (ps : List Part) {here : ℕ} where
  -- the first of them is one only where P holds
  keys_first : Keys P (p ∷ ps) here → p ≡ Key → P here
  keys_first (inl h) e = h.0
  keys_first (inr h) e = let z : is_other p ≡ false = rw e in absurd (false_true (sym z ∙ and_left _ _ h))

  -- the others are none
  keys_rest : {next : ℕ} → Keys P (p ∷ ps) here → Keys P ps next
  keys_rest (inl h) = inr h.1
  keys_rest (inr h) = inr (and_right (is_other p) _ h)

-- ---- the parts of a kind, from its row

-- All parts of a block read as those of the digits that are left, from here on. A name of question 6 is left only where P holds.
pub record Left (P : ℕ → Type 0) (rb : Reader) (s : List ℕ) (e : Earlier) (start end kind at row here : ℕ) : Type 0 where
  pub parts : List Part
  pub digits : Digits row parts
  pub keys : Keys P parts here
  pub same : forget (read_parts rb s e start end (parts_of kind) at) ≡ forget (read_parts rb s e start end parts here)

module _ (P : ℕ → Type 0) (rb : Reader) (s : List ℕ) (e : Earlier) (start end kind at : ℕ) where
  -- at first all digits of the kind's row are left
  pub all_left : {row : ℕ} → P at → row ≡ row_of (parts_of kind) → Left P rb s e start end kind at row at
  all_left p h = record { parts = parts_of kind; digits = begins kind h; keys = inl (p, others_behind kind); same = refl }

  module _ {row here : ℕ} (l : Left P rb s e start end kind at row here) where
    -- none is left: the block ends here
    pub none_left : row ≡ 0 → forget (read_parts rb s e start end (parts_of kind) at) ≡ done here
    none_left h = l.same ∙ parts_none rb s e start end here (no_digit row l.parts l.digits h)

    module _ (h : row ≡ 0 → ⊥) where
      -- the part of the first is refused, and so is the block
      pub left_stop : {r : Refusal} → forget (read_part rb s e start end (part_of (row % 32)) here) ≡ refused r → forget (read_parts rb s e start end (parts_of kind) at) ≡ refused r
      left_stop d = let w = digit row l.parts l.digits h in l.same ∙ parts_stop rb s e start end w.1 here d

      -- it is a name of question 6 only where P holds
      pub left_key : part_of (row % 32) ≡ Key → P here
      left_key d = let w = digit row l.parts l.digits h in keys_first P (part_of (row % 32)) w.0 (rw w.1 at l.keys) d

      -- it is read: the others are left
      pub left_go : {m : ℕ} → forget (read_part rb s e start end (part_of (row % 32)) here) ≡ done m → Left P rb s e start end kind at (row / 32) m
      left_go d =
          let w = digit row l.parts l.digits h in
          record {
            parts = w.0;
            digits = w.2;
            keys = keys_rest P (part_of (row % 32)) w.0 (rw w.1 at l.keys);
            same = l.same ∙ parts_go rb s e start end w.1 here d;
          }

-- all that the parts of a block need, one after the other
pub ruleset rows = (all_left, none_left, left_stop, left_key, left_go)
