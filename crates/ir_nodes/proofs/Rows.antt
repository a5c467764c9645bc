-- The parts of a kind and the digits of its row. Assumes nothing.
use mathlib.Core.Path.{◌≡◌, refl, sym, ap, ◌∙◌}
use mathlib.Core.Bool.{Bool, true, false, cond}
use mathlib.Core.List.{List, [], ◌∷◌, ◌++◌, map}
use Prim.Native.Nat.{ℕ, zero, suc, ◌+◌, ◌-◌, ◌*◌, ◌^◌, ◌/◌, ◌%◌, ◌≤◌, ◌<◌}
use native.Mathlib.Nat.{div-one, div-div-eq-div-mul}
use native.Mathlib.Omega.{arith}
use lib.Dec.{eqb}
use lib.ListN.{length, get_or, drop, get_or-map}
use borrow.Author.Tests.{le-leb}
use Rattle.blocks.specs.declared.Part.{Part}
use Rattle.blocks.specs.declared.Part.TheVariants.{Text, Key, Number, Flag, Size, OptNumber, OptText, Literal, Block, OptBlock, Blocks, Ascending, Distinct, Names, Paths, Values}
use Rattle.blocks.specs.Grammar.{within, Row, row, grammar, find_row, parts_of, metadata, node_table}
use Rattle.ir_nodes.specs.Codes.{place, code_of, part_of, again, row_of, code_at, Digits}
use Rattle.ir_nodes.proofs.Table.{entry}

-- ---- a digit

-- a place is at most the number of entries
place_most : (k : ℕ) (js : List ℕ) → place k js ≤ length js
place_most k [] = omega arith
place_most k (j ∷ js) = go (eqb k j) (place_most k js)
  where
    go : (b : Bool) → place k js ≤ length js → cond b 0 (suc (place k js)) ≤ suc (length js)
    go true h = omega arith
    go false h = omega arith

-- a part's code is a digit, and not 0
pub fits : (p : Part) → (0 < code_of p) × (code_of p < 32)
fits Text = (omega arith, omega arith)
fits Key = (omega arith, omega arith)
fits Number = (omega arith, omega arith)
fits Flag = (omega arith, omega arith)
fits Size = (omega arith, omega arith)
fits OptNumber = (omega arith, omega arith)
fits OptText = (omega arith, omega arith)
fits Literal = (omega arith, omega arith)
fits (Block lo hi) = let h = place_most lo (1 ∷ 32 ∷ 64 ∷ 128 ∷ 192 ∷ []) in (omega arith, omega (arith, h))
fits (OptBlock lo hi) = (omega arith, omega arith)
fits (Blocks lo hi limit) = let h = place_most lo (33 ∷ 34 ∷ 35 ∷ 162 ∷ 163 ∷ 164 ∷ []) in (omega arith, omega (arith, h))
fits (Ascending lo hi limit) = (omega arith, omega arith)
fits (Distinct lo hi limit) = let h = place_most lo (1 ∷ 161 ∷ []) in (omega arith, omega (arith, h))
fits (Names limit) = (omega arith, omega arith)
fits (Paths limit) = (omega arith, omega arith)
fits (Values limit) = (omega arith, omega arith)

-- ---- a row

module _ (p : Part) (ps : List Part) where
  -- the first digit is the first part's
  pub row_first : row_of (p ∷ ps) % 32 ≡ code_of p
  unfolding row_of
  row_first = let h = (fits p).1 in omega (arith, h)

  -- the digits behind it are the other parts'
  pub row_rest : row_of (p ∷ ps) / 32 ≡ row_of ps
  unfolding row_of
  row_rest = let h = (fits p).1 in omega (arith, h)

-- i digits less
less : (i c : ℕ) → c / 2 ^ (5 * suc i) ≡ c / 32 / 2 ^ (5 * i)
less i c =
    let f : 5 * suc i ≡ suc (suc (suc (suc (suc (5 * i))))) = omega arith in
    let e : 2 ^ (5 * suc i) ≡ 32 * 2 ^ (5 * i) = rw f (omega arith) in
    rw e (sym (div-div-eq-div-mul c 32 (2 ^ (5 * i))))

-- digit i is the code of part i
digits : (i : ℕ) (ps : List Part) → row_of ps / 2 ^ (5 * i) % 32 ≡ get_or (map code_of ps) i 0
unfolding row_of
digits zero [] = refl
digits zero (p ∷ ps) = rw (div-one (row_of (p ∷ ps))) (row_first p ps)
digits (suc i) [] = rw (less i 0) (digits i [])
digits (suc i) (p ∷ ps) = rw (less i (row_of (p ∷ ps)), row_rest p ps) (digits i ps)

-- ---- every part of the grammar is found again from its digit

-- rows with other parts
abbrev changed : (List Part → List Part) → List Row → List Row
changed f = map (λ r. row r.lo r.hi (f r.parts))

-- the row that is found among them has them
found : (f : List Part → List Part) → f [] ≡ [] → (k : ℕ) (rs : List Row) → find_row k (changed f rs) ≡ f (find_row k rs)
unfolding find_row
found f e k [] = sym e
found f e k (r ∷ rs) = go (within r.lo r.hi k) (found f e k rs)
  where
    go : (b : Bool) → find_row k (changed f rs) ≡ f (find_row k rs) → cond b (f r.parts) (find_row k (changed f rs)) ≡ f (cond b r.parts (find_row k rs))
    go true h = refl
    go false h = h

-- the nodes' parts are those of their digits
nodes : map (map again) node_table ≡ node_table
unfolding node_table part_of
nodes = refl

-- and the other kinds' parts
others : changed (map again) grammar ≡ grammar
unfolding grammar part_of
others = refl

-- so every kind's are
pub known : (k : ℕ) → map again (parts_of k) ≡ parts_of k
unfolding parts_of part_of
known k = go (within 128 144 k)
  where
    node_parts : map again (get_or node_table (k - 128) []) ≡ get_or node_table (k - 128) []
    node_parts = sym (get_or-map (map again) node_table (k - 128) []) ∙ ap (λ (pss : List (List Part)). get_or pss (k - 128) []) nodes

    go : (b : Bool) → map again (cond b (metadata ++ get_or node_table (k - 128) []) (find_row k grammar)) ≡ cond b (metadata ++ get_or node_table (k - 128) []) (find_row k grammar)
    go true = ap (λ (ps : List Part). metadata ++ ps) node_parts
    go false = sym (found (map again) refl k grammar) ∙ ap (find_row k) others

-- ---- a loop along the digits of a row

-- it begins with the parts of a kind
pub begins : (k : ℕ) {c : ℕ} → c ≡ row_of (parts_of k) → Digits c (parts_of k)
begins k e = record { row = e; known = known k }

module _ (c : ℕ) where
  -- a row that is not 0: the part of its first digit, and the parts of the others
  pub digit : (ps : List Part) → Digits c ps → (c ≡ 0 → ⊥) → (qs : List Part) × (ps ≡ part_of (c % 32) ∷ qs) × Digits (c / 32) qs
  unfolding row_of
  digit [] d h = absurd (h d.row)
  digit (p ∷ ps) d h =
      let e : again p ≡ p = ap (λ (qs : List Part). get_or qs 0 p) d.known in
      let f : map again ps ≡ ps = ap (drop 1) d.known in
      (ps, rw (d.row, row_first p ps, e), record { row = rw d.row (row_rest p ps); known = f })

  -- the row 0: no part is left
  pub no_digit : (ps : List Part) → Digits c ps → c ≡ 0 → ps ≡ []
  unfolding row_of
  no_digit [] d h = refl
  no_digit (p ∷ ps) d h = let l = (fits p).0 in absurd (omega (arith, l, d.row, h))

-- ---- the rows of the nodes

-- the table, as the code has it
abbrev table : List ℕ
table = 0 ∷ 3 ∷ 225 ∷ 387 ∷ 14945 ∷ 641 ∷ 396 ∷ 396 ∷ 396 ∷ 396 ∷ 396 ∷ 396 ∷ 396 ∷ 396 ∷ 396 ∷ 396 ∷ 1068 ∷ []

-- the row of a node kind: its metadata, and its entry
pub node_row : (k : ℕ) → 128 ≤ k → k ≤ 144 → 227 + 1024 * get_or table (k - 128) 0 ≡ row_of (parts_of k)
unfolding parts_of node_table row_of
node_row k h g =
    let e : 128 + (k - 128) ≡ k = omega arith in
    let l : k - 128 < 17 = omega arith in
    let t = sym (get_or-map (λ r. 227 + 1024 * r) table (k - 128) 0) ∙ entry 17 (λ j. row_of (parts_of (128 + j))) (k - 128) 227 l in
    rw e at t

-- part i is digit i
pub part_at : (k i : ℕ) {c : ℕ} → c ≡ row_of (parts_of k) → c / 2 ^ (5 * i) % 32 ≡ code_at k i
unfolding code_at
part_at k i e = rw e (digits i (parts_of k))

-- a node begins with its metadata
pub rowed : (k : ℕ) → 128 ≤ k → k ≤ 144 → (ps : List Part) × (parts_of k ≡ metadata ++ ps)
unfolding parts_of
rowed k h g = (get_or node_table (k - 128) [], rw (le-leb 128 k h, le-leb k 144 g))

-- behind it stand the parts of the digits behind its two
pub behind : {k c : ℕ} → 128 ≤ k → k ≤ 144 → c ≡ row_of (parts_of k) → (ps : List Part) × (parts_of k ≡ metadata ++ ps) × Digits (c / 1024) ps
unfolding row_of
behind {k} {c} h g e =
    let w = rowed k h g in
    let f : c ≡ row_of (metadata ++ w.0) = e ∙ ap row_of w.1 in
    (w.0, w.1, record { row = omega (arith, f); known = ap (drop 2) (rw w.1 at (known k)) })

module _ (k i : ℕ) where
  -- its first part is the alignment
  pub part_0 : 128 ≤ k → k ≤ 144 → i ≡ 0 → 3 ≡ code_at k i
  unfolding code_at
  part_0 h g e = let w = rowed k h g in rw (e, w.1)

  -- the second is the size text
  pub part_1 : 128 ≤ k → k ≤ 144 → i ≡ 1 → 7 ≡ code_at k i
  unfolding code_at
  part_1 h g e = let w = rowed k h g in rw (e, w.1)
