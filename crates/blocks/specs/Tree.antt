-- The section "Blocks", as trees: what reading gives holds every byte, and each block its offset, since "Offset is the block's start".
-- "`Box` trees become nested blocks read as parts of the slice": and how a tree stands for something.
use Rattle.std.specs.Prelude.{ℕ, zero, suc, Bool, cond, List, [], ◌∷◌, eqb}
use Rattle.std.proofs.Math.Option.{Option, some, none}
use Rattle.blocks.specs.Name.{Name}

-- "A name or a text is a 2-byte length and its bytes"; a number of so many bytes ("A count is 2 bytes, a number 8, a flag one byte"); "a
-- 2-byte kind, a body", with the block's offset; no part; one part, then others. An optional part is its flag, then itself or nothing; "a
-- list stands behind its count".
pub data Tree : Type 0 where
  name : Name → Tree
  num : ℕ → ℕ → Tree
  block : ℕ → ℕ → Tree → Tree
  nil : Tree
  cons : Tree → Tree → Tree

-- The parts of a tree; where it has another shape, an empty one. Reading gives each kind the shape of its row in the grammar, so that no
-- empty part is met where a kind is read by its own row.
abbrev pub first : Tree → Tree
first (name n) = nil
first (num w v) = nil
first (block at k t) = nil
first nil = nil
first (cons a b) = a

abbrev pub rest : Tree → Tree
rest (name n) = nil
rest (num w v) = nil
rest (block at k t) = nil
rest nil = nil
rest (cons a b) = b

abbrev pub body : Tree → Tree
body (name n) = nil
body (num w v) = nil
body (block at k t) = t
body nil = nil
body (cons a b) = nil

abbrev pub kind : Tree → ℕ
kind (name n) = 0
kind (num w v) = 0
kind (block at k t) = k
kind nil = 0
kind (cons a b) = 0

abbrev pub offset : Tree → ℕ
offset (name n) = 0
offset (num w v) = 0
offset (block at k t) = at
offset nil = 0
offset (cons a b) = 0

abbrev pub number : Tree → ℕ
number (name n) = 0
number (num w v) = v
number (block at k t) = 0
number nil = 0
number (cons a b) = 0

abbrev pub text : Tree → Name
text (name n) = n
text (num w v) = []
text (block at k t) = []
text nil = []
text (cons a b) = []

-- the part with this number, counted from 0
unfoldable pub part : ℕ → Tree → Tree
part zero t = first t
part (suc i) t = part i (rest t)

-- a flag
abbrev pub flag : Tree → Bool
flag t = eqb (number t) 1

-- "flag with offset or without", "flag with size text or without": what an optional part's flag announces
abbrev pub optional : {A : Type 0} → (Tree → A) → Tree → Option A
optional f t = cond (flag (first t)) (some (f (rest t))) none

-- "a list stands behind its count": its entries
unfoldable pub entries : {A : Type 0} → (Tree → A) → Tree → List A
entries f (name n) = []
entries f (num w v) = []
entries f (block at k t) = []
entries f nil = []
entries f (cons a b) = f a ∷ entries f b

abbrev pub listed : {A : Type 0} → (Tree → A) → Tree → List A
listed f t = entries f (rest t)

-- What the blocks of a tree stand for: the tree, with each block replaced by that.
pub data View (A : Type 0) : Type 0 where
  other : View A
  item : A → View A
  pair : View A → View A → View A

-- Blocks from the inside out: `make` says what a block stands for, given what its inner blocks stand for.
unfoldable pub view : {A : Type 0} → (Tree → View A → A) → Tree → View A
view make (name n) = other
view make (num w v) = other
view make (block at k t) = item (make (block at k t) (view make t))
view make nil = other
view make (cons a b) = pair (view make a) (view make b)

abbrev pub first_view : {A : Type 0} → View A → View A
first_view other = other
first_view (item a) = other
first_view (pair a b) = a

abbrev pub rest_view : {A : Type 0} → View A → View A
rest_view other = other
rest_view (item a) = other
rest_view (pair a b) = b

-- what a block stands for; d where there is no block
abbrev pub item_or : {A : Type 0} → A → View A → A
item_or d other = d
item_or d (item a) = a
item_or d (pair a b) = d

-- what the part with this number stands for
unfoldable pub part_or : {A : Type 0} → A → ℕ → View A → A
part_or d zero v = item_or d (first_view v)
part_or d (suc i) v = part_or d i (rest_view v)

-- the part with this number
unfoldable pub part_view : {A : Type 0} → ℕ → View A → View A
part_view zero v = first_view v
part_view (suc i) v = part_view i (rest_view v)
