-- The section "Old and new layout", the hypothesis on two sets. It is put on the trees of the sets: a tree holds every byte
-- of the block that it was read from, and lengths are those of what is written (crate roundtrip), so "keeps its bytes" is
-- "keeps its tree", offsets apart, and "the [..] lengths around them raised to match" need no clause.
use Rattle.std.specs.Prelude.{ℕ, ◌≡◌, Bool, true, false, ◌||◌, eqb}
use Rattle.blocks.specs.Name.{Name}
use Rattle.blocks.specs.Tree.{Tree, body, text, part, flag}
use Rattle.blocks.specs.Tree.{first as first_part, rest as other_parts}
use Rattle.blocks.specs.Read.{name_of}

-- the size flag of a type is 1, from its parts
abbrev pub variable : Tree → Bool
variable t = flag (first_part (part 1 t))

-- "at any depth, no owner" (37)
unfoldable pub NoOwner : Tree → Type 0
NoOwner (Tree.name n) = Unit
NoOwner (Tree.num w v) = Unit
NoOwner (Tree.block at k t) = (eqb k 37 ≡ false) × NoOwner t
NoOwner Tree.nil = Unit
NoOwner (Tree.cons a b) = NoOwner a × NoOwner b

-- "An added variant's type has flag 0 and in it, at any depth, no owner.": the type is the last part of a block 33 to 35
pub record Added (b : Tree) : Type 0 where
  pub constant : variable (body (part 2 (body b))) ≡ false
  pub ownerless : NoOwner (part 2 (body b))

-- a list's entries, all added
pub data AllAdded : Tree → Type 0 where
  none : AllAdded Tree.nil
  more : {b bs : Tree} → Added b → AllAdded bs → AllAdded (Tree.cons b bs)

-- "in a 3, 4 or 6"
abbrev pub growing : ℕ → Bool
growing k = eqb k 3 || (eqb k 4 || eqb k 6)

mutual
  -- a tree and what it may have become
  pub data Grown : Tree → Tree → Type 0 where
    name : (n : Name) → Grown (Tree.name n) (Tree.name n)
    num : (w v : ℕ) → Grown (Tree.num w v) (Tree.num w v)
    nil : Grown Tree.nil Tree.nil
    cons : {a a' b b' : Tree} → Grown a a' → Grown b b' → Grown (Tree.cons a b) (Tree.cons a' b')
    block : {t t' : Tree} (at at' k : ℕ) → Grown t t' → Grown (Tree.block at k t) (Tree.block at' k t')
    -- "in a 3, 4 or 6 of flag 1 [..] blocks 33, 34 or 35 may be added": to its last part
    grows : {t t' : Tree} (at at' k : ℕ) → growing k ≡ true → variable t ≡ true → GrownLast t t' → Grown (Tree.block at k t) (Tree.block at' k t')

  -- parts of which the last, a list, may have become longer, "with the counts [..] raised to match"
  pub data GrownLast : Tree → Tree → Type 0 where
    last : {es es' : Tree} (n n' : ℕ) → GrownEntries es es' → GrownLast (Tree.cons (Tree.cons (Tree.num 2 n) es) Tree.nil) (Tree.cons (Tree.cons (Tree.num 2 n') es') Tree.nil)
    before : {a a' b b' : Tree} → Grown a a' → GrownLast b b' → GrownLast (Tree.cons a b) (Tree.cons a' b')

  -- "may be added behind the last"
  pub data GrownEntries : Tree → Tree → Type 0 where
    behind : {es : Tree} → AllAdded es → GrownEntries Tree.nil es
    entry : {a a' b b' : Tree} → Grown a a' → GrownEntries b b' → GrownEntries (Tree.cons a b) (Tree.cons a' b')

-- the types of a set: the entries of its list
pub data Entry (b : Tree) : Tree → Type 0 where
  here : {bs : Tree} → Entry b (Tree.cons b bs)
  there : {c bs : Tree} → Entry b bs → Entry b (Tree.cons c bs)

abbrev pub TypeOf : Tree → Tree → Type 0
TypeOf b set = Entry b (other_parts (part 0 (body set)))

-- "A set refers to a type where a type reference or a 66 or 67 holds its name."
pub data Refers (n : Name) : Tree → Type 0 where
  type_reference : {t : Tree} (at : ℕ) → text (part 4 t) ≡ n → Refers n (Tree.block at 7 t)
  sizeof : {t : Tree} (at : ℕ) → text (part 0 t) ≡ n → Refers n (Tree.block at 66 t)
  alignof : {t : Tree} (at : ℕ) → text (part 0 t) ≡ n → Refers n (Tree.block at 67 t)
  inside : {t : Tree} (at k : ℕ) → Refers n t → Refers n (Tree.block at k t)
  first : {a b : Tree} → Refers n a → Refers n (Tree.cons a b)
  rest : {a b : Tree} → Refers n b → Refers n (Tree.cons a b)

pub record Extends (old new : Tree) : Type 0 where
  -- "The new set has each old type under its name, in any order [..]. An old type keeps its bytes, except"
  pub kept : (b : Tree) → TypeOf b old → (b' : Tree) × TypeOf b' new × Grown b b'
  -- "and else types of other names", to which the old set nowhere refers
  pub apart : (b' : Tree) → TypeOf b' new → ((b : Tree) → TypeOf b old → name_of b ≡ name_of b' → ⊥) → Refers (name_of b') old → ⊥
