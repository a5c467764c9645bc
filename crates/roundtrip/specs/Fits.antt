-- A tree within the limits: what the questions 2 to 6 ask, said of a tree. Definition by definition as in Read, in its
-- order; nothing here looks at the bytes of an input or at offsets.
use Rattle.std.specs.Prelude.{ℕ, zero, suc, ◌+◌, ◌-◌, ◌^◌, ◌<◌, ◌≤◌, ◌≡◌, Bool, true, false, List, [], ◌∷◌, eqb, length}
use Rattle.blocks.specs.declared.Part.{Part}
use Rattle.blocks.specs.declared.Part.TheVariants.{Text, Key, Number, Flag, Size, OptNumber, OptText, Literal, Block, OptBlock, Blocks, Ascending, Distinct, Names, Paths, Values}
use Rattle.blocks.specs.Name.{Name, is_text}
use Rattle.blocks.specs.Grammar.{parts_of, within}
use Rattle.blocks.specs.Tree.{Tree, name, num, block, nil, cons, number}
use Rattle.blocks.specs.Read.{Earlier, paths_before, in_order, name_of, met, in_type}
use Rattle.blocks.specs.Write.{write}

-- what is asked of a tree
abbrev pub Limits : Type 1
Limits = Tree → Type 0

-- no part
pub data Nothing : Tree → Type 0 where
  nothing : Nothing nil

-- one part, then others; what is asked of these may depend on the first
pub data Both (P : Limits) (Q : Tree → Limits) : Tree → Type 0 where
  both : {a b : Tree} → P a → Q a b → Both P Q (cons a b)

-- 3: "valid UTF-8 (RFC 3629), without bytes below 0x20 and without 0x7F; the limit of 255 bytes is unchanged"
pub data TextFits : Tree → Type 0 where
  text : {n : Name} → is_text n ≡ true → TextFits (name n)

-- 6: "are names ascending where asked, and the names of a set's or layout's own types [..] distinct?"
abbrev pub KeyFits : Earlier → Limits
KeyFits e t = TextFits t × (in_order e (name_of t) ≡ true)

-- a number of w bytes
pub data NumberFits (w : ℕ) : Tree → Type 0 where
  held : {v : ℕ} → v < 256 ^ w → NumberFits w (num w v)

-- such a number, up to a limit
abbrev pub UpTo : ℕ → ℕ → Limits
UpTo w limit t = NumberFits w t × (number t ≤ limit)

-- 5: "is each flag 0 or 1"
abbrev pub FlagFits : Limits
FlagFits = UpTo 1 1

-- what a flag announces, if it does
pub data IfFits (P : Limits) : Bool → Tree → Type 0 where
  there : {t : Tree} → P t → IfFits P true t
  absent : IfFits P false nil

-- a flag, and behind it what is there if the flag is `on`
abbrev pub OptionalFits : Limits → ℕ → Limits
OptionalFits P on = Both FlagFits (λ f. IfFits P (eqb (number f) on))

-- 5: "and each literal code and value inside its type"
abbrev pub LiteralFits : Limits
LiteralFits = Both (UpTo 1 7) (λ c t. NumberFits 8 t × (in_type (number c) (number t) ≡ true))

-- 4: "at most 256 types, 512 values, [..] 64 of anything else counted"
abbrev pub CountFits : ℕ → Limits
CountFits limit = UpTo 2 limit

-- n entries, one behind the other
unfoldable pub EntriesFits : (Earlier → Limits) → Earlier → ℕ → Limits
EntriesFits P e zero = Nothing
EntriesFits P e (suc n) = Both (P e) (λ x. EntriesFits P (met e x) n)

-- a count, and as many entries
abbrev pub ListFits : (Earlier → Limits) → Earlier → ℕ → Limits
ListFits P o limit = Both (CountFits limit) (λ n. EntriesFits P o (number n))

-- "then name and number each"
abbrev pub ValueFits : Earlier → Limits
ValueFits e = Both (KeyFits e) (λ x. NumberFits 8)

-- what is asked of a block: the entries before it, lo, hi
abbrev pub InBlocks : Type 1
InBlocks = Earlier → ℕ → ℕ → Limits

-- one part of a block, e the entries before the block
unfoldable pub PartFits : InBlocks → Earlier → Part → Limits
PartFits B e Text = TextFits
PartFits B e Key = KeyFits e
PartFits B e Number = NumberFits 8
PartFits B e Flag = FlagFits
PartFits B e Size = OptionalFits (NumberFits 8) 0
PartFits B e OptNumber = OptionalFits (NumberFits 8) 1
PartFits B e OptText = OptionalFits TextFits 1
PartFits B e Literal = LiteralFits
PartFits B e (Block lo hi) = B Earlier.any lo hi
PartFits B e (OptBlock lo hi) = OptionalFits (B Earlier.any lo hi) 1
PartFits B e (Blocks lo hi limit) = ListFits (λ f. B f lo hi) Earlier.any limit
PartFits B e (Ascending lo hi limit) = ListFits (λ f. B f lo hi) (Earlier.ascending [] 0) limit
PartFits B e (Distinct lo hi limit) = ListFits (λ f. B f lo hi) (Earlier.distinct []) limit
PartFits B e (Names limit) = ListFits KeyFits Earlier.any limit
PartFits B e (Paths limit) = ListFits KeyFits (Earlier.ascending [] 0) (limit - paths_before e)
PartFits B e (Values limit) = ListFits ValueFits (Earlier.ascending [] 0) limit

-- all parts, and nothing behind them; 2: "is its body used up exactly?"
unfoldable pub PartsFits : InBlocks → Earlier → List Part → Limits
PartsFits B e [] = Nothing
PartsFits B e (p ∷ ps) = Both (PartFits B e p) (λ x. PartsFits B e ps)

-- 2: "with a kind that may stand here"; the kind is a number of 2 bytes, the length one of 4
pub data Inside (P : ℕ → Limits) (lo hi : ℕ) : Tree → Type 0 where
  inside : {at k : ℕ} {t : Tree} → within lo hi k ≡ true → k < 256 ^ 2 → 2 + length (write t) < 256 ^ 4 → P k t → Inside P lo hi (block at k t)

-- 4: "32 blocks open together in a type set, 256 in a layout": room is how many more may be open
unfoldable pub BlockFits : ℕ → InBlocks
BlockFits zero e lo hi t = ⊥
BlockFits (suc room) e lo hi t = Inside (λ k. PartsFits (BlockFits room) e (parts_of k)) lo hi t
