-- A refusal of reading gives no type's place and no value: its number and its offset say all.
use mathlib.Core.Bool.{Bool, true, false}
use mathlib.Core.List.{List, [], ◌∷◌}
use Prim.Native.Nat.{ℕ, zero, suc, ◌+◌, ◌-◌}
use Rattle.errors.specs.Refusal.{Outcome, done, refused, ◌>>=◌, ask, unread}
use Rattle.blocks.specs.declared.Part.{Part}
use Rattle.blocks.specs.declared.Part.TheVariants.{Text, Key, Number, Flag, Size, OptNumber, OptText, Literal, Block, OptBlock, Blocks, Ascending, Distinct, Names, Paths, Values}
use Rattle.blocks.specs.Grammar.{parts_of}
use Rattle.blocks.specs.Tree.{number}
use Rattle.blocks.specs.Read.{Step, Earlier, Reader, met, paths_before, read_text, read_key, read_number, read_flag, read_if, read_optional, read_literal, read_count, read_entries, read_list, read_value, read_part, read_parts, read_header, read_block, read_input}

-- an outcome of reading: a value, or a refusal that is made of a number and an offset alone
pub data Unread {A : Type 0} : Outcome A → Type 0 where
  given : (a : A) → Unread (done a)
  at_offset : (q o : ℕ) → Unread (refused (unread q o))

module _ {A B : Type 0} where
  -- a chain of two steps that are such outcomes is one
  both : {o : Outcome A} {k : A → Outcome B} → Unread o → ((a : A) → Unread (k a)) → Unread (o >>= k)
  unfolding ◌>>=◌
  both (Unread.given a) g = g a
  both (Unread.at_offset q o) g = Unread.at_offset q o

-- a question of reading is one
asks : (b : Bool) (q o : ℕ) → Unread (ask b (unread q o))
unfolding ask
asks true q o = Unread.given tt
asks false q o = Unread.at_offset q o

module _ (s : List ℕ) (start end : ℕ) where
  -- so is each part: a text
  text_unread : (at : ℕ) → Unread (read_text s start end at)
  unfolding read_text
  text_unread at = both (asks _ 2 start) (λ u. both (asks _ 2 start) (λ v. both (asks _ 3 start) (λ w. Unread.given _)))

  -- a name in its order
  key_unread : (e : Earlier) (at : ℕ) → Unread (read_key s start end e at)
  unfolding read_key
  key_unread e at = both (text_unread at) (λ x. both (asks _ 6 start) (λ u. Unread.given x))

  -- a number of eight bytes
  number_unread : (at : ℕ) → Unread (read_number s start end at)
  unfolding read_number
  number_unread at = both (asks _ 2 start) (λ u. Unread.given _)

  -- a flag
  flag_unread : (at : ℕ) → Unread (read_flag s start end at)
  unfolding read_flag
  flag_unread at = both (asks _ 2 start) (λ u. both (asks _ 5 start) (λ v. Unread.given _))

  -- a part that is read only where a flag says so
  if_unread : (b : Bool) {f : ℕ → Step} → ((at : ℕ) → Unread (f at)) → (at : ℕ) → Unread (read_if b f at)
  unfolding read_if
  if_unread true g at = g at
  if_unread false g at = Unread.given _

  -- a flag and such a part
  optional_unread : {f : ℕ → Step} → ((at : ℕ) → Unread (f at)) → (on at : ℕ) → Unread (read_optional f on s start end at)
  unfolding read_optional
  optional_unread g on at = both (flag_unread at) (λ x. both (if_unread _ g x.1) (λ y. Unread.given _))

  -- a literal
  literal_unread : (at : ℕ) → Unread (read_literal s start end at)
  unfolding read_literal
  literal_unread at = both (asks _ 2 start) (λ u. both (asks _ 5 start) (λ v. both (number_unread (at + 1)) (λ x. both (asks _ 5 start) (λ w. Unread.given _))))

  -- the count of a list
  count_unread : (limit at : ℕ) → Unread (read_count limit s start end at)
  unfolding read_count
  count_unread limit at = both (asks _ 2 start) (λ u. both (asks _ 4 start) (λ v. Unread.given _))

  -- the entries of a list, of whatever kind they are
  entries_unread : {f : Earlier → ℕ → Step} → ((e : Earlier) (at : ℕ) → Unread (f e at)) → (e : Earlier) (n at : ℕ) → Unread (read_entries f e n at)
  unfolding read_entries
  entries_unread g e zero at = Unread.given _
  entries_unread g e (suc n) at = both (g e at) (λ x. both (entries_unread g (met e x.0) n x.1) (λ y. Unread.given _))

  -- a whole list
  list_unread : {f : Earlier → ℕ → Step} → ((e : Earlier) (at : ℕ) → Unread (f e at)) → (e : Earlier) (limit at : ℕ) → Unread (read_list f e limit s start end at)
  unfolding read_list
  list_unread g e limit at = both (count_unread limit at) (λ n. both (entries_unread g e (number n.0) n.1) (λ x. Unread.given _))

  -- a value: its name and its number
  value_unread : (e : Earlier) (at : ℕ) → Unread (read_value s start end e at)
  unfolding read_value
  value_unread e at = both (key_unread e at) (λ x. both (number_unread x.1) (λ y. Unread.given _))

  module _ (rb : Reader) (g : (e : Earlier) (lo hi at end : ℕ) → Unread (rb e lo hi at end)) (e : Earlier) where
    -- any part of the grammar, if the blocks inside are such outcomes
    part_unread : (p : Part) (at : ℕ) → Unread (read_part rb s e start end p at)
    unfolding read_part
    part_unread Text at = text_unread at
    part_unread Key at = key_unread e at
    part_unread Number at = number_unread at
    part_unread Flag at = flag_unread at
    part_unread Size at = optional_unread number_unread 0 at
    part_unread OptNumber at = optional_unread number_unread 1 at
    part_unread OptText at = optional_unread text_unread 1 at
    part_unread Literal at = literal_unread at
    part_unread (Block lo hi) at = g Earlier.any lo hi at end
    part_unread (OptBlock lo hi) at = optional_unread (λ a. g Earlier.any lo hi a end) 1 at
    part_unread (Blocks lo hi limit) at = list_unread (λ f a. g f lo hi a end) Earlier.any limit at
    part_unread (Ascending lo hi limit) at = list_unread (λ f a. g f lo hi a end) (Earlier.ascending [] 0) limit at
    part_unread (Distinct lo hi limit) at = list_unread (λ f a. g f lo hi a end) (Earlier.distinct []) limit at
    part_unread (Names limit) at = list_unread key_unread Earlier.any limit at
    part_unread (Paths limit) at = list_unread key_unread (Earlier.ascending [] 0) (limit - paths_before e) at
    part_unread (Values limit) at = list_unread value_unread (Earlier.ascending [] 0) limit at

    -- all parts of a block's body
    parts_unread : (ps : List Part) (at : ℕ) → Unread (read_parts rb s e start end ps at)
    unfolding read_parts
    parts_unread [] at = Unread.given _
    parts_unread (p ∷ ps) at = both (part_unread p at) (λ x. both (parts_unread ps x.1) (λ y. Unread.given _))

-- a block's header
header_unread : (s : List ℕ) (lo hi at end : ℕ) → Unread (read_header s lo hi at end)
unfolding read_header
header_unread s lo hi at end = both (asks _ 2 at) (λ u. both (asks _ 2 at) (λ v. both (asks _ 2 at) (λ w. both (asks _ 2 at) (λ x. Unread.given _))))

-- a block, with any number of blocks open
block_unread : (room : ℕ) (s : List ℕ) (e : Earlier) (lo hi at end : ℕ) → Unread (read_block room s e lo hi at end)
unfolding read_block
block_unread zero s e lo hi at end = both (header_unread s lo hi at end) (λ h. Unread.at_offset 4 at)
block_unread (suc room) s e lo hi at end =
    both (header_unread s lo hi at end)
    (λ h. both (parts_unread s at h.1 (read_block room s) (block_unread room s) e (parts_of h.0) (at + 6)) (λ x. both (asks _ 2 at) (λ u. Unread.given _)))

-- a whole input: so the answer of a call that reads is known by its number and its offset
pub input_unread : (room k : ℕ) (s : List ℕ) → Unread (read_input room k s)
unfolding read_input
input_unread room k s = both (block_unread room s Earlier.any k k 0 _) (λ x. both (asks _ 2 0) (λ u. Unread.given _))
