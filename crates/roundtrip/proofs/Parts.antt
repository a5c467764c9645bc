-- Every part of the grammar is made of a few readers: what holds of these, each with its limits, holds of every part.
use mathlib.Core.List.{List, []}
use Prim.Native.Nat.{ℕ, ◌-◌}
use Rattle.blocks.specs.declared.Part.{Part}
use Rattle.blocks.specs.declared.Part.TheVariants.{Text, Key, Number, Flag, Size, OptNumber, OptText, Literal, Block, OptBlock, Blocks, Ascending, Distinct, Names, Paths, Values}
use Rattle.blocks.specs.Read.{Step, Earlier, paths_before, Reader, read_text, read_key, read_number, read_flag, read_optional, read_literal, read_list, read_value, read_part}
use Rattle.roundtrip.specs.Fits.{Limits, TextFits, KeyFits, NumberFits, FlagFits, OptionalFits, LiteralFits, ListFits, ValueFits, InBlocks, PartFits}

-- R holds of each of these readers and its limits, in a block from start to end
pub record Readers (R : (ℕ → Step) → Limits → Type 0) (s : List ℕ) (start end : ℕ) : Type 1 where
  pub text : R (read_text s start end) TextFits
  pub key : (e : Earlier) → R (read_key s start end e) (KeyFits e)
  pub number : R (read_number s start end) (NumberFits 8)
  pub flag : R (read_flag s start end) FlagFits
  pub literal : R (read_literal s start end) LiteralFits
  pub value : (e : Earlier) → R (read_value s start end e) (ValueFits e)
  pub optional : {f : ℕ → Step} {P : Limits} → R f P → (on : ℕ) → R (read_optional f on s start end) (OptionalFits P on)
  pub list : {f : Earlier → ℕ → Step} {P : Earlier → Limits} → ((e : Earlier) → R (f e) (P e)) → (o : Earlier) (limit : ℕ) → R (read_list f o limit s start end) (ListFits P o limit)

module _ {R : (ℕ → Step) → Limits → Type 0} {s : List ℕ} {start end : ℕ} (h : Readers R s start end) where
  -- so it holds of every part, if it holds of the blocks inside, which rb reads
  pub each_part : (rb : Reader) {B : InBlocks} → ((e : Earlier) (lo hi : ℕ) → R (λ at. rb e lo hi at end) (B e lo hi)) → (p : Part) (e : Earlier) → R (read_part rb s e start end p) (PartFits B e p)
  unfolding read_part PartFits
  each_part rb m Text e = h.text
  each_part rb m Key e = h.key e
  each_part rb m Number e = h.number
  each_part rb m Flag e = h.flag
  each_part rb m Size e = h.optional h.number 0
  each_part rb m OptNumber e = h.optional h.number 1
  each_part rb m OptText e = h.optional h.text 1
  each_part rb m Literal e = h.literal
  each_part rb m (Block lo hi) e = m Earlier.any lo hi
  each_part rb m (OptBlock lo hi) e = h.optional (m Earlier.any lo hi) 1
  each_part rb m (Blocks lo hi limit) e = h.list (λ f. m f lo hi) Earlier.any limit
  each_part rb m (Ascending lo hi limit) e = h.list (λ f. m f lo hi) (Earlier.ascending [] 0) limit
  each_part rb m (Distinct lo hi limit) e = h.list (λ f. m f lo hi) (Earlier.distinct []) limit
  each_part rb m (Names limit) e = h.list h.key Earlier.any limit
  each_part rb m (Paths limit) e = h.list h.key (Earlier.ascending [] 0) (limit - paths_before e)
  each_part rb m (Values limit) e = h.list h.value (Earlier.ascending [] 0) limit
