-- A tree within the limits has the grammar's shape, and each of its numbers is held by its bytes.
use mathlib.Core.Path.{◌≡◌, refl, ap, ap₂}
use mathlib.Core.Bool.{Bool, true, false, cond}
use mathlib.Core.List.{List, [], ◌∷◌}
use Prim.Native.Nat.{ℕ, zero, suc, ◌-◌}
use native.Mathlib.Nat.{mod-eq_of_lt}
use lib.Dec.{eqb}
use Rattle.blocks.specs.declared.Part.{Part}
use Rattle.blocks.specs.declared.Part.TheVariants.{Text, Key, Number, Flag, Size, OptNumber, OptText, Literal, Block, OptBlock, Blocks, Ascending, Distinct, Names, Paths, Values}
use Rattle.blocks.specs.Grammar.{parts_of}
use Rattle.blocks.specs.Tree.{Tree, num, block, cons}
use Rattle.blocks.specs.Read.{Earlier, paths_before, met}
use Rattle.roundtrip.specs.Fits.{Limits, Nothing, nothing, Both, both, TextFits, text, KeyFits, NumberFits, held, UpTo, IfFits, there, absent, OptionalFits, EntriesFits, ListFits, InBlocks, PartFits, PartsFits, inside, BlockFits}
use Rattle.roundtrip.specs.Shape.{Form, form_of, forms_of, times, Shaped, BlockShaped, cut}

-- what is within P has the form F, and nothing of it is cut
abbrev Has : Limits → Form → Type 0
Has P F = (t : Tree) → P t → Shaped F t × (cut t ≡ t)

-- no part: nothing to be shaped
none_has : Has Nothing Form.nothing
unfolding cut
none_has t nothing = (Shaped.nothing, refl)

-- one part, then others
both_has : {P : Limits} {Q : Tree → Limits} {F G : Form} → Has P F → ((a : Tree) → Has (Q a) G) → Has (Both P Q) (Form.both F G)
unfolding cut
both_has hp hq t (both {a} {b} p q) = (Shaped.both (hp a p).0 (hq a b q).0, ap₂ cons (hp a p).1 (hq a b q).1)

-- a text
text_has : Has TextFits Form.text
unfolding cut
text_has t (text q) = (Shaped.text, refl)

-- a number of w bytes, which hold it
number_has : (w : ℕ) → Has (NumberFits w) (Form.number w)
unfolding cut
number_has w t (held f) = (Shaped.number, ap (num w) (mod-eq_of_lt f))

-- one more question
key_has : (e : Earlier) → Has (KeyFits e) Form.text
key_has e t p = text_has t p.0

-- a number with a limit
upto_has : (w limit : ℕ) → Has (UpTo w limit) (Form.number w)
upto_has w limit t p = number_has w t p.0

-- what a flag announces
if_has : {P : Limits} {F : Form} → Has P F → (b : Bool) → Has (IfFits P b) (cond b F Form.nothing)
unfolding cut
if_has h true t (there p) = h t p
if_has h false t absent = (Shaped.nothing, refl)

-- a flag and what it announces
optional_has : {P : Limits} {F : Form} → Has P F → (on : ℕ) → Has (OptionalFits P on) (Form.optional F on)
unfolding cut
optional_has h on t (both {b} (held {v} f, q) p) = let r = if_has h (eqb v on) b p in (Shaped.optional f r.0, ap₂ cons (ap (num 1) (mod-eq_of_lt f)) r.1)

-- n entries
entries_has : {P : Earlier → Limits} {F : Form} → ((e : Earlier) → Has (P e) F) → (n : ℕ) (e : Earlier) → Has (EntriesFits P e n) (times n F)
unfolding EntriesFits times
entries_has h zero e = none_has
entries_has h (suc n) e = both_has (h e) (λ a. entries_has h n (met e a))

-- a count and its entries
list_has : {P : Earlier → Limits} {F : Form} → ((e : Earlier) → Has (P e) F) → (o : Earlier) (limit : ℕ) → Has (ListFits P o limit) (Form.list F)
unfolding cut
list_has h o limit t (both {b} (held {v} f, q) p) = let r = entries_has h v o b p in (Shaped.list r.0, ap₂ cons (ap (num 2) (mod-eq_of_lt f)) r.1)

-- any part of the grammar
part_has : {B : InBlocks} → ((e : Earlier) (lo hi : ℕ) → Has (B e lo hi) Form.block) → (p : Part) (e : Earlier) → Has (PartFits B e p) (form_of p)
unfolding PartFits form_of
part_has m Text e = text_has
part_has m Key e = key_has e
part_has m Number e = number_has 8
part_has m Flag e = upto_has 1 1
part_has m Size e = optional_has (number_has 8) 0
part_has m OptNumber e = optional_has (number_has 8) 1
part_has m OptText e = optional_has text_has 1
part_has m Literal e = both_has (upto_has 1 7) (λ a t p. number_has 8 t p.0)
part_has m (Block lo hi) e = m Earlier.any lo hi
part_has m (OptBlock lo hi) e = optional_has (m Earlier.any lo hi) 1
part_has m (Blocks lo hi limit) e = list_has (λ f. m f lo hi) Earlier.any limit
part_has m (Ascending lo hi limit) e = list_has (λ f. m f lo hi) (Earlier.ascending [] 0) limit
part_has m (Distinct lo hi limit) e = list_has (λ f. m f lo hi) (Earlier.distinct []) limit
part_has m (Names limit) e = list_has key_has Earlier.any limit
part_has m (Paths limit) e = list_has key_has (Earlier.ascending [] 0) (limit - paths_before e)
part_has m (Values limit) e = list_has (λ f. both_has (key_has f) (λ a. number_has 8)) (Earlier.ascending [] 0) limit

-- all parts of a body
parts_has : {B : InBlocks} → ((e : Earlier) (lo hi : ℕ) → Has (B e lo hi) Form.block) → (ps : List Part) (e : Earlier) → Has (PartsFits B e ps) (forms_of ps)
unfolding PartsFits forms_of
parts_has m [] e = none_has
parts_has m (p ∷ ps) e = both_has (part_has m p e) (λ a. parts_has m ps e)

-- a block within the limits has the grammar's shape, and none of its numbers is cut: so `unique` applies to it
pub limited : (room : ℕ) (e : Earlier) (lo hi : ℕ) (t : Tree) → BlockFits room e lo hi t → BlockShaped t × (cut t ≡ t)
unfolding BlockFits cut
limited zero e lo hi t p = absurd p
limited (suc room) e lo hi t (inside {at} {k} {t = b} w hk hl p) = let r = parts_has (limited room) (parts_of k) e b p in (Shaped.block hk r.0, ap (block at k) r.1)
