-- The shape of a tree: the parts of its kind, front to back, with the grammar's widths, as many entries as a count says,
-- and what a flag announces. Nothing is asked of names, limits, order or values.
use Rattle.std.specs.Prelude.{ℕ, zero, suc, ◌%◌, ◌^◌, ◌<◌, cond, List, [], ◌∷◌, eqb}
use Rattle.blocks.specs.declared.Part.{Part}
use Rattle.blocks.specs.declared.Part.TheVariants.{Text, Key, Number, Flag, Size, OptNumber, OptText, Literal, Block, OptBlock, Blocks, Ascending, Distinct, Names, Paths, Values}
use Rattle.blocks.specs.Name.{Name}
use Rattle.blocks.specs.Grammar.{parts_of}
use Rattle.blocks.specs.Tree.{Tree}

-- what a part is made of: a name or text; a number of so many bytes; a flag and what is there if it is `on`; a count and
-- entries
pub data Form : Type 0 where
  text block nothing : Form
  number : ℕ → Form
  both : Form → Form → Form
  optional : Form → ℕ → Form
  list : Form → Form

unfoldable pub form_of : Part → Form
form_of Text = Form.text
form_of Key = Form.text
form_of Number = Form.number 8
form_of Flag = Form.number 1
form_of Size = Form.optional (Form.number 8) 0
form_of OptNumber = Form.optional (Form.number 8) 1
form_of OptText = Form.optional Form.text 1
form_of Literal = Form.both (Form.number 1) (Form.number 8)
form_of (Block lo hi) = Form.block
form_of (OptBlock lo hi) = Form.optional Form.block 1
form_of (Blocks lo hi limit) = Form.list Form.block
form_of (Ascending lo hi limit) = Form.list Form.block
form_of (Distinct lo hi limit) = Form.list Form.block
form_of (Names limit) = Form.list Form.text
form_of (Paths limit) = Form.list Form.text
form_of (Values limit) = Form.list (Form.both Form.text (Form.number 8))

-- parts, one behind the other
unfoldable pub forms_of : List Part → Form
forms_of [] = Form.nothing
forms_of (p ∷ ps) = Form.both (form_of p) (forms_of ps)

-- n entries, one behind the other
unfoldable pub times : ℕ → Form → Form
times zero f = Form.nothing
times (suc n) f = Form.both f (times n f)

-- A kind is below 65,536 and a flag below 256, since they say what is behind them.
pub data Shaped : Form → Tree → Type 0 where
  text : {n : Name} → Shaped Form.text (Tree.name n)
  number : {w v : ℕ} → Shaped (Form.number w) (Tree.num w v)
  block : {at k : ℕ} {t : Tree} → k < 256 ^ 2 → Shaped (forms_of (parts_of k)) t → Shaped Form.block (Tree.block at k t)
  nothing : Shaped Form.nothing Tree.nil
  both : {f g : Form} {a b : Tree} → Shaped f a → Shaped g b → Shaped (Form.both f g) (Tree.cons a b)
  optional : {f : Form} {on v : ℕ} {t : Tree} → v < 256 → Shaped (cond (eqb v on) f Form.nothing) t → Shaped (Form.optional f on) (Tree.cons (Tree.num 1 v) t)
  list : {f : Form} {n : ℕ} {t : Tree} → Shaped (times n f) t → Shaped (Form.list f) (Tree.cons (Tree.num 2 n) t)

abbrev pub BlockShaped : Tree → Type 0
BlockShaped = Shaped Form.block

-- each number taken modulo what its bytes hold
unfoldable pub cut : Tree → Tree
cut (Tree.name n) = Tree.name n
cut (Tree.num w v) = Tree.num w (v % 256 ^ w)
cut (Tree.block at k t) = Tree.block at k (cut t)
cut Tree.nil = Tree.nil
cut (Tree.cons a b) = Tree.cons (cut a) (cut b)
