-- A part as a digit of base 32, and the parts of a kind as one number, for the constant tables: the grammar has 26 parts.
use Rattle.std.specs.Prelude.{ℕ, suc, ◌+◌, ◌-◌, ◌*◌, ◌≡◌, cond, List, [], ◌∷◌, map, eqb, get_or}
use Rattle.blocks.specs.declared.Part.{Part}
use Rattle.blocks.specs.declared.Part.TheVariants.{Text, Key, Number, Flag, Size, OptNumber, OptText, Literal, Block, OptBlock, Blocks, Ascending, Distinct, Names, Paths, Values}
use Rattle.blocks.specs.Grammar.{type, expression, node, parts_of}

-- how many of these stand before the first that is k
abbrev pub place : ℕ → List ℕ → ℕ
place k [] = 0
place k (j ∷ js) = cond (eqb k j) 0 (suc (place k js))

-- the digit of a part; those that differ in their kinds only stand behind each other
abbrev pub code_of : Part → ℕ
code_of Text = 1
code_of Key = 2
code_of Number = 3
code_of Flag = 4
code_of Size = 5
code_of OptNumber = 6
code_of OptText = 7
code_of Literal = 8
-- a type, references, an expression, a node, values
code_of (Block lo hi) = 9 + place lo (1 ∷ 32 ∷ 64 ∷ 128 ∷ 192 ∷ [])
code_of (OptBlock lo hi) = 14
-- fields, variants, sized variants, parameters, cases, arguments
code_of (Blocks lo hi limit) = 15 + place lo (33 ∷ 34 ∷ 35 ∷ 162 ∷ 163 ∷ 164 ∷ [])
code_of (Ascending lo hi limit) = 21
-- types, type trees
code_of (Distinct lo hi limit) = 22 + place lo (1 ∷ 161 ∷ [])
code_of (Names limit) = 24
code_of (Paths limit) = 25
code_of (Values limit) = 26

-- the parts of the grammar, in the order of their digits
abbrev pub parts : List Part
parts =
    Text ∷ Key ∷ Number ∷ Flag ∷ Size ∷ OptNumber ∷ OptText ∷ Literal ∷
    type ∷ Block 32 32 ∷ expression ∷ node ∷ Block 192 192 ∷
    OptBlock 128 144 ∷
    Blocks 33 33 64 ∷ Blocks 34 34 64 ∷ Blocks 35 35 64 ∷ Blocks 162 162 512 ∷ Blocks 163 163 64 ∷ Blocks 164 164 512 ∷
    Ascending 37 37 64 ∷
    Distinct 1 7 256 ∷ Distinct 161 161 256 ∷
    Names 64 ∷ Paths 64 ∷ Values 512 ∷
    []

-- the part of a digit
unfoldable pub part_of : ℕ → Part
part_of d = get_or parts (d - 1) Text

-- the part that a part's digit stands for: of the grammar's parts, that part
abbrev pub again : Part → Part
again p = part_of (code_of p)

-- parts as one number: a digit for each, the first lowest, and 0 behind the last
unfoldable pub row_of : List Part → ℕ
row_of [] = 0
row_of (p ∷ ps) = code_of p + 32 * row_of ps

-- the digit of the part with this number of a kind, counted from 0; 0 behind the last
unfoldable pub code_at : ℕ → ℕ → ℕ
code_at k i = get_or (map code_of (parts_of k)) i 0

-- the digits of a number are these parts
pub record Digits (c : ℕ) (ps : List Part) : Type 0 where
  pub row : c ≡ row_of ps
  pub known : map again ps ≡ ps
