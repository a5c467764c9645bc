-- The section "Blocks": the parts of each kind of block, front to back.
use Rattle.std.specs.Prelude.{ℕ, ◌-◌, Bool, ◌&&◌, cond, List, [], ◌∷◌, ◌++◌, leb, get_or}
use Rattle.blocks.specs.declared.Part.{Part}
use Rattle.blocks.specs.declared.Part.TheVariants.{Text, Key, Number, Flag, Size, OptNumber, OptText, Literal, Block, OptBlock, Blocks, Ascending, Distinct, Names, Paths, Values}

abbrev pub within : ℕ → ℕ → ℕ → Bool
within lo hi k = leb lo k && leb k hi

abbrev pub type : Part
type = Block 1 7

abbrev pub expression : Part
expression = Block 64 91

abbrev pub node : Part
node = Block 128 144

-- "Types [..] begin with: name; flag 0 and a constant size, or flag 1 for variable; alignment; references."
abbrev pub head : List Part
head = Key ∷ Size ∷ Number ∷ Block 32 32 ∷ []

-- the kinds lo to hi have these parts
pub record Row : Type 0 where
  pub lo : ℕ
  pub hi : ℕ
  pub parts : List Part

abbrev pub row : ℕ → ℕ → List Part → Row
row lo hi ps = record { lo = lo; hi = hi; parts = ps }

-- The limits are question 4's: "256 types, 512 values, parameters, arguments or case parameters, 64 of anything else
-- counted".
unfoldable pub grammar : List Row
grammar =
    -- primitive
    row 1 1 head ∷
    -- struct, union: "count, fields"
    row 2 3 (head ++ (Blocks 33 33 64 ∷ [])) ∷
    -- enum: "tag expression, count, variants"
    row 4 4 (head ++ (expression ∷ Blocks 34 34 64 ∷ [])) ∷
    -- array: "jagged flag, element type, size expression"
    row 5 5 (head ++ (Flag ∷ type ∷ expression ∷ [])) ∷
    -- size-discriminated union: "count, variants"
    row 6 6 (head ++ (Blocks 35 35 64 ∷ [])) ∷
    -- type reference: "target name"
    row 7 7 (head ++ (Text ∷ [])) ∷
    -- references: "count, owners"; "Owners ascend strictly in byte order"
    row 32 32 (Ascending 37 37 64 ∷ []) ∷
    -- field: "name, flag with offset or without, type"
    row 33 33 (Text ∷ OptNumber ∷ type ∷ []) ∷
    -- enum variant: "name, tag, type"; sized variant: "name, expected size, type"
    row 34 35 (Text ∷ Number ∷ type ∷ []) ∷
    -- type set: "count, types", their names distinct
    row 36 36 (Distinct 1 7 256 ∷ []) ∷
    -- owner: "name, count, path names"; "and so do paths"; "64 paths in one references block"
    row 37 37 (Key ∷ Paths 64 ∷ []) ∷
    -- "64: code 0 to 7 in `LiteralExpr` order, number"
    row 64 64 (Literal ∷ []) ∷
    -- "65: count, segment names"
    row 65 65 (Names 64 ∷ []) ∷
    -- "66, 67: a name"
    row 66 67 (Text ∷ []) ∷
    -- "79 to 82: one expression. Others: two."
    row 68 78 (expression ∷ expression ∷ []) ∷
    row 79 82 (expression ∷ []) ∷
    row 83 91 (expression ∷ expression ∷ []) ∷
    -- layout: "count, 161 type trees", their names distinct
    row 160 160 (Distinct 161 161 256 ∷ []) ∷
    -- type tree: "name, alignment, root, count, parameters"
    row 161 161 (Key ∷ Number ∷ node ∷ Blocks 162 162 512 ∷ []) ∷
    -- parameter: "name, flag with description, derived flag"
    row 162 162 (Text ∷ OptText ∷ Flag ∷ []) ∷
    -- case: "tag value, node, count, parameters"
    row 163 163 (Number ∷ node ∷ Blocks 162 162 512 ∷ []) ∷
    -- argument: "name, value name"
    row 164 164 (Text ∷ Text ∷ []) ∷
    -- values: "count, then name and number each, names strictly ascending"
    row 192 192 (Values 512 ∷ []) ∷
    -- run: "type name, buffer length, a block 192"
    row 193 193 (Text ∷ Number ∷ Block 192 192 ∷ []) ∷
    []

-- "Each begins with its metadata: alignment, flag with size text or without."
abbrev pub metadata : List Part
metadata = Number ∷ OptText ∷ []

abbrev pub two : List Part
two = node ∷ node ∷ []

-- "a table of the seventeen node kinds gives each its parts": row k less 128, the parts behind the metadata, "in ir.rs
-- order, optional ones behind a flag"
unfoldable pub node_table : List (List Part)
node_table =
    -- ZeroSize
    [] ∷
    -- Const: value
    (Number ∷ []) ∷
    -- FieldRef: path, parameter
    (Text ∷ OptText ∷ []) ∷
    -- AlignUp: alignment, node
    (Number ∷ node ∷ []) ∷
    -- Switch: tag, cases, default
    (Text ∷ Blocks 163 163 64 ∷ OptBlock 128 144 ∷ []) ∷
    -- CallNested: type_name, arguments
    (Text ∷ Blocks 164 164 512 ∷ []) ∷
    -- AddChecked, SubChecked, MulChecked, DivChecked, ModChecked: left, right
    two ∷ two ∷ two ∷ two ∷ two ∷
    -- BitAnd, BitOr, BitXor, LeftShift, RightShift: left, right
    two ∷ two ∷ two ∷ two ∷ two ∷
    -- SumOverArray: count, element_type_name, field_name
    (node ∷ Text ∷ Text ∷ []) ∷
    []

unfoldable pub find_row : ℕ → List Row → List Part
find_row k [] = []
find_row k (r ∷ rs) = cond (within r.lo r.hi k) r.parts (find_row k rs)

-- the parts of a kind
unfoldable pub parts_of : ℕ → List Part
parts_of k = cond (within 128 144 k) (metadata ++ get_or node_table (k - 128) []) (find_row k grammar)
