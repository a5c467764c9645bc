-- expr.rs, as data: `ExprKind`, `LiteralExpr`. "No evaluation of expressions."
use Rattle.std.specs.Prelude.{ℕ, ◌^◌, cond, List, [], ◌∷◌, ltb, eqb, get_or}
use Rattle.std.proofs.Math.Option.{Option, some, none}
use Rattle.blocks.specs.Name.{Name}
use Rattle.blocks.specs.Grammar.{within}
use Rattle.blocks.specs.Tree.{Tree, View, first, rest, body, kind, number, text, part, listed, view, item_or, part_or}

-- "code 0 to 7 in `LiteralExpr` order, number (two's complement if signed)": the number over 8 bytes
pub data LiteralExpr : Type 0 where
  U64 U32 U16 U8 I64 I32 I16 I8 : ℕ → LiteralExpr

-- A kind of two operands, and one of one operand, are told by their number: "64 plus the place in `ExprKind`".
pub data ExprKind : Type 0 where
  Literal : LiteralExpr → ExprKind
  FieldRef : List Name → ExprKind
  Sizeof : Name → ExprKind
  Alignof : Name → ExprKind
  -- 68 to 78: Add, Sub, Mul, Div, Mod, Pow, BitAnd, BitOr, BitXor, LeftShift, RightShift
  -- 83 to 91: Eq, Ne, Lt, Gt, Le, Ge, And, Or, Xor
  Binary : ℕ → ExprKind → ExprKind → ExprKind
  -- 79 to 82: BitNot, Neg, Not, Popcount
  Unary : ℕ → ExprKind → ExprKind

unfoldable pub literals : List (ℕ → LiteralExpr)
literals = LiteralExpr.U64 ∷ LiteralExpr.U32 ∷ LiteralExpr.U16 ∷ LiteralExpr.U8 ∷ LiteralExpr.I64 ∷ LiteralExpr.I32 ∷ LiteralExpr.I16 ∷ LiteralExpr.I8 ∷ []

abbrev pub literal_of : Tree → LiteralExpr
literal_of t = get_or literals (number (first t)) LiteralExpr.U64 (number (rest t))

abbrev pub unknown : ExprKind
unknown = ExprKind.FieldRef []

-- the kinds of expression by the form of their parts
pub data Form : Type 0 where
  literal field_ref sizeof alignof unary binary : Form

unfoldable pub form_of : ℕ → Form
form_of k =
    cond (eqb k 64) Form.literal
    (cond (eqb k 65) Form.field_ref
    (cond (eqb k 66) Form.sizeof
    (cond (eqb k 67) Form.alignof
    (cond (within 79 82 k) Form.unary
    Form.binary))))

unfoldable pub make_expr : ℕ → Form → Tree → View ExprKind → ExprKind
make_expr k Form.literal t v = ExprKind.Literal (literal_of (part 0 t))
make_expr k Form.field_ref t v = ExprKind.FieldRef (listed text (part 0 t))
make_expr k Form.sizeof t v = ExprKind.Sizeof (text (part 0 t))
make_expr k Form.alignof t v = ExprKind.Alignof (text (part 0 t))
make_expr k Form.unary t v = ExprKind.Unary k (part_or unknown 0 v)
make_expr k Form.binary t v = ExprKind.Binary k (part_or unknown 0 v) (part_or unknown 1 v)

-- the expression of a block 64 to 91
unfoldable pub expr_of : Tree → ExprKind
expr_of t = item_or unknown (view (λ b v. make_expr (kind b) (form_of (kind b)) (body b) v) t)

-- builder.rs, `literal_to_u64`; "a negative literal gives 14"
abbrev pub unless_negative : ℕ → Option ℕ
unless_negative v = cond (ltb v (2 ^ 63)) (some v) none

abbrev pub literal_to_u64 : LiteralExpr → Option ℕ
literal_to_u64 (LiteralExpr.U64 v) = some v
literal_to_u64 (LiteralExpr.U32 v) = some v
literal_to_u64 (LiteralExpr.U16 v) = some v
literal_to_u64 (LiteralExpr.U8 v) = some v
literal_to_u64 (LiteralExpr.I64 v) = unless_negative v
literal_to_u64 (LiteralExpr.I32 v) = unless_negative v
literal_to_u64 (LiteralExpr.I16 v) = unless_negative v
literal_to_u64 (LiteralExpr.I8 v) = unless_negative v
