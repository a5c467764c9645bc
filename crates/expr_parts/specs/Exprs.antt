-- What stands in an accepted expression, and where.
use Rattle.std.specs.Prelude.{ℕ, ◌+◌, ◌≤◌, ◌≡◌, List, length, get_or}
use Rattle.blocks.specs.Bytes.{le2, le4, le8}
use Rattle.accepted.specs.Accepted.{Accepted, tree, Item, Entries}
use Rattle.expr.specs.Expr.{ExprKind, LiteralExpr, literals, expr_of}
use Rattle.resolved_parts.specs.Types.{texts_of}

-- 64
pub record LiteralAt {s : List ℕ} {at : ℕ} (a : Accepted s 64 91 at) : Type 0 where
  pub inside : at + 15 ≤ length s
  pub small : get_or s (at + 6) 0 ≤ 7
  pub is : expr_of (tree a) ≡ ExprKind.Literal (get_or literals (get_or s (at + 6) 0) LiteralExpr.U64 (le8 s (at + 7)))

-- 65
pub record FieldRefAt {s : List ℕ} {at : ℕ} (a : Accepted s 64 91 at) : Type 0 where
  pub inside : at + 8 ≤ length s
  pub few : le2 s (at + 6) ≤ 64
  pub list : Entries s Item.names (le2 s (at + 6)) (at + 8)
  pub is : expr_of (tree a) ≡ ExprKind.FieldRef (texts_of list.got.0)

-- 79 to 82
pub record UnaryAt {s : List ℕ} {at : ℕ} (a : Accepted s 64 91 at) : Type 0 where
  pub operand : Accepted s 64 91 (at + 6)
  pub room : 6 + le4 s (at + 6) ≤ le4 s at
  pub is : expr_of (tree a) ≡ ExprKind.Unary (le2 s (at + 4)) (expr_of (tree operand))

-- 68 to 78, 83 to 91
pub record BinaryAt {s : List ℕ} {at : ℕ} (a : Accepted s 64 91 at) : Type 0 where
  pub left : Accepted s 64 91 (at + 6)
  pub right : Accepted s 64 91 (at + 10 + le4 s (at + 6))
  pub room : 10 + le4 s (at + 6) + le4 s (at + 10 + le4 s (at + 6)) ≤ le4 s at
  pub is : expr_of (tree a) ≡ ExprKind.Binary (le2 s (at + 4)) (expr_of (tree left)) (expr_of (tree right))
