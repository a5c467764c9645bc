-- What the shape of an array says of it.
use Rattle.std.specs.Prelude.{ℕ, ◌+◌, ◌≤◌, ◌≡◌, Bool, ◌&&◌, List, is_none}
use Rattle.blocks.specs.Bytes.{le4}
use Rattle.accepted.specs.Accepted.{Accepted, tree}
use Rattle.expr.specs.Expr.{expr_of}
use Rattle.resolved.specs.Resolved.{ResolvedTypeKind, head, kind_of}
use Rattle.resolved.specs.Set.{type_of}
use Rattle.resolved_parts.specs.Types.{sized, owners_of}
use Rattle.builder_arrays.specs.declared.Shape.{Shape}

-- it stands inside so many arrays, its parts are accepted and shorter than the array, and its numbers are those of the array's
-- head and of its element's
pub record ShapeAt {s : List ℕ} {at : ℕ} (a : Accepted s 1 7 at) (depth : ℕ) (r : Shape) : Type 0 where
  pub inside : r.depth ≡ depth
  pub element : Accepted s 1 7 r.element
  pub size : Accepted s 64 91 r.size
  pub references : Accepted s 32 32 r.references
  pub room : 20 + le4 s r.element + le4 s r.size ≤ le4 s at
  pub jagged : Bool
  pub is : kind_of (type_of (tree a)) ≡ ResolvedTypeKind.Array (type_of (tree element)) (expr_of (tree size)) jagged
  pub sums : r.sums ≡ (jagged && is_none r.constant)
  pub alignment : (head (type_of (tree a))).alignment ≡ r.alignment
  pub inner_size : (head (type_of (tree element))).size ≡ sized r.constant
  pub inner_alignment : (head (type_of (tree element))).alignment ≡ r.inner
  pub owners : (head (type_of (tree element))).dynamic_params ≡ owners_of (tree references)
