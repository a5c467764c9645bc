-- A call of a type, as `build_typeref_node` makes it once the type is found.
use Rattle.std.specs.Prelude.{ℕ, []}
use Rattle.blocks.specs.Name.{Name}
use Rattle.resolved.specs.Resolved.{ResolvedType, head}
use Rattle.ir.specs.Ir.{IrNode, aligned, unplaced}
use Rattle.builder.specs.Registry.{Build, ◌>>=◌, give}
use Rattle.builder.specs.Nodes.{collect_callee_arguments}

-- the call of a type under this name, with the alignment of the reference
unfoldable pub call_of : ResolvedType → Name → ℕ → Build IrNode
call_of t target alignment = do
  xs ← collect_callee_arguments (head t).dynamic_params []
  give (IrNode.CallNested unplaced (aligned alignment) target xs)
