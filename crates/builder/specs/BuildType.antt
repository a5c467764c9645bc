-- builder.rs, `build_type`, as an action on the registry: the tree of a type and the parameters that it lists.
use Rattle.std.specs.Prelude.{Bool, false, ◌&&◌, ◌||◌, cond, List, [], ◌∷◌}
use Rattle.std.proofs.Math.Option.{Option, some, none}
use Rattle.blocks.specs.Name.{Name, same}
use Rattle.resolved.specs.Resolved.{ResolvedType, ResolvedTypeKind, ResolvedField, head, kind_of, fields, jagged_of}
use Rattle.ir.specs.Ir.{IrParameter, TypeIr}
use Rattle.builder.specs.Names.{replace_colons, split, before_element, or_else}
use Rattle.builder.specs.Registry.{Build, ◌>>=◌, give, reads, extend_with, into_parameters}
use Rattle.builder.specs.Nodes.{node_from_resolved}

abbrev pub fields_of : ResolvedTypeKind → List ResolvedField
fields_of ResolvedTypeKind.Primitive = []
fields_of (ResolvedTypeKind.Struct fs) = fields fs
fields_of (ResolvedTypeKind.Union fs) = []
fields_of (ResolvedTypeKind.Enum e vs) = []
fields_of (ResolvedTypeKind.Array t e j) = []
fields_of (ResolvedTypeKind.SizeDiscriminatedUnion vs) = []
fields_of (ResolvedTypeKind.TypeRef n) = []

-- whether a struct has a jagged array of this name
unfoldable pub has_jagged : Name → List ResolvedField → Bool
has_jagged n [] = false
has_jagged n (f ∷ fs) = (same f.name n && or_else false (jagged_of (kind_of f.field_type))) || has_jagged n fs

abbrev pub jagged_before : List ResolvedField → Option Name → Bool
jagged_before fs none = false
jagged_before fs (some n) = has_jagged n fs

-- `is_jagged_element_parameter`
unfoldable pub is_jagged_element_parameter : ResolvedType → Name → Bool
is_jagged_element_parameter t n = jagged_before (fields_of (kind_of t)) (before_element (split (replace_colons n)))

-- `filter_jagged_element_parameters`
unfoldable pub filter_jagged_element_parameters : ResolvedType → List IrParameter → List IrParameter
filter_jagged_element_parameters t [] = []
filter_jagged_element_parameters t (p ∷ ps) =
    cond (is_jagged_element_parameter t p.name) (filter_jagged_element_parameters t ps) (p ∷ filter_jagged_element_parameters t ps)

-- "Owners' references enter the registry first, in byte order."
unfoldable pub build_type_ir : List ResolvedType → ResolvedType → Build TypeIr
build_type_ir types t = do
  _ ← extend_with (head t).dynamic_params
  root ← node_from_resolved types t
  parameters ← reads into_parameters
  give (record {
    type_name = (head t).name;
    alignment = (head t).alignment;
    root = root;
    parameters = filter_jagged_element_parameters t parameters;
  })
