-- The entries that are listed, one by one: those whose name no earlier entry has, less the elements of jagged arrays.
use Rattle.std.specs.Prelude.{ℕ, zero, suc, ◌+◌, ◌≤◌, ◌<◌, ◌≡◌, Bool, true, false, not, ◌&&◌, List, [], ◌∷◌, length, get_or}
use Rattle.blocks.specs.Bytes.{le2}
use Rattle.blocks.specs.Name.{Name, among}
use Rattle.accepted.specs.Accepted.{Accepted, tree}
use Rattle.resolved.specs.Resolved.{ResolvedType}
use Rattle.resolved.specs.Set.{type_of}
use Rattle.builder.specs.BuildType.{is_jagged_element_parameter}
use Rattle.marks.specs.Mark.{mark_of}
use Rattle.marks.specs.Table.{Linked}
use Rattle.builder_registry.specs.Words.{entry_name}

-- the name of the entry at i
abbrev pub name_in : List ℕ → List ℕ → ℕ → Name
name_in s ws i = entry_name s (get_or ws i 0)

-- the names of the first entries
unfoldable pub names : List ℕ → List ℕ → ℕ → List Name
names s ws zero = []
names s ws (suc j) = name_in s ws j ∷ names s ws j

-- whether the entry at i is listed
abbrev pub lists : ResolvedType → List ℕ → List ℕ → ℕ → Bool
lists t s ws i = not (among (name_in s ws i) (names s ws i)) && not (is_jagged_element_parameter t (name_in s ws i))

-- the marks of the entries' names
abbrev pub marks_of : List ℕ → List ℕ → ℕ → ℕ
marks_of s ws k = mark_of 0 (name_in s ws k)

-- what finding the name of the entry at i among the earlier ones stands on: a set of at most 65,536 bytes, the mark of the name, and the
-- earlier entries in a table of marks
pub record Marking (s ws table : List ℕ) (i mark : ℕ) : Type 0 where
  pub size : length s ≤ 65536
  pub within : i < length ws
  pub mark_is : mark ≡ marks_of s ws i
  pub linked : Linked table (marks_of s ws) i

-- what is known of the jagged arrays of a type: that a struct has one, or that no name is an element of one
pub record Jagged (s : List ℕ) (type : ℕ) (some : Bool) : Type 0 where
  pub struct : some ≡ true → le2 s (type + 4) ≡ 2
  pub no_element : some ≡ false → (a : Accepted s 1 7 type) (n : Name) → is_jagged_element_parameter (type_of (tree a)) n ≡ false

-- what asking whether the entry at i is listed stands on: this, the type, and room for the entry in the table
pub record Asks (s ws table : List ℕ) (type : ℕ) (jagged : Bool) (i mark : ℕ) : Type 0 where
  pub marking : Marking s ws table i mark
  pub type_at : Accepted s 1 7 type
  pub jagged_is : Jagged s type jagged
  pub entry : i < 512
  pub room : 127 + i < length table
