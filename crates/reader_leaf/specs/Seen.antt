-- What the code keeps of a list's entries before the one that it reads, and what of the definition that stands for.
use Rattle.std.specs.Prelude.{ℕ, zero, suc, ◌+◌, ◌≤◌, ◌<◌, ◌≡◌, false, cond, List, [], ◌∷◌, eqb, length}
use Rattle.blocks.specs.Bytes.{le2}
pub use Rattle.blocks.specs.Bytes.{name_at}
pub use Rattle.blocks.specs.Blocks.{NameIn}
unfoldable pub use Rattle.blocks.specs.Blocks.{block_at as behind, Stand}
use Rattle.blocks.specs.Name.{Name, among}
use Rattle.blocks.specs.Read.{Earlier}
use Rattle.blocks.specs.declared.Part.{Part}
use Rattle.blocks.specs.declared.Part.TheVariants.{Text, Key, Number, Flag, Size, OptNumber, OptText, Literal, Block, OptBlock, Blocks, Ascending, Distinct, Names, Paths, Values}
use Rattle.reader_leaf.specs.declared.Seen.{Seen}
use Rattle.reader_leaf.specs.declared.Seen.TheVariants.{Nothing, Owners, Types}

-- the names with which n blocks begin, the last first
unfoldable pub names_before : List ℕ → ℕ → ℕ → List Name
names_before s first zero = []
names_before s first (suc n) = name_at s (behind s first n + 6) ∷ names_before s first n

-- each of the first n blocks from an offset on begins with a name that none before it has
unfoldable pub Fresh : List ℕ → ℕ → ℕ → Type 0
Fresh s first n = (k : ℕ) → k < n → among (name_at s (behind s first k + 6)) (names_before s first k) ≡ false

-- the offset of the last of these names; 0 if there is none
unfoldable pub last_of : List ℕ → ℕ → ℕ → ℕ
last_of s first zero = 0
last_of s first (suc n) = behind s first n + 6

-- the name at an offset, if it is not 0
unfoldable pub last_name : List ℕ → ℕ → List Name
last_name s last = cond (eqb last 0) [] (name_at s last ∷ [])

abbrev pub LastIn : List ℕ → ℕ → Type 0
LastIn s last = 0 < last → NameIn s last

unfoldable pub earlier_of : List ℕ → Seen → Earlier
earlier_of s Nothing = Earlier.any
earlier_of s (Owners first count last paths) = Earlier.ascending (names_before s first count) paths
earlier_of s (Types first count fresh) = Earlier.distinct (names_before s first count)

-- how many paths the owners before have
unfoldable pub seen_paths : Seen → ℕ
seen_paths Nothing = 0
seen_paths (Owners first count last paths) = paths
seen_paths (Types first count fresh) = 0

-- what is kept is so
unfoldable pub Valid : List ℕ → Seen → Type 0
Valid s Nothing = Unit
Valid s (Owners first count last paths) = Stand s first count × (last ≡ last_of s first count) × (paths ≤ 64)
Valid s (Types first count fresh) = Stand s first count × Fresh s first fresh

-- the name at an offset is that of the next block
unfoldable pub Here : List ℕ → Seen → ℕ → Type 0
Here s Nothing at = Unit
Here s (Owners first count last paths) at = at ≡ behind s first count + 6
Here s (Types first count fresh) at = at ≡ behind s first count + 6

-- a part that holds no block
unfoldable pub Plain : Part → Type 0
Plain Text = Unit
Plain Key = Unit
Plain Number = Unit
Plain Flag = Unit
Plain Size = Unit
Plain OptNumber = Unit
Plain OptText = Unit
Plain Literal = Unit
Plain (Block lo hi) = ⊥
Plain (OptBlock lo hi) = ⊥
Plain (Blocks lo hi limit) = ⊥
Plain (Ascending lo hi limit) = ⊥
Plain (Distinct lo hi limit) = ⊥
Plain (Names limit) = Unit
Plain (Paths limit) = Unit
Plain (Values limit) = Unit

-- one block more, that at an offset: an owner's paths are counted behind its name
unfoldable pub grown_of : List ℕ → Seen → ℕ → Seen
grown_of s Nothing at = Nothing
grown_of s (Owners first count last paths) at = Owners first (count + 1) (at + 6) (paths + le2 s (at + 6 + 2 + le2 s (at + 6)))
grown_of s (Types first count fresh) at = Types first (count + 1) fresh

-- that block's name, and an owner's count, lie inside the input
unfoldable pub Grows : List ℕ → Seen → ℕ → Type 0
Grows s Nothing at = Unit
Grows s (Owners first count last paths) at = (count ≤ at) × (at + 6 + 2 + le2 s (at + 6) + 2 ≤ length s) × (paths ≤ 64)
Grows s (Types first count fresh) at = (count ≤ at) × NameIn s (at + 6)
