-- An entry of the registry as one word: the offset of the owner's name in the set, that of the path's, which made parameter it
-- is (none where a path was entered), and whether it is derived. Where a field stands in the word is said here alone.
use Rattle.std.specs.Prelude.{ℕ, ◌+◌, ◌*◌, ◌/◌, ◌%◌, Bool, cond, eqb, Option, Some, None}
use Rattle.builder_registry.specs.declared.Made.{Made}
use Rattle.builder_registry.specs.declared.Made.TheVariants.{ComputedTag, Variant, PayloadSize}

unfoldable pub owner_at : ℕ → ℕ
owner_at w = w % 65536

unfoldable pub path_at : ℕ → ℕ
path_at w = w / 65536 % 65536

-- the number of a made parameter in a word; 0 where a path was entered
abbrev pub made_code : Option Made → ℕ
made_code None = 0
made_code (Some ComputedTag) = 1
made_code (Some Variant) = 2
made_code (Some PayloadSize) = 3

-- the made parameter of a number
unfoldable pub made_at : ℕ → Option Made
made_at k = cond (eqb k 0) None (cond (eqb k 1) (Some ComputedTag) (cond (eqb k 2) (Some Variant) (Some PayloadSize)))

unfoldable pub made_of : ℕ → Option Made
made_of w = made_at (w / 4294967296 % 4)

unfoldable pub derived_of : ℕ → Bool
derived_of w = eqb (w / 17179869184 % 2) 1

-- the word of these fields, not derived
unfoldable pub word_of : ℕ → ℕ → Option Made → ℕ
word_of owner path made = owner + 65536 * path + 4294967296 * made_code made

-- a word that is not derived, made a derived one
unfoldable pub derived_word : ℕ → ℕ
derived_word w = w + 17179869184
