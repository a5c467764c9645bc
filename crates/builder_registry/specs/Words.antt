-- The registry in working words: an entry in each word (specs/Word.antt), in order of entry.
use Rattle.std.specs.Prelude.{ℕ, ◌+◌, ◌*◌, ◌/◌, ◌%◌, ◌≤◌, ◌<◌, ◌≡◌, Bool, true, false, ◌&&◌, ◌||◌, cond, List, [], ◌∷◌, ◌++◌, map, leb, ltb, eqb, length, take, drop, get_or, Some, None, Result, IfSome}
use Rattle.std.specs.Prelude as std
use Rattle.std.proofs.Math.Option.{Option, some, none}
use Rattle.errors.specs.Refusal.{Outcome}
use Rattle.errors.specs.declared.Reason.{Reason}
use Rattle.answers.specs.Answers.{Answers}
use Rattle.blocks.specs.Bytes.{le2, name_at}
use Rattle.blocks.specs.Name.{Name, same}
use Rattle.ir.specs.Ir.{IrParameter}
use Rattle.marks.specs.Mark.{mark_of}
use Rattle.marks.specs.Table.{Linked}
use Rattle.builder.specs.Names.{is_empty, normalize_path}
use Rattle.builder.specs.Registry.{Entry, Registry, entry_of as path_entry}
use Rattle.builder_names.specs.Views.{alias_of}
use Rattle.builder_registry.specs.Place.{place_of}
use Rattle.builder_registry.specs.Word.{owner_at, path_at, made_of, derived_of}
use Rattle.builder_registry.specs.Texts.{made_path, made_end, made_text}
use Rattle.builder_registry.specs.declared.Made.{Made}
use Rattle.builder_registry.specs.declared.Made.TheVariants.{ComputedTag, Variant, PayloadSize}
use Rattle.builder_registry.specs.declared.Tagged.{Tagged}

-- the name at an offset; empty where it does not lie inside the bytes, or is longer than any name of a set
unfoldable pub held : List ℕ → ℕ → Name
held s at = cond (leb (at + 2 + le2 s at) (length s) && leb (le2 s at) 255) (name_at s at) []

-- what a made parameter is under an owner: a computed tag is derived
abbrev pub made_derived : Made → Bool
made_derived ComputedTag = true
made_derived Variant = false
made_derived PayloadSize = false

unfoldable pub made_parameter : Made → Name → IrParameter
made_parameter made owner = record { name = owner ++ made_end made; description = some (made_text made); derived = made_derived made }

unfoldable pub made_entry : Made → Name → Entry
made_entry made owner = record { owner = owner; keys = normalize_path owner (made_path made) ∷ []; parameter = made_parameter made owner }

-- the entry with this derived flag
abbrev pub flagged : Bool → Entry → Entry
flagged d e = record {
  owner = e.owner;
  keys = e.keys;
  parameter = record { name = e.parameter.name; description = e.parameter.description; derived = d };
}

-- the entry of an owner: that of a path, or a made one
abbrev pub entry_by : Name → Name → std.Option Made → Entry
entry_by owner path None = path_entry owner path
entry_by owner path (Some made) = made_entry made owner

-- the entry that a word holds
unfoldable pub entry_of : List ℕ → ℕ → Entry
entry_of s w = flagged (derived_of w) (entry_by (held s (owner_at w)) (held s (path_at w)) (made_of w))

-- the first n words as a registry
unfoldable pub entries_of : List ℕ → List ℕ → ℕ → Registry
entries_of s ws n = map (entry_of s) (take n ws)

-- the name of the entry that a word holds
abbrev pub entry_name : List ℕ → ℕ → Name
entry_name s w = (entry_of s w).parameter.name

-- ---- the index: from word 512 on, a table of marks (crate marks) with two slots for each entry

-- the path of an entry: the one that was entered, or that of the made parameter
abbrev pub path_by : Name → std.Option Made → Name
path_by path None = path
path_by path (Some made) = made_path made

-- the first key of the entry that a word holds: its normal path
unfoldable pub key_in : List ℕ → ℕ → Name
key_in s w = normalize_path (held s (owner_at w)) (path_by (held s (path_at w)) (made_of w))

-- the alias of a path that was entered; a made parameter has none
abbrev pub alias_by : Name → Name → std.Option Made → Name
alias_by path key None = alias_of path key
alias_by path key (Some made) = []

-- its other key, the alias; empty where it has none
unfoldable pub alias_in : List ℕ → ℕ → Name
alias_in s w = alias_by (held s (path_at w)) (key_in s w) (made_of w)

-- the mark of an owner: of its name, and behind it a byte that no name has, so that one text, split into an owner and a key in two ways, has two marks
abbrev pub owner_mark : Name → ℕ
owner_mark owner = mark_of (mark_of 0 owner) (0 ∷ [])

-- the mark of a key of an owner
abbrev pub key_mark : Name → Name → ℕ
key_mark owner key = mark_of (owner_mark owner) key

-- The mark of an entry's alias. It is left out, by a number that is no mark, where the entry has none, and where the alias is a key of
-- one of the entries g before it: the first entry for a key decides.
unfoldable pub alias_mark : Registry → Name → Name → ℕ
alias_mark g owner alias = cond (is_empty alias || ltb (place_of owner alias g) (length g)) 18446744073709551616 (key_mark owner alias)

-- the mark of a slot of the entry that a word holds, behind the entries g: of the slot 0 its normal path, else its alias
unfoldable pub slot_of : List ℕ → Registry → ℕ → ℕ → ℕ
slot_of s g w b =
    cond (eqb b 0) (key_mark (held s (owner_at w)) (key_in s w)) (alias_mark g (held s (owner_at w)) (alias_in s w))

-- the mark of the slot 2 e of entry e, and of its slot 2 e + 1
unfoldable pub slot_mark : List ℕ → List ℕ → ℕ → ℕ
slot_mark s ws k = slot_of s (entries_of s ws (k / 2)) (get_or ws (k / 2) 0) (k % 2)

-- the index of the first n entries, behind them in the words
pub record Indexed (s ws : List ℕ) (n : ℕ) : Type 0 where
  pub room : 1663 ≤ length ws
  pub linked : Linked (drop 512 ws) (slot_mark s ws) (2 * n)

-- what is searched for: m is the mark of the key, and the name of the owner o stands at the offset, where one is known
pub record Sought (s : List ℕ) (m : ℕ) (known : std.Option ℕ) (o key : Name) : Type 0 where
  pub mark : m ≡ key_mark o key
  pub owner : IfSome known (λ at. true ≡ same o (held s at))

-- the marks by which the entry of a word is linked: that of its owner, o, and that of its first key, k
pub record Marked (s : List ℕ) (w o k : ℕ) : Type 0 where
  pub owner : o ≡ owner_mark (held s (owner_at w))
  pub key : k ≡ key_mark (held s (owner_at w)) (key_in s w)

-- what the code says of an alias's mark m: none where it is left out
abbrev pub AliasIs : ℕ → std.Option ℕ → Type 0
AliasIs m (Some x) = m ≡ x
AliasIs m None = 18446744073709551616 ≤ m

-- What linking the entry n by these marks leaves: the entries' words as they were, and in the index two slots more.
pub record Linking (ws : List ℕ) (n key : ℕ) (alias : std.Option ℕ) (us : List ℕ) : Type 0 where
  pub same : take 512 us ≡ take 512 ws
  pub linked : (f : ℕ → ℕ) → Linked (drop 512 ws) f (2 * n) → f (2 * n) ≡ key → AliasIs (f (2 * n + 1)) alias → Linked (drop 512 us) f (2 * n + 2)

-- what every call of the builder stands on: a set of at most 65,536 bytes, room for the registry and its index, n entries in it,
-- and the index of them
pub record Standing (s ws : List ℕ) (n : ℕ) : Type 0 where
  pub size : length s ≤ 65536
  pub words : 1663 ≤ length ws
  pub count : n ≤ 512
  pub index : Indexed s ws n

-- What a change of the registry leaves: n entries in the words us and their index, or the refusal, of which nothing is said but
-- its reason.
pub record KeptIn (s us : List ℕ) (n : ℕ) (x : Unit {0} × Registry) : Type 0 where
  pub entries : entries_of s us n ≡ x.1
  pub index : Indexed s us n

abbrev pub Kept : (s us : List ℕ) → Result ℕ Reason → Outcome (Unit × Registry) → Type 0
Kept s us = Answers (KeptIn s us)

-- the same where a name is answered: that of the entry at r.at, which is one of them
pub record TagIn (s us : List ℕ) (r : Tagged) (x : Name × Registry) : Type 0 where
  pub named : x.0 ≡ entry_name s (get_or us r.at 0)
  pub entries : entries_of s us r.count ≡ x.1
  pub within : r.at < r.count
  pub index : Indexed s us r.count

abbrev pub Tags : (s us : List ℕ) → Result Tagged Reason → Outcome (Name × Registry) → Type 0
Tags s us = Answers (TagIn s us)

-- a name found in the registry: that of the entry at i
pub data Looked (s ws : List ℕ) (n : ℕ) : std.Option ℕ → Option Name → Type 0 where
  at : {i : ℕ} → i < n → Looked s ws n (Some i) (some (entry_name s (get_or ws i 0)))
  missing : Looked s ws n None none
