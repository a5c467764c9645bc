-- The section "Old and new layout": "Demand 3 is one statement, from two sets' bytes to two answers of `validate`."
use Rattle.std.specs.Prelude.{ℕ, ◌<◌, ◌≡◌, List, get_or}
use Rattle.errors.specs.Refusal.{Outcome, done, refused, Refusal, nowhere, InvalidTagValue}
use Rattle.blocks.specs.Name.{Name}
use Rattle.blocks.specs.Tree.{Tree}
use Rattle.blocks.specs.Read.{read_set, read_layout, name_of}
use Rattle.ir.specs.Ir.{TypeIr}
use Rattle.ir.specs.Layout.{layout_of}
use Rattle.builder.specs.Build.{build_set}
use Rattle.interpreter.specs.Eval.{lookup_type}
use Rattle.interpreter.specs.Validate.{validate}
use Rattle.compat.specs.Grown.{Extends, TypeOf}
use Rattle.compat.specs.Ways.{At, AddedCase}

-- "Type places are compared by name, 65,535 only with itself."
pub data SamePlace (old new : List TypeIr) : ℕ → ℕ → Type 0 where
  none : SamePlace old new nowhere nowhere
  named : {i j : ℕ} {t t' : TypeIr} → At i t old → At j t' new → t.type_name ≡ t'.type_name → SamePlace old new i j

-- the old layout's answer and the new one's
pub data Agree (old new : List TypeIr) : Outcome ℕ → Outcome ℕ → Type 0 where
  count : (n : ℕ) → Agree old new (done n) (done n)
  refusal : (r r' : Refusal) → r.number ≡ r'.number → r.value ≡ r'.value → SamePlace old new r.place r'.place → Agree old new (refused r) (refused r')
  -- the old one has no case for a tag, and the new one has an added one
  added : (r : Refusal) (o : Outcome ℕ) → r.number ≡ InvalidTagValue → AddedCase old new r → Agree old new (refused r) o

-- "Parameters are compared as blocks 162, byte for byte": an `IrParameter` holds every byte of its block. The types of one
-- name have equal parameters.
abbrev pub SameParameters : List TypeIr → List TypeIr → Type 0
SameParameters old new =
    (n : Name) (i j : ℕ) (t t' : TypeIr) → lookup_type 0 n old ≡ done (i, t) → lookup_type 0 n new ≡ done (j, t') → t.parameters ≡ t'.parameters

-- two sets that build, with what is read of them and of their layouts
pub record Pair : Type 0 where
  pub old_set : List ℕ
  pub new_set : List ℕ
  pub old_bytes : (i : ℕ) → get_or old_set i 0 < 256
  pub new_bytes : (i : ℕ) → get_or new_set i 0 < 256
  -- each with any number of working words and any output
  pub old_words : ℕ
  pub new_words : ℕ
  pub old_output : ℕ
  pub new_output : ℕ
  pub old_layout : List ℕ
  pub new_layout : List ℕ
  pub old_built : build_set old_words old_output old_set ≡ done old_layout
  pub new_built : build_set new_words new_output new_set ≡ done new_layout
  pub old_tree : Tree
  pub new_tree : Tree
  pub old_read : read_set old_set ≡ done old_tree
  pub new_read : read_set new_set ≡ done new_tree
  pub old_layout_tree : Tree
  pub new_layout_tree : Tree
  pub old_layout_read : read_layout old_layout ≡ done old_layout_tree
  pub new_layout_read : read_layout new_layout ≡ done new_layout_tree

-- It speaks of `validate` as defined: a validator that sums constants and ignores values would meet this statement too, and
-- is shut out by that definition.
-- For every type of the old set, all values ("Refused values count too"), every buffer length and any number of working
-- words, the same for both.
abbrev pub OldAndNew : Type 0
OldAndNew =
    (p : Pair) →
    Extends p.old_tree p.new_tree →
    SameParameters (layout_of p.old_layout_tree) (layout_of p.new_layout_tree) →
    (b : Tree) → TypeOf b p.old_tree →
    (values : List ℕ) (len words : ℕ) →
    Agree (layout_of p.old_layout_tree) (layout_of p.new_layout_tree)
    (validate words p.old_layout (name_of b) values len)
    (validate words p.new_layout (name_of b) values len)
