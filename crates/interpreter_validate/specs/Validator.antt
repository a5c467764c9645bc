-- What is asked of a layout: a type with values or a run, told once for both. What evaluating asks for; 25, at the end.
use Rattle.std.specs.Prelude.{ℕ, ◌+◌, ◌*◌, ◌≤◌, ◌≡◌, cond, ltb, List, length, Some, Result}
use Rattle.errors.specs.Refusal.{Outcome, done}
use Rattle.value.specs.declared.Value.{Value}
use Rattle.errors.specs.declared.Refusal.{Refusal}
use Rattle.errors.specs.declared.Unread.{Unread}
use Rattle.errors.specs.Meaning.{outcome_of}
use Rattle.blocks.specs.Name.{Name}
use Rattle.blocks.specs.Tree.{Tree}
use Rattle.blocks.specs.Bytes.{le2, le8}
use Rattle.blocks.specs.Read.{read_input, read_layout, read_run}
use Rattle.ir.specs.Layout.{layout_of}
use Rattle.reader_leaf.specs.Answer.{read_of}
use Rattle.reader_calls.specs.Inputs.{judge, passed}
use Rattle.accepted.specs.Accepted.{Accepted, tree}
use Rattle.lookup.specs.Found.{TreeFound}
use Rattle.interpreter.specs.Validate.{Run, run_of, values_of, validate_type, validate, validate_run}
use Rattle.interpreter_context.specs.declared.Root.{Root}
use Rattle.interpreter_validate.specs.declared.Target.{Target}
use Rattle.interpreter_validate.specs.declared.Ask.{Ask}
use Rattle.interpreter_validate.specs.declared.Ask.TheVariants as ask

-- the kind of the block that is read beside the layout
abbrev pub kind_of : Ask → ℕ
kind_of (ask.Values len) = 192
kind_of ask.Run = 193

-- the run that is asked for: a name and a buffer length that are handed over make one of values
abbrev pub run_for : Ask → Name → Tree → Run
run_for (ask.Values len) name t = record { type_name = name; buffer_length = len; values = values_of t }
run_for ask.Run name t = run_of t

-- what a run comes to over a layout
abbrev pub run_in : Tree → Run → Outcome ℕ
run_in l r = validate_type (layout_of l) r.type_name r.buffer_length r.values

-- the call that asks for it, with so many words
abbrev pub call_of : Ask → ℕ → List ℕ → Name → List ℕ → Outcome ℕ
call_of (ask.Values len) n layout name values = validate n layout name values len
call_of ask.Run n layout name run = validate_run n layout run

-- the questions of a call with so many words are answered
pub record Judged (a : Ask) (s other : List ℕ) (judged : Result Unit Unread) (n : ℕ) : Type 0 where
  pub is : read_of judged ≡ passed (judge n s other (kind_of a))

-- and where the words are enough, as many are lent as evaluating may use
pub record Asked (a : Ask) (s other : List ℕ) (judged : Result Unit Unread) (words : List ℕ) (n : ℕ) : Type 0 where
  pub questions : Judged a s other judged n
  pub room : 8192 ≤ n → 1168 ≤ length words

-- an accepted layout, and accepted values at an offset
pub record Located (s values : List ℕ) (block : ℕ) : Type 0 where
  pub layout : (t : Tree) × (read_layout s ≡ done t)
  pub values_read : Accepted values 192 192 block
  pub small : length s ≤ 65536

-- an accepted layout, and accepted values or an accepted run
pub record Given (a : Ask) (s other : List ℕ) : Type 0 where
  pub layout : (t : Tree) × (read_layout s ≡ done t)
  pub other_read : (t : Tree) × (read_input 2 (kind_of a) other ≡ done t)
  pub small : length s ≤ 65536

-- ---- the tree that is evaluated

-- the tree at its place and offset is that of the type of a name
abbrev pub Named : List ℕ → Name → Target → Type 0
Named s name t = (l : Tree) → read_layout s ≡ done l → TreeFound s name (layout_of l) (Some (record { place = t.place; at = t.at }))

-- the tree of a type of an accepted layout, and accepted values
pub record Aimed (s values : List ℕ) (t : Target) : Type 0 where
  pub located : Located s values t.block
  pub named : (name : Name) × Named s name t

-- what the code answers is what its type comes to, with the values at an offset
abbrev pub TypeAnswers : List ℕ → Name → List ℕ → Root → Result Value Refusal → Type 0
TypeAnswers s name values root r =
    (t : Tree) → read_layout s ≡ done t → (a : Accepted values 192 192 root.block) →
    outcome_of r ≡ validate_type (layout_of t) name root.len (values_of (tree a))

-- the same of the tree that is evaluated, whatever name its type has
abbrev pub TreeAnswers : List ℕ → List ℕ → Target → Result Value Refusal → Type 0
TreeAnswers s values t r = (name : Name) → Named s name t → TypeAnswers s name values (record { block = t.block; len = t.len }) r

-- what the code answers is what is asked for
abbrev pub Answers : Ask → List ℕ → Name → List ℕ → Result Value Refusal → Type 0
Answers a s name other r = (t : Tree) → read_layout s ≡ done t → (u : Tree) → read_input 2 (kind_of a) other ≡ done u → outcome_of r ≡ run_in t (run_for a name u)

-- where the questions are answered, what the code answers is what the call does
abbrev pub Called : Ask → List ℕ → Name → List ℕ → Result Unit Unread → List ℕ → Result Value Refusal → Type 0
Called a s name other judged words r = (n : ℕ) → Asked a s other judged words n → outcome_of r ≡ call_of a n s name other

-- ---- a run

-- a run that was read
abbrev pub AcceptedRun : List ℕ → Type 0
AcceptedRun s = (t : Tree) × (read_run s ≡ done t)

-- the offset of its values, and its buffer length
pub record RunRoot (s : List ℕ) (r : Root) : Type 0 where
  pub block : r.block ≡ 8 + le2 s 6 + 8
  pub long : r.len ≡ le8 s (8 + le2 s 6)

-- ---- the words

-- how many words evaluating may use, by the bytes of the tree, the bytes of the values and their number: one for each call that may be open, or as many
-- as it remembers values in
unfoldable pub words_for : ℕ → ℕ → ℕ → ℕ
words_for tree values n = cond (ltb n 256) 16 (cond (ltb (tree * n) (40 * (values + 22 * n))) 16 1168)
