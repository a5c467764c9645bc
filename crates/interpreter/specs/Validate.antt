-- interpreter.rs, `validate`: a layout, a type, values and a buffer length to a byte count.
use Rattle.std.specs.Prelude.{ℕ, cond, List, [], ◌∷◌, ◌++◌, leb}
use Rattle.errors.specs.Refusal.{Outcome, done, refused, ◌>>=◌, enough, BufferTooSmall}
use Rattle.blocks.specs.Name.{Name, ascii}
use Rattle.blocks.specs.Tree.{Tree, first, rest, body, number, part, listed}
use Rattle.blocks.specs.Tree.{text as text_in}
use Rattle.blocks.specs.Read.{small, read_layout, read_values, read_run}
use Rattle.ir.specs.Ir.{TypeIr}
use Rattle.ir.specs.Layout.{layout_of}
use Rattle.interpreter.specs.Eval.{Binding, ParamMap, refusal_at, lookup_type, eval_within}

-- ---- on what was read

-- "`__buffer_size` is added from the buffer length only if absent, and only at the root." Behind the values it is found
-- only if absent.
abbrev pub with_buffer_size : ℕ → ParamMap → ParamMap
with_buffer_size len values = values ++ (record { name = ascii "__buffer_size"; value = len } ∷ [])

-- 25, last: "is the count at most the buffer length?" The place is the asked type's, the value the required count.
abbrev pub fits_buffer : ℕ → ℕ → ℕ → Outcome ℕ
fits_buffer place len count = cond (leb count len) (done count) (refused (refusal_at place 0 BufferTooSmall count))

unfoldable pub validate_type : List TypeIr → Name → ℕ → ParamMap → Outcome ℕ
validate_type types name len values = do
  t ← lookup_type 0 name types
  count ← eval_within 16 types t.0 (with_buffer_size len values) t.1.root
  fits_buffer t.0 len count

-- ---- on bytes

-- "192 values: count, then name and number each"
abbrev pub binding_of : Tree → Binding
binding_of t = record { name = text_in (first t); value = number (rest t) }

unfoldable pub values_of : Tree → ParamMap
values_of t = listed binding_of (part 0 (body t))

-- From the number of working words, the layout's bytes, the type's name, the values' bytes and the buffer length. "A set
-- or layout is read before a run or values." "Validation writes only working words": the code's calls are lent the layout, the name and
-- the values by shared borrows, which nothing can be written through; the words are `words_after`.
unfoldable pub validate : ℕ → List ℕ → Name → List ℕ → ℕ → Outcome ℕ
validate words layout name values len = do
  _ ← enough words
  _ ← small layout
  _ ← small values
  l ← read_layout layout
  v ← read_values values
  validate_type (layout_of l) name len (values_of v)

-- "193 run: type name, buffer length, a block 192"
pub record Run : Type 0 where
  pub type_name : Name
  pub buffer_length : ℕ
  pub values : ParamMap

abbrev pub run_of : Tree → Run
run_of t = record {
  type_name = text_in (part 0 (body t));
  buffer_length = number (part 1 (body t));
  values = values_of (part 2 (body t));
}

-- the same for a run
unfoldable pub validate_run : ℕ → List ℕ → List ℕ → Outcome ℕ
validate_run words layout run = do
  _ ← enough words
  _ ← small layout
  _ ← small run
  l ← read_layout layout
  r ← read_run run
  validate_type (layout_of l) (run_of r).type_name (run_of r).buffer_length (run_of r).values
