-- The program `lengths`: from the bytes of standard input to the bytes of its lines.
use Rattle.std.specs.Prelude.{ℕ, zero, suc, ◌+◌, ◌-◌, ◌*◌, ◌/◌, ◌%◌, ◌≤◌, ◌≡◌, Bool, true, false, cond, List, [], ◌∷◌, ◌++◌, leb, ltb, eqb, length, take, drop}
use Rattle.errors.specs.Refusal.{Outcome, done, refused, ◌>>=◌, ask, Refusal, plain}
use Rattle.blocks.specs.Bytes.{le4}
use Rattle.blocks.specs.Name.{ascii}
use Rattle.blocks.specs.Read.{read_run}
use Rattle.builder.specs.Build.{build_set}
use Rattle.interpreter.specs.Validate.{validate_run, run_of}

-- a number in decimal digits; twenty hold any number below 2^64
unfoldable pub digits : ℕ → ℕ → List ℕ
digits zero n = []
digits (suc k) n = elim (ltb n 10) [ true ↦ (0x30 + n) ∷ [] | false ↦ digits k (n / 10) ++ ((0x30 + n % 10) ∷ []) ]

abbrev pub decimal : ℕ → List ℕ
decimal = digits 20

-- how far apart two numbers lie
abbrev pub distance : ℕ → ℕ → ℕ
distance m n = (m - n) + (n - m)

-- n is a / b rounded:
pub record Rounded (a b n : ℕ) : Type 0 where
  -- "to the nearest whole number": n × b lies no further from a than half of b
  pub near : 2 * distance (n * b) a ≤ b
  -- "The fill printed by `lengths` now rounds an exact half to the even neighbour": where it lies just so far, n is even
  pub even : 2 * distance (n * b) a ≡ b → n % 2 ≡ 0

-- That number, from the whole part and the rest of a / b: the one below if the rest is less than half of b, the one above if it is more,
-- else the even one of the two. It is `Rounded`, and no other number is (`rounded` and `one_rounded` in proofs/Fill.antt).
unfoldable pub nearest : ℕ → ℕ → ℕ → ℕ
nearest whole rest b = cond (ltb (2 * rest) b) whole (cond (ltb b (2 * rest)) (whole + 1) (whole + whole % 2))

-- "Fill is 100 × count / length to the nearest whole number .. 0 for a refusal or length 0."
unfoldable pub fill : ℕ → ℕ → ℕ
fill count len = cond (eqb len 0) 0 (nearest (100 * count / len) (100 * count % len) len)

-- "a line per run: run from 0, number (0 if accepted), count or value, fill"
unfoldable pub line : ℕ → ℕ → ℕ → ℕ → List ℕ
line run q v f = decimal run ++ (ascii " " ++ (decimal q ++ (ascii " " ++ (decimal v ++ (ascii " " ++ (decimal f ++ ascii "\n"))))))

-- "A refused set or run block gives the line `S`, one space and its number, then ends."
unfoldable pub stopped : Refusal → List ℕ
stopped r = ascii "S " ++ (decimal r.number ++ ascii "\n")

-- "Each input block is as long as its length field says: above 65,536 bytes in all it gives 1, cut off it gives 2.": the
-- next block, and what follows it
unfoldable pub next_block : List ℕ → Outcome (List ℕ × List ℕ)
next_block s = do
  _ ← ask (leb 4 (length s)) (plain 2)
  _ ← ask (leb (4 + le4 s 0) 65536) (plain 1)
  _ ← ask (leb (4 + le4 s 0) (length s)) (plain 2)
  done (take (4 + le4 s 0) s, drop (4 + le4 s 0) s)

-- the program's own working words and output
abbrev pub words : ℕ
words = 8192

abbrev pub output : ℕ
output = 65536

abbrev pub length_in : Outcome ℕ → ℕ
length_in (done n) = n
length_in (refused r) = 0

-- the buffer length of a run block
unfoldable pub run_length : List ℕ → ℕ
run_length run = length_in (do
  t ← read_run run
  done (run_of t).buffer_length)

-- a run's line, then the lines of what follows; 1 to 6 refuse the run block
unfoldable pub answer_lines : ℕ → ℕ → Outcome ℕ → List ℕ → List ℕ
answer_lines run len (done count) more = line run 0 count (fill count len) ++ more
answer_lines run len (refused r) more = cond (leb r.number 6) (stopped r) (line run r.number r.value 0 ++ more)

-- a run block's lines, and those of what follows it
unfoldable pub block_lines : (List ℕ → List ℕ) → List ℕ → ℕ → Outcome (List ℕ × List ℕ) → List ℕ
block_lines more layout run (refused r) = stopped r
block_lines more layout run (done b) = answer_lines run (run_length b.0) (validate_run words layout b.0) (more b.1)

abbrev pub is_nil : List ℕ → Bool
is_nil [] = true
is_nil (x ∷ xs) = false

-- The lines of the runs in s, from this run on. A block takes at least 4 bytes, so k, the number of bytes, is enough.
-- "Input that ends between blocks, after the set, ends the program."
unfoldable pub run_lines : ℕ → List ℕ → ℕ → List ℕ → List ℕ
run_lines zero layout run s = []
run_lines (suc k) layout run s =
    elim (is_nil s) [ true ↦ [] | false ↦ block_lines (run_lines k layout (suc run)) layout run (next_block s) ]

unfoldable pub set_lines : Outcome (List ℕ) → List ℕ → List ℕ
set_lines (refused r) s = stopped r
set_lines (done layout) s = run_lines (length s) layout 0 s

unfoldable pub input_lines : Outcome (List ℕ × List ℕ) → List ℕ
input_lines (refused r) = stopped r
input_lines (done b) = set_lines (build_set words output b.0) b.1

-- "It reads a type set, then runs, from standard input, and prints a line per run"
unfoldable pub lengths : List ℕ → List ℕ
lengths s = input_lines (next_block s)
