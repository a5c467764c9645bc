-- What the parts of a call answer: the next block, the set, the runs.
use Rattle.std.specs.Prelude.{ℕ, ◌+◌, ◌^◌, ◌≤◌, ◌<◌, ◌≡◌, Bool, true, false, List, [], ◌++◌, length, take, drop}
use Rattle.errors.specs.Refusal.{done, refused, plain}
use Rattle.errors.specs.declared.Reason.{Reason}
use Rattle.errors.specs.Meaning.{number_of}
use Rattle.lengths_definition.specs.Lengths.{next_block, lengths}
use Rattle.lengths_lines.specs.Lines.{IsLayout}
use Rattle.lengths_program.specs.declared.Next.{Next}
use Rattle.lengths_program.specs.declared.Next.TheVariants as next
use Rattle.lengths_program.specs.declared.Stage.{Stage}
use Rattle.lengths_program.specs.declared.Stage.TheVariants as stage
use Rattle.lengths_program.specs.declared.Begun.{Begun}
use Rattle.lengths_program.specs.declared.Begun.TheVariants as begun
use Rattle.lengths_program.specs.declared.Passed.{Passed}
use Rattle.lengths_program.specs.declared.Passed.TheVariants as passed
use Rattle.lengths_program.specs.Lines.{runs, left, Ends, Prints}

-- what s begins with, whatever follows it
pub data Finds (s : List ℕ) (last : Bool) : Next → Type 0 where
  block : {n : ℕ} → 4 ≤ n → n ≤ length s → ((rest : List ℕ) → next_block (s ++ rest) ≡ done (take n s, drop n s ++ rest)) → Finds s last (next.Block n)
  stops : {q : Reason} → ((rest : List ℕ) → Ends last rest → next_block (s ++ rest) ≡ refused (plain (number_of q))) → Finds s last (next.Refused q)
  part : last ≡ false → length s < 65536 → Finds s last next.Part

-- an output that has room for a line
pub record Room (out : List ℕ) : Type 0 where
  pub line : 84 ≤ length out
  pub few : length out < 2 ^ 59

-- a part of the buffer
pub record Within (from to : ℕ) (input : List ℕ) : Type 0 where
  pub order : from ≤ to
  pub inside : to ≤ length input
  pub few : length input < 2 ^ 63

-- where the layout was read that a stage goes by
pub data Ready (layout : List ℕ) : Stage → Type 0 where
  set : Ready layout stage.Set
  read : {run m : ℕ} → m ≤ length layout → IsLayout (take m layout) → Ready layout (stage.Runs run m)
  ended : Ready layout stage.Ended

-- ---- the set

-- how far the program comes with it, how many bytes are used and how many are printed
abbrev pub stage_of : Begun → Stage
stage_of begun.Part = stage.Set
stage_of (begun.Ended w) = stage.Ended
stage_of (begun.Built n m) = stage.Runs 0 m

abbrev pub used_of : Begun → ℕ
used_of begun.Part = 0
used_of (begun.Ended w) = 0
used_of (begun.Built n m) = n

abbrev pub wrote_of : Begun → ℕ
wrote_of begun.Part = 0
wrote_of (begun.Ended w) = w
wrote_of (begun.Built n m) = 0

pub record Begins (s : List ℕ) (last : Bool) (layout out : List ℕ) (r : Begun) : Type 0 where
  pub used : used_of r ≤ length s
  pub wrote : wrote_of r ≤ length out
  pub ready : Ready layout (stage_of r)
  pub prints : Prints last lengths (left (stage_of r) layout) s (drop (used_of r) s) (take (wrote_of r) out)
  -- where the set is not there whole, more follows
  pub waits : r ≡ begun.Part → (last ≡ false) × (length s < 65536)

-- ---- runs

-- the lines that are left, how many bytes are used and how many are printed
abbrev pub lines_after : Passed → List ℕ → List ℕ → List ℕ
lines_after (passed.Ended w) layout s = []
lines_after (passed.More wants run used w) layout s = runs layout run s

abbrev pub used_by : Passed → ℕ
used_by (passed.Ended w) = 0
used_by (passed.More wants run used w) = used

abbrev pub wrote_by : Passed → ℕ
wrote_by (passed.Ended w) = w
wrote_by (passed.More wants run used w) = w

-- why no further line was printed: it was the last; the next block is not there whole; the output has no room for a line; or the
-- numbers of runs are used up
pub data Stops (s : List ℕ) (last : Bool) (room : ℕ) : Passed → Type 0 where
  ended : {w : ℕ} → Stops s last room (passed.Ended w)
  input : {run used w : ℕ} → last ≡ false → length s < used + 65536 → Stops s last room (passed.More true run used w)
  output : {run used w : ℕ} → room < w + 84 → Stops s last room (passed.More false run used w)
  counted : {run used w : ℕ} → 18446744073709551615 ≤ run → Stops s last room (passed.More false run used w)

pub record Ran (first : ℕ) (layout s : List ℕ) (last : Bool) (out : List ℕ) (r : Passed) : Type 0 where
  pub used : used_by r ≤ length s
  pub wrote : wrote_by r ≤ length out
  pub prints : Prints last (runs layout first) (lines_after r layout) s (drop (used_by r) s) (take (wrote_by r) out)
  pub stops : Stops s last (length out) r
