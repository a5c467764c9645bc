-- What the input that is there begins with, whatever follows it. Assumes nothing.
use mathlib.Core.Path.{◌≡◌}
use mathlib.Core.Bool.{Bool, true, false}
use mathlib.Core.List.{List, ◌++◌, append-nil}
use Prim.Native.Nat.{ℕ, ◌+◌, ◌<◌, ◌≤◌}
use native.Mathlib.Omega.{arith}
use borrow.Author.Tests.{le-leb, lt-leb}
use lib.ListN.{length, take, drop, length-append, get_or-append}
use lib.Seq.{take-append-le, drop-append-le}
use Rattle.errors.specs.Refusal.{done, refused, ◌>>=◌, ask, plain}
use Rattle.errors.specs.declared.Reason.{Reason}
use Rattle.errors.specs.declared.Reason.TheVariants.{InputTooLong, Malformed}
use Rattle.errors.specs.Meaning.{number_of}
use Rattle.blocks.specs.Bytes.{le, le4}
use Rattle.lengths_definition.specs.Lengths.{next_block}
use Rattle.lengths_program.specs.declared.Next.TheVariants as next
use Rattle.lengths_program.specs.Parts.{Finds}

-- no more follows: what is refused alone is refused
alone : (s : List ℕ) {last : Bool} {q : Reason} → last ≡ true → next_block s ≡ refused (plain (number_of q)) → Finds s last (next.Refused q)
alone s {q = q} e h = Finds.stops {q = q} (λ rest ends. rw (ends e, append-nil s) h)

-- there are too few bytes for a length field, and no more follow
pub next_short : (s : List ℕ) {last : Bool} → last ≡ true → length s < 4 → Finds s last (next.Refused Malformed)
unfolding next_block ask ◌>>=◌
next_short s e h = alone s {q = Malformed} e (rw (lt-leb _ _ h))

-- more may follow
pub next_part : (s : List ℕ) {last : Bool} → last ≡ false → length s < 65536 → Finds s last next.Part
next_part s e h = Finds.part e h

-- the length field is the same, whatever follows
same_number : (s rest : List ℕ) → 4 ≤ length s → le4 (s ++ rest) 0 ≡ le4 s 0
unfolding le
same_number s rest h =
    rw (get_or-append s rest 0 0 (omega arith), get_or-append s rest 0 1 (omega arith), get_or-append s rest 0 2 (omega arith), get_or-append s rest 0 3 (omega arith))

module _ (s : List ℕ) (g : 4 ≤ length s) {n : ℕ} (en : n ≡ le4 s 0) where
  -- the block is too long
  long_is : (rest : List ℕ) → 65536 < 4 + n → next_block (s ++ rest) ≡ refused (plain 1)
  unfolding next_block ask ◌>>=◌
  long_is rest h =
      let l : 4 ≤ length (s ++ rest) = omega (arith, length-append s rest) in
      let k : 65536 < 4 + le4 (s ++ rest) 0 = omega (arith, same_number s rest g) in
      rw (le-leb _ _ l, lt-leb _ _ k)

  -- the block is there whole
  whole_is : (rest : List ℕ) → 4 + n ≤ 65536 → 4 + n ≤ length s → next_block (s ++ rest) ≡ done (take (4 + n) s, drop (4 + n) s ++ rest)
  unfolding next_block ask ◌>>=◌
  whole_is rest f h =
      let l : 4 ≤ length (s ++ rest) = omega (arith, length-append s rest) in
      let k : 4 + le4 (s ++ rest) 0 ≡ 4 + n = omega (arith, same_number s rest g) in
      let m : 4 + n ≤ length (s ++ rest) = omega (arith, length-append s rest) in
      rw (k, le-leb _ _ l, le-leb _ _ f, le-leb _ _ m, take-append-le (4 + n) s rest h, drop-append-le (4 + n) s rest h)

  -- its end is not there
  cut_is : 4 + n ≤ 65536 → length s < 4 + n → next_block s ≡ refused (plain 2)
  unfolding next_block ask ◌>>=◌
  cut_is f h =
      let k : 4 + le4 s 0 ≡ 4 + n = omega arith in
      rw (k, le-leb _ _ g, le-leb _ _ f, lt-leb _ _ h)

  module _ {last : Bool} where
    -- a block that is too long is refused at once
    pub next_long : 65536 < 4 + n → Finds s last (next.Refused InputTooLong)
    next_long h = Finds.stops {q = InputTooLong} (λ rest ends. long_is rest h)

    -- a block that is there whole
    pub next_whole : 4 + n ≤ 65536 → 4 + n ≤ length s → Finds s last (next.Block (4 + n))
    next_whole f h = Finds.block {n = 4 + n} (omega arith) h (λ rest. whole_is rest f h)

    -- a block whose end does not follow
    pub next_cut : last ≡ true → 4 + n ≤ 65536 → length s < 4 + n → Finds s last (next.Refused Malformed)
    next_cut e f h = alone s {q = Malformed} e (cut_is f h)
