-- The laws of the lines. Assumes nothing.
use mathlib.Core.Path.{◌≡◌, refl, sym, ap, ap₂, ◌∙◌}
use mathlib.Core.Bool.{Bool, true, false, cond}
use mathlib.Core.List.{List, [], ◌∷◌, ◌++◌, append_assoc}
use Prim.Native.Nat.{ℕ, zero, suc, ◌+◌, ◌-◌, ◌*◌, ◌/◌, ◌%◌, ◌^◌, ◌<◌, ◌≤◌}
use native.Mathlib.Numerals.{sub-one}
use native.Mathlib.Nat.{add-mul, div-eq_of_lt-le, mul-add-mod_self_right, mod-eq_of_lt, mod-lt, div-le_self}
use native.Mathlib.Omega.{arith}
use borrow.Author.Tests.{lt-ltb, le-ltb, eq-eqb, ne_eqb, le-leb, lt-leb, leb-true}
use lib.Dec.{leb}
use lib.ListN.{length}
use Rattle.errors.specs.Refusal.{done, refused, ◌>>=◌, ask, plain, enough, BufferTooSmall}
use Rattle.errors.proofs.Laws.{done_one, not_done, asked, bound}
use Rattle.blocks.specs.Bytes.{le2, le8}
use Rattle.blocks.specs.Name.{Name}
use Rattle.blocks.specs.Tree.{Tree}
use Rattle.blocks.specs.Read.{small, read_layout, read_run}
use Rattle.ir.specs.Ir.{TypeIr}
use Rattle.ir.specs.Layout.{layout_of}
use Rattle.interpreter.specs.Eval.{ParamMap, refusal_at, lookup_type, eval_within}
use Rattle.interpreter.specs.Validate.{with_buffer_size, fits_buffer, validate_type, validate_run, run_of}
use Rattle.wire.specs.Poke.{Wrote}
use Rattle.wire.proofs.Laws.{both, none}
use Rattle.value.specs.declared.Value.{Value}
use Rattle.value.specs.Number.{number_of as value_of}
use Rattle.errors.specs.declared.Refusal.{Refusal}
use Rattle.std.specs.Prelude.{Result, Ok, Err}
use Rattle.errors.specs.Meaning.{number_of, refusal_of, outcome_of}
use Rattle.interpreter_validate.proofs.Laws.{run_at}
use Rattle.reader_leaf.specs.Answer.{read_of}
use Rattle.reader_calls.specs.Inputs.{read_call, passed}
use Rattle.lengths_definition.specs.Lengths.{digits, decimal, nearest, fill, line, stopped, run_length, answer_lines}
use Rattle.lengths_lines.specs.declared.Printed.TheVariants as printed
use Rattle.lengths_lines.specs.Lines.{IsLayout, Answered, AcceptedRun}

-- ---- decimal

-- no digits are asked for, and none are written
pub digits_none : (xs : List ℕ) (at k n : ℕ) → k ≡ 0 → Wrote xs at (digits k n) xs at
unfolding digits
digits_none xs at zero n h = none xs at
digits_none xs at (suc k) n h = absurd (let z : ⊥ = omega arith in z)

-- a number below 10 is one digit
pub digits_one : (xs ys : List ℕ) (at k n r : ℕ) → (k ≡ 0 → ⊥) → n < 10 → Wrote xs at ((0x30 + n) ∷ []) ys r → Wrote xs at (digits k n) ys r
unfolding digits
digits_one xs ys at zero n r h g w = absurd (h refl)
digits_one xs ys at (suc k) n r h g w = rw (lt-ltb _ _ g, digits) w

-- another is its digits but the last, and then the last
pub digits_more : (xs ys zs : List ℕ) (at p k n r : ℕ) → (k ≡ 0 → ⊥) → 10 ≤ n → Wrote xs at (digits (k - 1) (n / 10)) ys p → Wrote ys p ((0x30 + n % 10) ∷ []) zs r → Wrote xs at (digits k n) zs r
unfolding digits
digits_more xs ys zs at p zero n r h g w v = absurd (h refl)
digits_more xs ys zs at p (suc k) n r h g w v = rw (le-ltb _ _ g, digits) (both (rw sub-one at w) v)

-- ---- lines

-- four numbers, each with what stands behind it, are a line
pub line_puts : {xs ys zs us vs : List ℕ} {at a b c d : ℕ} (run q v f : ℕ) →
    Wrote xs at (decimal run ++ (0x20 ∷ [])) ys a → Wrote ys a (decimal q ++ (0x20 ∷ [])) zs b → Wrote zs b (decimal v ++ (0x20 ∷ [])) us c →
    Wrote us c (decimal f ++ (0x0A ∷ [])) vs d → Wrote xs at (line run q v f) vs d
unfolding line
line_puts run q v f g h i j = simp append_assoc at (both g (both h (both i j)))

-- the letter, a space and the number are the line that ends the output
pub stopped_puts : {xs ys zs us : List ℕ} {at a b c : ℕ} (q : ℕ) → Wrote xs at (0x53 ∷ []) ys a → Wrote ys a (0x20 ∷ []) zs b → Wrote zs b (decimal q ++ (0x0A ∷ [])) us c →
    Wrote xs at (stopped (plain q)) us c
unfolding stopped
stopped_puts q g h i = both g (both h i)

-- ---- fill

-- a length of one byte or more is not 0
pub positive : {n : ℕ} → 0 < n → n ≡ 0 → ⊥
positive h e = omega arith

-- i counts come to so many whole lengths and a rest
pub record Filled (count len i whole rest : ℕ) : Type 0 where
  pub turns : i ≤ 100
  pub few : whole ≤ i
  pub below : rest < len
  pub is : i * count ≡ whole * len + rest

module _ {count len i whole rest : ℕ} (t : i < 100) (f : Filled count len i whole rest) where
  -- one count more, which fits into the rest
  pub fill_in : {w r : ℕ} → rest < len - count → w ≡ whole → r ≡ rest + count → Filled count len (i + 1) w r
  fill_in h ew er =
      record { turns = omega arith; few = omega (arith, f.few); below = omega arith; is = rw (ew, er) (omega (arith, add-mul i 1 count, f.is)) }

  -- one count more, with which another whole length is reached
  pub fill_over : {w r : ℕ} → count ≤ len → len - count ≤ rest → w ≡ whole + 1 → r ≡ rest - (len - count) → Filled count len (i + 1) w r
  fill_over l h ew er =
      record { turns = omega arith; few = omega (arith, f.few); below = omega (arith, f.below); is = rw (ew, er) (omega (arith, add-mul i 1 count, add-mul whole 1 len, f.is)) }

-- of no bytes nothing is filled
pub fill_none : (count len : ℕ) → len ≡ 0 → 0 ≡ fill count len
unfolding fill
fill_none count len h = rw (eq-eqb len 0 h)

module _ (whole rest len : ℕ) (below : rest < len) where
  -- a rest that is less than what is missing is dropped
  pub nearest_down : rest < len - rest → whole ≡ nearest whole rest len
  unfolding nearest
  nearest_down h = rw (lt-ltb (2 * rest) len (omega arith))

  -- with a rest that is more, it is the next number
  pub nearest_up : len - rest < rest → whole + 1 ≡ nearest whole rest len
  unfolding nearest
  nearest_up h = rw (le-ltb (2 * rest) len (omega arith), lt-ltb len (2 * rest) (omega arith))

  -- an exact half goes to the even number
  pub nearest_even : len - rest ≤ rest → rest ≤ len - rest → whole + whole % 2 ≡ nearest whole rest len
  unfolding nearest
  nearest_even h g = rw (le-ltb (2 * rest) len (omega arith), le-ltb len (2 * rest) (omega arith))

-- the fill from the whole number and the rest
pub fill_parts : (count len : ℕ) {r : ℕ} → (len ≡ 0 → ⊥) → r ≡ nearest (100 * count / len) (100 * count % len) len → r ≡ fill count len
unfolding fill
fill_parts count len h e = rw (ne_eqb len 0 h) e

-- the whole number of a division can be raised by one, and its rest is below what it is divided by
pub parts_fit : (a b : ℕ) → (b ≡ 0 → ⊥) → a < 2 ^ 63 → (a / b < 2 ^ 63) × (a % b < b)
parts_fit a b h l = (omega (arith, div-le_self a b), mod-lt a {m = b} (omega arith))

module _ {count len i whole rest : ℕ} (h : len ≡ 0 → ⊥) (t : 100 ≤ i) (f : Filled count len i whole rest) where
  -- a hundred counts are so many whole lengths and a rest
  hundred : whole * len + rest ≡ 100 * count
  hundred = let e : i ≡ 100 = omega (arith, f.turns) in sym (rw e at f.is)

  -- they are the whole number and the rest of the division
  divided : 100 * count / len ≡ whole
  divided = div-eq_of_lt-le len (omega (arith, hundred)) (omega (arith, hundred, add-mul whole 1 len, f.below))

  remains : 100 * count % len ≡ rest
  remains = ap (λ n. n % len) (sym hundred) ∙ mul-add-mod_self_right whole len rest ∙ mod-eq_of_lt f.below

  -- so the fill is the number nearest to them
  pub fill_long : {r : ℕ} → r ≡ nearest whole rest len → r ≡ fill count len
  fill_long e = fill_parts count len h (e ∙ sym (ap₂ (λ w p. nearest w p len) divided remains))

-- ---- a run's buffer length

-- the name and the buffer length lie in the bytes
pub length_inside : {s : List ℕ} {n : ℕ} → AcceptedRun s → n ≡ le2 s 6 → 8 + n + 8 ≤ length s
length_inside a e = (run_at a.read e).inside

-- and so do the header and the name's length
pub length_name : {s : List ℕ} → AcceptedRun s → 8 ≤ length s
length_name {s} a = omega (arith, length_inside {s = s} {n = le2 s 6} a refl)

-- the buffer length of a run that was read
length_of : (s : List ℕ) {t : Tree} → read_run s ≡ done t → run_length s ≡ (run_of t).buffer_length
unfolding run_length ◌>>=◌
length_of s e = rw e

-- it is the number behind the name
pub length_is : {s : List ℕ} {n r : ℕ} → AcceptedRun s → n ≡ le2 s 6 → r ≡ le8 s (8 + n) → r ≡ run_length s
length_is {s} a e f = f ∙ sym (length_of s a.read ∙ (run_at a.read e).long)

-- ---- a layout that was read

-- its questions are passed
pub layout_passed : {s : List ℕ} → IsLayout s → read_of (Ok tt) ≡ passed (read_call read_layout 8192 s)
unfolding passed read_call enough small ask ◌>>=◌
layout_passed l = rw (le-leb _ _ l.small, l.read.1)

-- ---- what an accepted run says

-- a count that is given is at most the buffer length
counted_within : (p len count c : ℕ) → fits_buffer p len count ≡ done c → c ≤ len
counted_within p len count c e = go (leb count len) refl e
  where
    go : (b : Bool) → leb count len ≡ b → cond b (done count) (refused (refusal_at p 0 BufferTooSmall count)) ≡ done c → c ≤ len
    go true h d = omega (arith, done_one d, leb-true count len h)
    go false h d = absurd (not_done d)

-- so it is with a type
counted_type : (ts : List TypeIr) (m : Name) (len : ℕ) (γ : ParamMap) (c : ℕ) → validate_type ts m len γ ≡ done c → c ≤ len
unfolding validate_type
counted_type ts m len γ c e =
    let l = bound (lookup_type 0 m ts) _ _ e in
    let v = bound (eval_within 16 ts l.0.0 (with_buffer_size len γ) l.0.1.root) _ _ l.2 in
    counted_within l.0.0 len v.0 c v.2

-- and with a run, which then was read
counted : (n : ℕ) (s v : List ℕ) (c : ℕ) → validate_run n s v ≡ done c → (a : AcceptedRun v) × (c ≤ run_length v)
unfolding validate_run enough small
counted n s v c e =
    let a = asked (leb 8192 n) _ _ _ e in
    let b = asked (leb (length s) 65536) _ _ _ a.1 in
    let d = asked (leb (length v) 65536) _ _ _ b.1 in
    let l = bound (read_layout s) _ _ d.1 in
    last l.0 l.2
  where
    last : (t : Tree) → (read_run v >>= (λ r. validate_type (layout_of t) (run_of r).type_name (run_of r).buffer_length (run_of r).values)) ≡ done c → (a : AcceptedRun v) × (c ≤ run_length v)
    last t f =
        let r = bound (read_run v) _ _ f in
        (record { tree = r.0; read = r.1 }, rw (length_of v r.1) (counted_type (layout_of t) _ _ _ c r.2))

module _ (n : ℕ) (s v : List ℕ) {a : Result Value Refusal} {x : Value} {c : ℕ} (e : outcome_of a ≡ validate_run n s v) (f : a ≡ Ok x) (i : c ≡ value_of x) where
  -- the run came to a count
  is_done : validate_run n s v ≡ done c
  is_done = sym e ∙ ap outcome_of f ∙ ap done (sym i)

  -- it was read
  pub run_accepted : AcceptedRun v
  run_accepted = (counted n s v c is_done).0

  -- its count is at most its buffer length
  pub run_within : {len : ℕ} → len ≡ run_length v → c ≤ len
  run_within h = rw h (counted n s v c is_done).1

  -- its line was written
  pub answers_count : (run : ℕ) {len p c₀ r : ℕ} {xs ys : List ℕ} → len ≡ run_length v → p ≡ fill c len → Wrote xs c₀ (line run 0 c p) ys r →
      Answered (answer_lines run (run_length v) (validate_run n s v)) xs c₀ ys (printed.Line r)
  unfolding answer_lines
  answers_count run h g w = rw (is_done) (Answered.line w (λ more. rw (g, h)))

module _ (n : ℕ) (s v : List ℕ) {a : Result Value Refusal} {x : Refusal} (e : outcome_of a ≡ validate_run n s v) (f : a ≡ Err x) where
  -- the run was refused
  is_refused : validate_run n s v ≡ refused (refusal_of x)
  is_refused = sym e ∙ ap outcome_of f

  -- a refusal of reading ends the output
  pub answers_stop : (run : ℕ) {c r : ℕ} {xs ys : List ℕ} → number_of x.reason ≤ 6 → Wrote xs c (stopped (plain (number_of x.reason))) ys r →
      Answered (answer_lines run (run_length v) (validate_run n s v)) xs c ys (printed.Last r)
  unfolding answer_lines stopped refusal_of
  answers_stop run h w = rw is_refused (Answered.last w (λ more. rw (le-leb _ _ h)))

  -- another is a line
  pub answers_refused : (run : ℕ) {c r u : ℕ} {xs ys : List ℕ} → 6 < number_of x.reason → u ≡ value_of x.value → Wrote xs c (line run (number_of x.reason) u 0) ys r →
      Answered (answer_lines run (run_length v) (validate_run n s v)) xs c ys (printed.Line r)
  unfolding answer_lines refusal_of
  answers_refused run h i w = rw is_refused (Answered.line w (λ more. rw (lt-leb _ _ h, i)))
