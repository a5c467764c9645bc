-- `behind` meets its contract: by the part's code, what stands behind a number, a text, an optional text or a block.
use native.Mathlib.Omega.{arith}
use Rattle.interpreter_context.proofs.Laws.{step, past}
use Rattle.interpreter_context.proofs.behind.Goals as goal

pub overflow_add-result : goal.overflow_add-result
overflow_add-result c =
    omega (
      arith,
      ((step c.requires.2 c.requires.3 c.requires.4).number c.if-code-eq-NUMBER.true).inside,
      c.requires.4.fits,
    )

pub returns-then-code-eq-NUMBER : goal.returns-then-code-eq-NUMBER
returns-then-code-eq-NUMBER c = λ p ps x h e. (step h e x).number c.if-code-eq-NUMBER.true

pub overflow_add-result-then-code-eq-TEXT : goal.overflow_add-result-then-code-eq-TEXT
overflow_add-result-then-code-eq-TEXT c =
    omega (
      arith,
      ((step c.requires.2 c.requires.3 c.requires.4).text c.if-code-eq-TEXT.true).inside,
      c.requires.4.fits,
    )

pub read2-requires : goal.read2-requires
read2-requires c =
    omega (
      arith,
      ((step c.requires.2 c.requires.3 c.requires.4).text c.if-code-eq-TEXT.true).inside,
      c.requires.4.fits,
    )

pub overflow_add-result-then-code-eq-TEXT-2 : goal.overflow_add-result-then-code-eq-TEXT-2
overflow_add-result-then-code-eq-TEXT-2 c =
    omega (
      arith,
      ((step
          c.requires.2
          c.requires.3
          c.requires.4).text
          c.if-code-eq-TEXT.true).inside,
      c.requires.4.fits,
      c.read2.ensures.0,
    )

pub returns-then-code-eq-TEXT : goal.returns-then-code-eq-TEXT
returns-then-code-eq-TEXT c = λ p ps x h e. past 2 c.read2.ensures.0 ((step h e x).text c.if-code-eq-TEXT.true)

pub bounds-s-at : goal.bounds-s-at
bounds-s-at c =
    omega (
      arith,
      (step c.requires.2 c.requires.3 c.requires.4).flag c.if-code-eq-OPT_TEXT.true,
      c.requires.4.fits,
    )

pub read2-requires-then-b-eq1 : goal.read2-requires-then-b-eq1
read2-requires-then-b-eq1 c = omega (
  arith,
  ((step
      c.requires.2
      c.requires.3
      c.requires.4).given
      c.if-code-eq-OPT_TEXT.true
      c.if-b-eq1.true).inside,
  c.requires.4.fits,
)

pub returns-then-b-eq1 : goal.returns-then-b-eq1
returns-then-b-eq1 c =
    λ p ps x h e. past 3
    c.read2-then-b-eq1.ensures.0
    ((step h e x).given c.if-code-eq-OPT_TEXT.true c.if-b-eq1.true)

pub overflow_add-result-then-code-eq-OPT_TEXT : goal.overflow_add-result-then-code-eq-OPT_TEXT
overflow_add-result-then-code-eq-OPT_TEXT c =
    omega (
      arith,
      ((step
          c.requires.2
          c.requires.3
          c.requires.4).absent
          c.if-code-eq-OPT_TEXT.true
          c.if-b-eq1.false).inside,
      c.requires.4.fits,
    )

pub returns-then-code-eq-OPT_TEXT : goal.returns-then-code-eq-OPT_TEXT
returns-then-code-eq-OPT_TEXT c = λ p ps x h e. (step h e x).absent c.if-code-eq-OPT_TEXT.true c.if-b-eq1.false

pub overflow_add-result-2 : goal.overflow_add-result-2
overflow_add-result-2 c =
    omega (
      arith,
      ((step
          c.requires.2
          c.requires.3
          c.requires.4).block
          c.if-code-eq-NUMBER.false
          c.if-code-eq-TEXT.false
          c.if-code-eq-OPT_TEXT.false).inside,
      c.requires.4.fits,
    )

pub read4-requires : goal.read4-requires
read4-requires c =
    omega (
      arith,
      ((step
          c.requires.2
          c.requires.3
          c.requires.4).block
          c.if-code-eq-NUMBER.false
          c.if-code-eq-TEXT.false
          c.if-code-eq-OPT_TEXT.false).inside,
      c.requires.4.fits,
    )

pub overflow_add-result-3 : goal.overflow_add-result-3
overflow_add-result-3 c =
    omega (
      arith,
      ((step
          c.requires.2
          c.requires.3
          c.requires.4).block
          c.if-code-eq-NUMBER.false
          c.if-code-eq-TEXT.false
          c.if-code-eq-OPT_TEXT.false).inside,
      c.requires.4.fits,
      c.read4.ensures.0,
    )

pub returns : goal.returns
returns c =
    λ p ps x h e. past 4
    c.read4.ensures.0
    ((step h e x).block c.if-code-eq-NUMBER.false c.if-code-eq-TEXT.false c.if-code-eq-OPT_TEXT.false)
