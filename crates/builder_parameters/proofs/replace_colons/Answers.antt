-- `replace_colons`: a `::` is passed, or one byte.
use mathlib.Core.Path.{sym}
use native.Mathlib.Omega.{arith}
use lib.Seq.{length-take-le}
use Rattle.std.specs.Prelude.{Some, None}
use Rattle.std.proofs.lemmas.Bool.Decides.{Decides-eqb}
use Rattle.std.proofs.lemmas.Slice.Eq.{strip_prefix_is}
use Rattle.blocks.specs.Name.{ascii}
use Rattle.builder_parameters.proofs.Segments.{stands, pair_more, one_more, no_more_bytes}
use Rattle.builder_parameters.proofs.replace_colons.Goals as goal

pub loop-first-preserved-in-Some-strip_prefix : goal.loop-first-preserved-in-Some-strip_prefix
loop-first-preserved-in-Some-strip_prefix c =
    let e = strip_prefix_is Decides-eqb c.loop-first.rest.now (ascii "::") (Some c.in-Some-strip_prefix.behind)
    c.in-Some-strip_prefix.ensures.cases in (
      omega (arith, c.loop-first.invariant.0, c.in-Some-strip_prefix.ensures.cases.2, c.put_byte-p.ensures.value),
      λ zs r g. c.loop-first.invariant.1 zs r (pair_more _ _ e c.put_byte-p.ensures.wrote g),
    )

pub loop-first-preserved : goal.loop-first-preserved
loop-first-preserved c =
    let h = strip_prefix_is Decides-eqb c.loop-first.rest.now (ascii "::") None c.in-None.ensures.cases in (
      omega (arith, c.loop-first.invariant.0, c.in-Some.ensures.cases.1, c.put_byte-p-in-None.ensures.value),
      λ zs r g. c.loop-first.invariant.1 zs r (one_more _ _ _ c.in-Some.ensures.cases.0 h c.put_byte-p-in-None.ensures.wrote g),
    )

pub slice_bounds-result-end : goal.slice_bounds-result-end
slice_bounds-result-end c = sym (length-take-le _ _ (omega (arith, c.loop-first.invariant.0, c.requires.0)))

pub returns : goal.returns
returns c =
    let w = c.loop-first.invariant.1 _ _ (no_more_bytes _ _ _ c.in_default.ensures.cases) in
    stands w (omega (arith, w.end, c.loop-first.invariant.0, c.requires.0))
