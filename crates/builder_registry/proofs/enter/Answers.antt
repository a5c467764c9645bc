-- The tests are the definition's, in its order; a word more, with its slots linked, is an entry more.
use native.Mathlib.Omega.{arith}
use mathlib.Core.Path.{◌∙◌, refl}
use lib.ListN.{length-set}
use Rattle.builder_registry.proofs.Changes.{entered_long, entered_full, entered, entered_here}
use Rattle.builder_registry.proofs.enter.Goals as goal

pub returns-then-name_length-gt255-clause-kept : goal.returns-then-name_length-gt255-clause-kept
returns-then-name_length-gt255-clause-kept c = entered_long _ _ _ _ _ (omega arith) c.name_length.ensures.value _ c.if-name_length-gt255.true

pub returns-then-n-ge512-clause-kept : goal.returns-then-n-ge512-clause-kept
returns-then-n-ge512-clause-kept c = entered_full _ _ _ _ _ (omega arith) c.name_length.ensures.value _ c.if-name_length-gt255.false c.if-n-ge512.true

pub returns-clause-kept : goal.returns-clause-kept
returns-clause-kept c = entered _ _ _ _ _ (omega (arith, c.requires.0)) c.name_length.ensures.value _ _ _ c.if-n-ge512.false c.requires.0.index c.link.ensures
    c.if-name_length-gt255.false (c.link.auto.words ∙ length-set c.args.words.now c.args.n c.args.w) c.requires.1.key c.alias_mark-alias.ensures

pub returns-clause-count_value : goal.returns-clause-count_value
returns-clause-count_value c = (refl, entered_here _ _ _ _ _ (omega (arith, c.requires.0)) c.name_length.ensures.value _ _ _ c.if-n-ge512.false c.requires.0.index c.link.ensures)
