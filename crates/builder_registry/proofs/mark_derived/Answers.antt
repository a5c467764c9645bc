-- The word with its bit set holds the derived entry.
use native.Mathlib.Omega.{arith}
use Rattle.builder_registry.proofs.Changes.{mark_nothing, mark_again, mark_first, mark_index}
use Rattle.builder_registry.proofs.mark_derived.Goals as goal

pub returns-then-not-is_derived-clause-n_after : goal.returns-then-not-is_derived-clause-n_after
returns-then-not-is_derived-clause-n_after c = mark_first _ _ _ (omega (arith, c.requires)) _ _ c.lookup_name.ensures.value c.in-Some.is _ c.is_derived.ensures c.derived_word.ensures c.if-not-is_derived.true

pub returns-then-not-is_derived-clause-indexed : goal.returns-then-not-is_derived-clause-indexed
returns-then-not-is_derived-clause-indexed c = mark_index _ _ _ (omega (arith, c.requires)) _ _ c.lookup_name.ensures.value c.in-Some.is _ c.is_derived.ensures c.derived_word.ensures c.requires.count c.requires.index

pub returns-else-not-is_derived-clause-n_after : goal.returns-else-not-is_derived-clause-n_after
returns-else-not-is_derived-clause-n_after c = mark_again _ _ _ (omega (arith, c.requires)) _ _ c.lookup_name.ensures.value c.in-Some.is _ c.is_derived.ensures c.if-not-is_derived.false

pub returns-in_default-clause-n_after : goal.returns-in_default-clause-n_after
returns-in_default-clause-n_after c = mark_nothing _ _ _ (omega (arith, c.requires)) _ _ c.lookup_name.ensures.value c.in_default.is
