-- The lookup of the path under the owner, then the test of the length of owner.path, in the order of the definition.
use native.Mathlib.Omega.{arith}
use mathlib.Core.Path.{◌∙◌}
use Rattle.answers.proofs.Laws.{lacks}
use Rattle.builder_registry.proofs.Laws.{looked_entry}
use Rattle.builder_sums.proofs.Sums.{ref_missing, ref_long, ref_done}
use Rattle.builder_sums.proofs.put_ref.Goals as goal

pub returns-in_err-e-clause-builds : goal.returns-in_err-e-clause-builds
returns-in_err-e-clause-builds c = lacks _ c.from_residual.ensures.1 c.in_err-e.ensures.value c.in_err-e.ensures.ok_part
    (ref_missing _ (c.name_at-path.ensures ∙ c.nth.ensures.1) c.lookup_name.ensures.looked c.in_err-e.ensures.ok_part)

pub returns-then-owner-path-gt255-clause-builds : goal.returns-then-owner-path-gt255-clause-builds
returns-then-owner-path-gt255-clause-builds c = ref_long _ (c.name_at-path.ensures ∙ c.nth.ensures.1) c.lookup_name.ensures.looked c.in_ok-e.ensures.ok_part c.if-owner-path-gt255.true

pub offset_bounds-words-e : goal.offset_bounds-words-e
offset_bounds-words-e c = omega (arith, (looked_entry c.in_ok-e.ensures.ok_part c.lookup_name.ensures.looked).0, c.requires.0.standing.count)

pub bounds-words-e : goal.bounds-words-e
bounds-words-e c = omega (
  arith,
  (looked_entry c.in_ok-e.ensures.ok_part c.lookup_name.ensures.looked).0,
  c.requires.0.standing.count,
  c.requires.0.standing.words,
)

pub returns-clause-builds : goal.returns-clause-builds
returns-clause-builds c = ref_done _ (c.name_at-path.ensures ∙ c.nth.ensures.1) c.lookup_name.ensures.looked c.requires.0.standing.index c.in_ok-e.ensures.ok_part
    c.if-owner-path-gt255.false c.put_size_ref-r.ensures.wrote
