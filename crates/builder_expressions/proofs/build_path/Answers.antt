-- What the registry answers decides.
use native.Mathlib.Omega.{arith}
use Rattle.answers.proofs.Laws.{lacks}
use Rattle.builder_registry.proofs.Laws.{looked_entry}
use Rattle.builder_expressions.proofs.Laws.{ref_made, ref_long, ref_missing}
use Rattle.builder_expressions.proofs.build_path.Goals as goal

pub returns-in_err-i-clause-builds : goal.returns-in_err-i-clause-builds
returns-in_err-i-clause-builds c = lacks _ c.from_residual.ensures.1 c.in_err-i.ensures.value c.in_err-i.ensures.ok_part
    (ref_missing _ _ c.lookup_name.ensures.looked c.in_err-i.ensures.ok_part)

pub returns-then-path-gt255-clause-builds : goal.returns-then-path-gt255-clause-builds
returns-then-path-gt255-clause-builds c = ref_long _ _ c.lookup_name.ensures.looked c.in_ok-i.ensures.ok_part c.if-path-gt255.true

pub offset_bounds-words-i : goal.offset_bounds-words-i
offset_bounds-words-i c = omega (arith, (looked_entry c.in_ok-i.ensures.ok_part c.lookup_name.ensures.looked).0, c.requires.0.count)

pub bounds-words-i : goal.bounds-words-i
bounds-words-i c = omega (arith, (looked_entry c.in_ok-i.ensures.ok_part c.lookup_name.ensures.looked).0, c.requires.0.count, c.requires.0.words)

pub returns-clause-builds : goal.returns-clause-builds
returns-clause-builds c = ref_made _ _ c.lookup_name.ensures.looked c.requires.0.index c.in_ok-i.ensures.ok_part c.if-path-gt255.false
    c.put_path_ref-u.ensures.wrote
