-- The count, then the element's references.
use Rattle.std.proofs.Common.{refl}
use Rattle.answers.proofs.Laws.{hands}
use Rattle.builder_registry.proofs.Laws.{standing}
use Rattle.builder_nodes.proofs.Laws.{builds_index}
use Rattle.builder_arrays.proofs.Laws.{count_stops, enter_stops, count_goes}
use Rattle.builder_arrays.proofs.build_counted.Goals as goal

pub extend_with-requires : goal.extend_with-requires
extend_with-requires c = (
  standing c.requires.0.standing refl c.in_ok-counted.ensures.within.count (builds_index (c.in_ok-counted.ensures.builds c.requires.0.expression)),
  c.requires.1,
)

pub returns-in_err-counted-clause-builds : goal.returns-in_err-counted-clause-builds
returns-in_err-counted-clause-builds c = λ e f. hands _ c.from_residual.ensures.1 (count_stops _ _ _ _ _ (c.in_err-counted.ensures.builds e))

pub returns-in_err-count-clause-builds : goal.returns-in_err-count-clause-builds
returns-in_err-count-clause-builds c = λ e f.
    hands _ c.from_residual-in_err-count.ensures.1 (enter_stops _ _ _ _ _ (c.in_ok-counted.ensures.builds e) (c.in_err-count.ensures.kept f))

pub returns-clause-builds : goal.returns-clause-builds
returns-clause-builds c = λ e f. count_goes _ _ _ _ _ (c.in_ok-counted.ensures.builds e) (c.in_ok-count.ensures.kept f)
