-- The place of the path's key decides.
use native.Mathlib.Omega.{arith}
use mathlib.Core.Path.{sym, ap}
use mathlib.Core.Option.{some}
use Rattle.builder_registry.proofs.Places.{looked}
use Rattle.builder_registry.proofs.lookup_name.Goals as goal

pub returns-clause-looked : goal.returns-clause-looked
returns-clause-looked c = looked _ _ _ (omega (arith, c.requires)) _ _ c.place.ensures.value (some _) (ap some (sym c.normalize_path-key.ensures))
