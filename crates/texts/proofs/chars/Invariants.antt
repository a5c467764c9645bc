-- The bytes so far leave `left`.
use Rattle.std.proofs.Common.{◌≡◌, drop, Some}
use Rattle.blocks.specs.Name.{well_formed}
use Rattle.texts.specs.Left.{goes}
use Rattle.texts.proofs.chars.Given as goal

abbrev pub invariant-loop-b : goal.invariant-loop-b
invariant-loop-b l = well_formed l.s ≡ goes (Some l.left) (drop l.b-index l.s)
