-- The place of the qualified path's key decides; without a parent there is none.
use native.Mathlib.Omega.{arith}
use Rattle.builder.specs.Names.{qualify_parent_path}
use Rattle.builder_registry.proofs.Index.{sought_joined}
use Rattle.builder_registry.proofs.Places.{looked, looked_in, looked_nothing, nothing_in}
use Rattle.builder_registry.proofs.lookup_qualified.Goals as goal

pub returns-in_err-key : goal.returns-in_err-key
returns-in_err-key c = rw c.from_residual.ensures (record {
  looked = looked_nothing _ _ _ _ (qualify_parent_path _ _) c.in_err-key.ensures;
  value = nothing_in _ _ _ _ (qualify_parent_path _ _) c.in_err-key.ensures;
})

pub place-requires : goal.place-requires
place-requires c = (c.requires, sought_joined _ _ c.mark-mark.ensures c.mark.ensures c.mark_of.ensures)

pub returns-clause-looked : goal.returns-clause-looked
returns-clause-looked c = looked _ _ _ (omega (arith, c.requires)) _ _ c.place.ensures.value (qualify_parent_path _ _) c.in_ok-key.ensures.key

pub returns-clause-value : goal.returns-clause-value
returns-clause-value c = looked_in _ _ _ (omega (arith, c.requires)) _ _ c.place.ensures.value (qualify_parent_path _ _) c.in_ok-key.ensures.key
