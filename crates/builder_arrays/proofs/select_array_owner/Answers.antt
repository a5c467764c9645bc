-- The key is what stands behind the last `::` of the name, or else `array`.
use Rattle.builder_arrays.proofs.Owner.{selects, key_behind, key_array}
use Rattle.builder_arrays.proofs.select_array_owner.Goals as goal

pub returns-in-Some-clause-g_value : goal.returns-in-Some-clause-g_value
returns-in-Some-clause-g_value c = selects c.requires.0.some_owner (key_behind _ _ c.in-Some.ensures.parts) c.owner_under.ensures.result_value

pub returns-in-None-clause-g_value : goal.returns-in-None-clause-g_value
returns-in-None-clause-g_value c = selects c.requires.0.some_owner (key_array _ c.in-None.ensures.parts) c.owner_under-in-None.ensures.result_value
