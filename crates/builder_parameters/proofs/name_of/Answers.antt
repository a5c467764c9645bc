-- `name_of`: what was written is the name's length and the name.
use native.Mathlib.Omega.{arith}
use Rattle.builder_parameters.proofs.Segments.{name_stands}
use Rattle.builder_parameters.proofs.name_of.Goals as goal

pub slice_bounds-result-count : goal.slice_bounds-result-count
slice_bounds-result-count c = omega (arith, (name_stands _ c.put_entry_name-end.ensures.wrote (omega arith)).1)

pub slice_bounds-result-start : goal.slice_bounds-result-start
slice_bounds-result-start c = omega (arith, (name_stands _ c.put_entry_name-end.ensures.wrote (omega arith)).1)

pub returns-clause-value : goal.returns-clause-value
returns-clause-value c = (name_stands _ c.put_entry_name-end.ensures.wrote (omega arith)).0
