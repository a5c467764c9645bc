-- What the heads of the array and of its element say, and the array's parts.
use Rattle.builder_arrays.proofs.Laws.{none_as, shaped}
use Rattle.builder_arrays.proofs.read_shape.Goals as goal

pub type_head-inner-requires : goal.type_head-inner-requires
type_head-inner-requires c = (c.array_parts-parts.ensures c.requires.0).element

pub returns-then-parts : goal.returns-then-parts
returns-then-parts c =
    λ a. shaped _ (c.type_head-head.ensures a) (c.array_parts-parts.ensures a)
    (c.type_head-inner.ensures (c.array_parts-parts.ensures a).element) (rw c.if-parts.true (none_as _ c.is_none.ensures))

pub returns-else-parts : goal.returns-else-parts
returns-else-parts c =
    λ a. shaped _ (c.type_head-head.ensures a) (c.array_parts-parts.ensures a)
    (c.type_head-inner.ensures (c.array_parts-parts.ensures a).element) (rw c.if-parts.false)
