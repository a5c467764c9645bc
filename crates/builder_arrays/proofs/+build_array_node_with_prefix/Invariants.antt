-- The element of an array is shorter than it.
use Rattle.blocks.specs.Bytes.{le4}
use Rattle.builder_arrays.proofs.+build_array_node_with_prefix.Given as goal

abbrev pub decreases-build_array_node_with_prefix : goal.decreases-build_array_node_with_prefix
decreases-build_array_node_with_prefix l = le4 l.s.now l.array.offset
