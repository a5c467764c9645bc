-- `root` meets its contract: the root stands behind the name and the alignment.
use mathlib.Core.Path.{refl}
use native.Mathlib.Omega.{arith}
use Rattle.interpreter_context.proofs.Lists.{tree_of}
use Rattle.interpreter_leaves.proofs.root.Goals as goal

pub overflow_add-result : goal.overflow_add-result
overflow_add-result c = omega (arith, (tree_of c.requires refl).low)

pub overflow_add-callee : goal.overflow_add-callee
overflow_add-callee c = omega (arith, (tree_of c.requires refl).low)

pub read2-requires : goal.read2-requires
read2-requires c = omega (arith, (tree_of c.requires refl).low)

pub overflow_add-result-2 : goal.overflow_add-result-2
overflow_add-result-2 c = omega (arith, (tree_of c.requires c.read2.ensures.0).low)

pub returns : goal.returns
returns c = λ t. let x = tree_of t c.read2.ensures.0 in record { root = x.root; is = x.is }
