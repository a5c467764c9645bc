-- `is_listed` meets its contract: the search is made among the parameters, which stand behind the root.
use Rattle.std.proofs.Common.{◌∙◌, refl, arith}
use Rattle.interpreter_context.proofs.Lists.{parameters_at, parameters_in, listed_of, tree_of}
use Rattle.interpreter_context.proofs.is_listed.Goals as goal

pub overflow_add-root : goal.overflow_add-root
overflow_add-root c = omega (arith, (tree_of c.requires refl).low)

pub overflow_add-callee : goal.overflow_add-callee
overflow_add-callee c = omega (arith, (tree_of c.requires refl).low)

pub read2-requires : goal.read2-requires
read2-requires c = omega (arith, (tree_of c.requires refl).low)

pub overflow_add-root-2 : goal.overflow_add-root-2
overflow_add-root-2 c = omega (arith, (tree_of c.requires c.read2.ensures.0).low)

pub overflow_add-list : goal.overflow_add-list
overflow_add-list c = omega (arith, (tree_of c.requires c.read2.ensures.0).low)

pub read4-requires : goal.read4-requires
read4-requires c = omega (arith, (tree_of c.requires c.read2.ensures.0).low)

pub overflow_add-list-2 : goal.overflow_add-list-2
overflow_add-list-2 c = omega (arith, (parameters_at c.requires c.read2.ensures.0 c.read4.ensures.0).inside)

pub read2-requires-2 : goal.read2-requires-2
read2-requires-2 c = (parameters_at c.requires c.read2.ensures.0 c.read4.ensures.0).inside

pub overflow_add-list-3 : goal.overflow_add-list-3
overflow_add-list-3 c = omega (arith, (parameters_at c.requires c.read2.ensures.0 c.read4.ensures.0).inside)

pub block_named-requires : goal.block_named-requires
block_named-requires c = parameters_in _ (parameters_at c.requires c.read2.ensures.0 c.read4.ensures.0) c.read2-2.ensures.0

pub returns : goal.returns
returns c =
    λ t. c.is_some.ensures
    ∙ listed_of t (parameters_at t c.read2.ensures.0 c.read4.ensures.0) c.read2-2.ensures.0 c.block_named.ensures
