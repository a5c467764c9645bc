-- `at_root` meets its contract: the value of the name in the block of values, or else the buffer length where the name is
-- `__buffer_size`: as `with_buffer_size` puts it behind the values.
use Rattle.interpreter_context.proofs.Calls.{block_at, held_value, held_length}
use Rattle.interpreter_context.proofs.at_root.Goals as goal

pub value_at-requires : goal.value_at-requires
value_at-requires c = (block_at (c.in-Some.ensures.value_found c.requires.0)).0

pub returns-in-Some-clause-result_value : goal.returns-in-Some-clause-result_value
returns-in-Some-clause-result_value c =
    λ a. held_value c.args.root.len c.value_at.result (c.in-Some.ensures.value_found a) c.value_at.ensures

pub returns-in-None-clause-result_value : goal.returns-in-None-clause-result_value
returns-in-None-clause-result_value c =
    λ a. held_length c.args.root.len c.of.result c.same_name.result (c.in-None.ensures.value_found a)
    c.same_name.ensures c.of.ensures c.then_some.ensures
