-- `value` meets its contract: the value that was found, or the first of the name among the entries that are left.
use Rattle.std.proofs.Common.{sym, ◌∙◌}
use Rattle.lookup.proofs.Values.{first_found}
use Rattle.interpreter_values.proofs.Entries.{left_at, left_among}
use Rattle.interpreter_values.proofs.value.Goals as goal

pub returns-in-At-clause-value_found : goal.returns-in-At-clause-value_found
returns-in-At-clause-value_found c = λ a. first_found c.args.block c.args.name.now a (left_at c.in-At.ensures.leaves)

pub returns-in-Among-clause-value_found : goal.returns-in-Among-clause-value_found
returns-in-Among-clause-value_found c =
    λ a. first_found c.args.block c.args.name.now a (c.value_from.ensures ∙ sym (left_among c.in-Among.ensures.leaves).1)
