-- `later` meets its contract: an argument of the name replaces what was found before.
use Rattle.std.proofs.Common.{arith}
use Rattle.interpreter_context.proofs.Blocks.{argument}
use Rattle.interpreter_context.proofs.Lists.{arg, this_one, not_this}
use Rattle.interpreter_context.specs.Names.{named}
use Rattle.interpreter_context.proofs.later.Goals as goal

pub overflow_add-at : goal.overflow_add-at
overflow_add-at c = omega (arith, (arg c.requires).name)

pub is_named-requires : goal.is_named-requires
is_named-requires c = (arg c.requires).name

pub overflow_add-at-then-is_named : goal.overflow_add-at-then-is_named
overflow_add-at-then-is_named c = omega (arith, (arg c.requires).name)

pub behind_name-requires : goal.behind_name-requires
behind_name-requires c = (arg c.requires).name

pub name_at-requires : goal.name_at-requires
name_at-requires c = (argument c.requires c.behind_name.ensures).value

pub returns-then-is_named : goal.returns-then-is_named
returns-then-is_named c = this_one _ c.is_named.ensures (named c.args.before) c.if-is_named.true c.behind_name.ensures c.name_at.ensures

pub returns : goal.returns
returns c = not_this _ c.is_named.ensures (named c.args.before) c.if-is_named.false
