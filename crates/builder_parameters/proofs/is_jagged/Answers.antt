-- `is_jagged`: only kind 5 is an array (`no_array`), and that says whether it is jagged.
use mathlib.Core.Path.{◌∙◌}
use borrow.Author.Tests.{ne_eqb}
use Rattle.resolved_parts.proofs.Laws.{inside, long}
use Rattle.builder_parameters.proofs.Fields.{no_array, an_array}
use native.Mathlib.Omega.{arith}
use Rattle.builder_parameters.proofs.is_jagged.Goals as goal

pub overflow_add-kind : goal.overflow_add-kind
overflow_add-kind c = omega (arith, inside c.requires)

pub read2-requires : goal.read2-requires
read2-requires c = omega (arith, inside c.requires, long c.requires)

pub returns-then-read2-eq5 : goal.returns-then-read2-eq5
returns-then-read2-eq5 c = λ a. an_array a (c.array_parts.ensures a)

pub returns-else-read2-eq5 : goal.returns-else-read2-eq5
returns-else-read2-eq5 c = λ a. ne_eqb _ 5 c.if-read2-eq5.false ∙ no_array a (λ e. c.if-read2-eq5.false (c.read2.ensures.0 ∙ e))
