-- The key where it is an owner, else the type's name where that is one, else the first owner, which there is.
use Rattle.std.proofs.Common.{sym, arith}
use Rattle.resolved_parts.proofs.Laws.{named_short}
use Rattle.builder_arrays.proofs.Owner.{first_is, under_key, under_name, under_first}
use Rattle.builder_arrays.proofs.owner_under.Goals as goal

pub overflow_add-references : goal.overflow_add-references
overflow_add-references c = omega (arith, (first_is c.requires.0.owners c.requires.0.some_owner).0.inside, c.requires.0.size)

pub overflow_add-references-2 : goal.overflow_add-references-2
overflow_add-references-2 c = omega (arith, (first_is c.requires.0.owners c.requires.0.some_owner).0.inside, c.requires.0.size)

pub overflow_add-references-3 : goal.overflow_add-references-3
overflow_add-references-3 c = omega (arith, (first_is c.requires.0.owners c.requires.0.some_owner).0.inside, c.requires.0.size)

pub name_at-requires : goal.name_at-requires
name_at-requires c = (first_is c.requires.0.owners c.requires.0.some_owner).0

pub returns-then-is_some-clause-result_value : goal.returns-then-is_some-clause-result_value
returns-then-is_some-clause-result_value c = under_key _ c.get.ensures.paths_found (sym c.if-is_some.ensures)

pub returns-then-is_some-2-clause-result_value : goal.returns-then-is_some-2-clause-result_value
returns-then-is_some-2-clause-result_value c =
    under_name _ c.get.ensures.paths_found (sym c.if-is_some.ensures) c.get-2.ensures.paths_found (sym c.if-is_some-2.ensures)

pub returns-clause-result_len_bound : goal.returns-clause-result_len_bound
returns-clause-result_len_bound c = named_short (first_is c.requires.0.owners c.requires.0.some_owner).0 c.name_at.ensures

pub returns-clause-result_value : goal.returns-clause-result_value
returns-clause-result_value c =
    under_first _ c.get.ensures.paths_found (sym c.if-is_some.ensures) c.get-2.ensures.paths_found (sym c.if-is_some-2.ensures)
    c.requires.0.some_owner c.name_at.ensures
