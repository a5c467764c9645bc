-- What the context has of the name is what the node evaluates to.
use mathlib.Core.Path.{◌∙◌, ap}
use Rattle.errors.specs.Refusal.{refused}
use Rattle.interpreter.specs.Eval.{value_or}
use Rattle.interpreter_leaves.proofs.Nodes.{ref_answers}
use Rattle.interpreter_leaves.proofs.field.Goals as goal

pub returns-in_default-clause-tells : goal.returns-in_default-clause-tells
unfolding value_or
returns-in_default-clause-tells c =
    λ handle γ x a. ap refused c.missing.ensures
    ∙ ref_answers _ γ c.field_name-name.ensures c.requires.1 (c.found.ensures.result_value γ x) c.in_default.is handle a

pub returns-clause-tells : goal.returns-clause-tells
unfolding value_or
returns-clause-tells c =
    λ handle γ x a. ref_answers _ γ c.field_name-name.ensures c.requires.1 (c.found.ensures.result_value γ x) c.in-Some.is handle a
