-- `is_jagged_element`: the segment before `element` is found in the name with `.` for `::`, and the fields of the struct are asked for
-- a jagged array of that name.
use mathlib.Core.Path.{◌∙◌, ap}
use Rattle.resolved.specs.Set.{type_of}
use Rattle.accepted.specs.Accepted.{tree}
use Rattle.builder.specs.Names.{replace_colons}
use Rattle.builder_parameters.proofs.Listed.{element_yes, element_no}
use Rattle.builder_parameters.proofs.is_jagged_element.Goals as goal

pub returns-in-Some : goal.returns-in-Some
returns-in-Some c = λ x.
    let e = c.replace_colons.ensures ∙ ap replace_colons c.name_of.ensures.value in
    element_yes _ e (type_of (tree x)) c.in-Some.ensures (c.has_jagged.ensures x)

pub returns-in-None : goal.returns-in-None
returns-in-None c = λ x.
    let e = c.replace_colons.ensures ∙ ap replace_colons c.name_of.ensures.value in
    element_no _ e (type_of (tree x)) c.in-None.ensures
