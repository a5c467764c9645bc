-- What a proof by computation opens: `unfolding compute` unfolds every definition of this crate.
use Rattle.resolved.specs.Resolved.{fields, variants, get, get_type_info}
use Rattle.resolved.specs.Set.{fields_in, variants_in, form_of, make_thing, thing_of, type_of, types_of}

-- has no value of interest: a proof that unfolds it unfolds what it names
unfoldable pub compute : Unit {0}
unfolding fields variants get get_type_info fields_in variants_in form_of make_thing thing_of type_of types_of
compute = tt
