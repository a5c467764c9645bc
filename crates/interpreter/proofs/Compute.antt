-- What a proof by computation opens.
use Rattle.interpreter.specs.Arithmetic.{checked_add, checked_sub, checked_mul, checked_div, checked_mod, checked_left_shift, checked_right_shift, align_up, operate}
use Rattle.interpreter.specs.Eval.{find, value_or, lift, eval_node, collect_arguments, inherited, lookup_type, eval_call, eval_within}
use Rattle.interpreter.specs.Validate.{validate_type, values_of, validate, validate_run}

-- `unfolding compute` unfolds every definition of this crate
unfoldable pub compute : Unit {0}
unfolding checked_add checked_sub checked_mul checked_div checked_mod checked_left_shift checked_right_shift align_up operate find value_or lift eval_node collect_arguments inherited lookup_type eval_call eval_within validate_type values_of validate validate_run
compute = tt
