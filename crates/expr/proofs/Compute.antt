-- What a proof by computation opens: `unfolding compute` unfolds every definition of this crate.
use Rattle.expr.specs.Expr.{literals, form_of, make_expr, expr_of}

-- has no value of interest: a proof that unfolds it unfolds what it names
unfoldable pub compute : Unit {0}
unfolding literals form_of make_expr expr_of
compute = tt
