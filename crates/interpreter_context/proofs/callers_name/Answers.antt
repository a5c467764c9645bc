-- `callers_name` meets its contract: the last argument of the name decides, and where there is none, whether the parameters list the
-- name.
use Rattle.std.proofs.Common.{refl}
use Rattle.interpreter_context.proofs.Calls.{from_argument, from_list}
use Rattle.interpreter_context.proofs.callers_name.Goals as goal

pub returns-in-Some : goal.returns-in-Some
returns-in-Some c = λ p. from_argument _ _ _ (c.in-Some.ensures p.call)

pub returns-in-None : goal.returns-in-None
returns-in-None c =
    λ p. from_list _ _ _ c.is_listed.result c.args.name (c.in-None.ensures p.call) (c.is_listed.ensures p.type) refl c.then_some.ensures
