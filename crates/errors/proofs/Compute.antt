-- What a proof by computation opens: `unfolding compute` unfolds every definition of this crate.
use Rattle.errors.specs.Refusal.{◌>>=◌, ask, at_type, enough}

-- has no value of interest: a proof that unfolds it unfolds what it names
unfoldable pub compute : Unit {0}
unfolding ◌>>=◌ ask at_type enough
compute = tt
