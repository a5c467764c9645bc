-- `put_parameters`: a table of zeros is an empty one (`table_ready`); the smaller has room for 64 entries, the larger for all that a registry can have.
use Rattle.builder_parameters.proofs.Pass.{table_ready}
use native.Mathlib.Omega.{arith}
use Rattle.builder_parameters.proofs.put_parameters.Goals as goal

pub put_listed-requires : goal.put_listed-requires
put_listed-requires c =
    table_ready 191
    c.requires
    c.any_jagged-jagged.ensures
    (omega arith)

pub put_listed-requires-2 : goal.put_listed-requires-2
put_listed-requires-2 c =
    table_ready 639
    c.requires
    c.any_jagged-jagged.ensures
    (omega (arith, c.requires.standing.count))
