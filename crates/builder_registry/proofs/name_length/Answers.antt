-- no entry's name is longer
use native.Mathlib.Omega.{arith}
use Rattle.builder_registry.proofs.Names.{length_path, entry_short}
use Rattle.builder_registry.proofs.name_length.Goals as goal

pub returns-in-None-clause-upper_bound : goal.returns-in-None-clause-upper_bound
returns-in-None-clause-upper_bound c = omega (arith, length_path _ _ c.made_of.ensures c.owner_of-o.ensures.result_value c.path_of.ensures.result_value c.in-None.is c.canonical_length.ensures, entry_short c.args.s.now c.args.w)
