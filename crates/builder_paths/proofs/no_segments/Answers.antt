-- `builder_paths::no_segments` meets its contract: the count of the accepted list is read. Assumes nothing.
use mathlib.Core.Path.{◌≡◌}
use native.Mathlib.Omega.{arith}
use Rattle.builder_paths.specs.Joined.{no_names}
use Rattle.builder_paths.proofs.Segments.{inside, no_names_lem, for_segments}
use Rattle.builder_paths.proofs.no_segments.Goals as goal

pub overflow_add-at : goal.overflow_add-at
overflow_add-at c = omega (arith, inside c.requires.0 c.requires.1)

pub read2-requires : goal.read2-requires
read2-requires c = omega (arith, inside c.requires.0 c.requires.1)

pub returns : goal.returns
returns c =
    for_segments
    (λ ns. _ ≡ no_names ns)
    c.requires.1
    (λ l. rw c.read2.ensures.0 (no_names_lem l))
