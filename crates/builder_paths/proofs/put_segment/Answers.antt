-- `put_segment` meets its contract: the name, and a dot unless it is the last.
use native.Mathlib.Omega.{arith}
use Rattle.builder_paths.proofs.Segments.{put_dot, put_last}
use Rattle.builder_paths.proofs.put_segment.Goals as goal

pub returns-then-behind-gt0 : goal.returns-then-behind-gt0
returns-then-behind-gt0 c =
    let f = put_dot c.requires.0 c.name_at.ensures c.put_from-e.ensures.wrote (omega arith) c.put_byte.ensures.wrote in
    record { wrote = f.0; upper_bound = f.1 }

pub returns : goal.returns
returns c =
    let f = put_last c.requires.0 c.name_at.ensures c.put_from-e.ensures.wrote (omega arith) in
    record { wrote = f.0; upper_bound = f.1 }
