-- `segment_length` meets its contract: the name's length, and one for the dot unless it is the last.
use native.Mathlib.Omega.{arith}
use Rattle.builder_paths.proofs.Segments.{long_dot, long_last}
use Rattle.builder_paths.proofs.segment_length.Goals as goal

pub returns-then-behind-gt0 : goal.returns-then-behind-gt0
returns-then-behind-gt0 c = long_dot _ _ c.requires c.read2-n.ensures.0 (omega arith)

pub returns : goal.returns
returns c = long_last _ _ c.requires c.read2-n.ensures.0 (omega arith)
