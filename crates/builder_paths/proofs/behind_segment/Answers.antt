-- `behind_segment` meets its contract: the name's bytes are passed, and the dot's unless it is the last.
use native.Mathlib.Omega.{arith}
use Rattle.std.specs.Prelude.{Some, None}
use Rattle.blocks.specs.Name.{ascii}
use Rattle.builder_paths.proofs.Match.{behind_part, segment_missed, last_met, dot_met}
use Rattle.builder_paths.proofs.behind_segment.Goals as goal

pub returns-in_err-rest : goal.returns-in_err-rest
returns-in_err-rest c =
    rw (c.from_residual.ensures, ← c.name_at.ensures) (segment_missed _ _ _ (behind_part _ _ None c.in_err-rest.ensures.cases))

pub returns-then-behind-gt0 : goal.returns-then-behind-gt0
returns-then-behind-gt0 c =
    rw (← c.name_at.ensures)
    (dot_met _ _ _ c.in_ok-rest.rest c.strip_prefix-then-behind-gt0.result (omega arith)
    (behind_part _ _ (Some c.in_ok-rest.rest) c.in_ok-rest.ensures.cases)
    (behind_part c.in_ok-rest.rest.now (ascii ".") c.strip_prefix-then-behind-gt0.result c.strip_prefix-then-behind-gt0.ensures.cases))

pub returns : goal.returns
returns c =
    rw (← c.name_at.ensures) (last_met _ _ _ c.in_ok-rest.rest (omega arith)
    (behind_part _ _ (Some c.in_ok-rest.rest) c.in_ok-rest.ensures.cases))
