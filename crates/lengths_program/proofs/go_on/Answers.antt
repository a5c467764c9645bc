-- `go_on` meets its contract: the program ends with the runs, or what was not used of the buffer stands at its start.
use mathlib.Core.Path.{refl}
use Rattle.lengths_program.proofs.Calls.{go_ended, go_more}
use Rattle.lengths_program.proofs.go_on.Goals as goal

pub returns-in-Ended : goal.returns-in-Ended
returns-in-Ended c =
    go_ended c.run_lines.ensures _ c.in-Ended.is c.ended.ensures

pub returns-in-More : goal.returns-in-More
returns-in-More c =
    go_more
    c.args.input.now _
    c.run_lines.ensures
    c.in-More.is
    c.requires.2
    c.requires.0
    c.keep.ensures.0
    c.keep.ensures.1
    refl refl refl refl refl
