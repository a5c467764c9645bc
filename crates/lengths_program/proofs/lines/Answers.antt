-- `lines` meets its contract: the set, and then the runs, or the runs, as far as they are there.
use Rattle.lengths_program.proofs.Calls.{lines_runs, lines_built}
use Rattle.lengths_program.proofs.lines.Goals as goal

pub returns-in-Runs : goal.returns-in-Runs
returns-in-Runs c =
    lines_runs c.args.state.held c.args.layout.now c.args.input.now c.in-Runs.is c.go_on.ensures

pub returns-in-Built : goal.returns-in-Built
returns-in-Built c =
    lines_built
    c.in-Set.is
    c.args.state.held c.args.layout.now c.args.input.now
    c.begin.ensures
    c.in-Built.is
    c.requires.held
    c.go_on-in-Built.ensures
