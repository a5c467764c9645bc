-- `run_end` meets its contract: a run ends where its length field says, or where the bytes do.
use Rattle.interpreter_runs.proofs.Laws.{ends_short, ends_cut, ends_inside}
use borrow.Author.Rules.{rules}
use Rattle.interpreter_runs.proofs.run_end.Goals as goal

pub returns-then-left-lt4 : goal.returns-then-left-lt4
returns-then-left-lt4 c = ends_short _ _ c.requires c.if-left-lt4.true

pub returns-then-left-n : goal.returns-then-left-n
returns-then-left-n c =
    ends_cut
    c.args.s.now _
    c.requires
    c.read4-n.ensures.0
    c.if-left-lt4.false
    c.if-left-n.true

pub returns : goal.returns
returns c =
    ends_inside
    c.args.s.now _
    c.requires
    c.read4-n.ensures.0
    c.if-left-lt4.false
    c.if-left-n.false
