-- A name, and behind it what a parameter or an argument has, up to the block's end.
use Rattle.reader_quick.proofs.Laws.{parameter_yes, argument_yes}
use Rattle.reader_quick.proofs.entry.Goals as goal

pub returns-in_ok-ask-in-162-clause-read : goal.returns-in_ok-ask-in-162-clause-read
returns-in_ok-ask-in-162-clause-read c =
    parameter_yes c.in_ok-stop.ensures c.in_ok-i.ensures.read c.in-162.is c.in_ok-described-in-162.ensures.read c.in_ok-ask-in-162.ensures

pub returns-in_ok-ask-in-164-clause-read : goal.returns-in_ok-ask-in-164-clause-read
returns-in_ok-ask-in-164-clause-read c =
    argument_yes c.in_ok-stop.ensures c.in_ok-i.ensures.read c.in-164.is c.in_ok-text-in-164.ensures.read c.in_ok-ask-in-164.ensures
