-- `find` meets its contract.
use Rattle.interpreter_values.proofs.Laws.{kept_none}
use Rattle.interpreter_context.proofs.Calls.{the_call, caller_has, caller_lacks, at_the_root, bottom}
use Rattle.interpreter_context.proofs.find.Goals as goal

pub callers_name-requires : goal.callers_name-requires
callers_name-requires c = (the_call c.loop-d-test.true c.loop-d.invariant c.requires.1).1

pub returns-in_err-wanted-clause-result_value : goal.returns-in_err-wanted-clause-result_value
returns-in_err-wanted-clause-result_value c =
    rw c.from_residual.ensures (caller_lacks c.loop-d-test.true c.loop-d.invariant c.in_err-wanted.ensures)

pub returns-in_err-wanted-clause-kept : goal.returns-in_err-wanted-clause-kept
returns-in_err-wanted-clause-kept c = kept_none (bottom c.requires.1.1).1

pub loop-d-preserved : goal.loop-d-preserved
loop-d-preserved c = caller_has c.loop-d-test.true c.loop-d.invariant c.in_ok-wanted.ensures

pub at_root-requires : goal.at_root-requires
at_root-requires c = bottom c.requires.1.1

pub returns-clause-result_value : goal.returns-clause-result_value
returns-clause-result_value c = at_the_root c.at_root.result c.loop-d-test.false c.loop-d.invariant c.at_root.ensures.result_value
