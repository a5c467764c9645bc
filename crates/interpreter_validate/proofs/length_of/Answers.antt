-- The questions are answered, then the type is evaluated with words of its own.
use Rattle.std.proofs.Common.{refl}
use Rattle.interpreter_validate.specs.Validator.{Judged}
use Rattle.interpreter_validate.specs.declared.Ask.TheVariants as ask
use Rattle.interpreter_validate.proofs.Laws.{judged_of, stops, goes, given, values_located, values_answer}
use Rattle.interpreter_validate.proofs.length_of.Goals as goal

pub type_alone-requires : goal.type_alone-requires
type_alone-requires c =
    let q : Judged (ask.Values c.args.len) _ _ _ _ = judged_of refl c.both_read.ensures in
    values_located (given q c.in_ok-both_read.was)

pub returns-in_err-both_read : goal.returns-in_err-both_read
returns-in_err-both_read c =
    let q : Judged (ask.Values c.args.len) _ _ _ _ = judged_of refl c.both_read.ensures in
    stops q _ c.from_residual.result c.in_err-both_read.was c.from_residual.ensures.1

pub returns : goal.returns
returns c =
    let q : Judged (ask.Values c.args.len) _ _ _ _ = judged_of refl c.both_read.ensures in
    goes q c.in_ok-both_read.was _ c.type_alone.result
    (values_answer _ _ _ _ c.type_alone.result c.type_alone.ensures)
