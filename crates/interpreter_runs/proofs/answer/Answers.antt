-- The questions of the run, behind those of the layout; a refusal ends it, else the run is evaluated.
use Rattle.std.proofs.Common.{[], refl}
use Rattle.interpreter_validate.specs.Validator.{Judged}
use Rattle.interpreter_validate.specs.declared.Ask.TheVariants as ask
use Rattle.interpreter_validate.proofs.Laws.{judged_of, stops, goes, given, enough_words}
use Rattle.interpreter_runs.proofs.answer.Goals as goal

pub run_lent-requires : goal.run_lent-requires
run_lent-requires c =
    let q : Judged ask.Run _ _ _ _ = judged_of refl (c.other_read.ensures _ c.requires.0) in
    (given q c.in_ok-other_read.was, c.requires.1 (enough_words q c.in_ok-other_read.was))

pub returns-in_err-other_read : goal.returns-in_err-other_read
returns-in_err-other_read c =
    let q : Judged ask.Run _ _ _ _ = judged_of refl (c.other_read.ensures _ c.requires.0) in
    record {
      words_len_unchanged = refl;
      result_value = stops q [] c.from_residual.result c.in_err-other_read.was c.from_residual.ensures.1;
    }

pub returns : goal.returns
returns c =
    let q : Judged ask.Run _ _ _ _ = judged_of refl (c.other_read.ensures _ c.requires.0) in
    record {
      words_len_unchanged = c.run_lent.ensures.words_len_unchanged;
      result_value = goes q c.in_ok-other_read.was [] c.run_lent.result c.run_lent.ensures.answers;
    }
