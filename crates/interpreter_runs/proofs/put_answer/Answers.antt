-- The words of each case.
use Rattle.errors.specs.Answer.{answer_words}
use Rattle.errors.specs.Meaning.{refusal_of}
use Rattle.interpreter_runs.proofs.put_answer.Goals as goal

pub returns-in-Ok : goal.returns-in-Ok
unfolding answer_words
returns-in-Ok c = rw (c.in-Ok.is, ← c.low.ensures) c.put_four.ensures

pub returns-in-Err : goal.returns-in-Err
unfolding answer_words refusal_of
returns-in-Err c = rw (c.in-Err.is, ← c.number.ensures, ← c.low-in-Err.ensures) c.put_four-in-Err.ensures
