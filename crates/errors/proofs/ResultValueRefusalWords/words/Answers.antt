-- 0, no place, no offset and the count.
use Rattle.errors.specs.Answer.{answer_words}
use Rattle.errors.proofs.ResultValueRefusalWords.words.Goals as goal

pub returns-in-Ok : goal.returns-in-Ok
unfolding answer_words
returns-in-Ok c = rw (c.in-Ok.is, c.low.ensures)
