-- The refusal's four numbers.
use Rattle.errors.specs.Answer.{answer_words}
use Rattle.errors.specs.Meaning.{refusal_of}
use Rattle.errors.proofs.RefusalWords.words.Goals as goal

pub returns : goal.returns
unfolding answer_words refusal_of
returns c = rw (c.number.ensures, c.low.ensures)
