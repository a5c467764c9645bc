-- A quick yes is the reader's answer, else the reader is asked.
use Rattle.reader_quick.proofs.Listed.{input_yes}
use Rattle.reader_quick.proofs.read_input.Goals as goal

pub returns-then-eq : goal.returns-then-eq
returns-then-eq c = input_yes _ _ _ _ c.quickly.ensures c.if-eq.ensures
