-- No arm names the number.
use Rattle.std.proofs.Common.{arith}
use Rattle.reader_grammar.proofs.Laws.{text}
use Rattle.reader_grammar.proofs.part_of.Goals as goal

pub returns-in_default : goal.returns-in_default
returns-in_default c = text _ (λ l. omega arith)
