-- `begin` meets its contract: where no entry is in the index, its table is cleared.
use Rattle.std.proofs.Common.{arith}
use borrow.Rule.Slice.PartMut.{same_len_mid}
use Rattle.interpreter_values.proofs.Index.{kept_index, index_none, same_table}
use Rattle.interpreter_values.proofs.begin.Goals as goal

pub returns-then-m-eq0-clause-by_index : goal.returns-then-m-eq0-clause-by_index
returns-then-m-eq0-clause-by_index c =
    λ s block r. rw c.if-m-eq0.true (index_none c.args.words.now c.clear.new.table c.requires.0 c.clear.auto.table c.clear.ensures)

pub returns-then-m-eq0-clause-by_index_2 : goal.returns-then-m-eq0-clause-by_index_2
returns-then-m-eq0-clause-by_index_2 c =
    λ s block r. kept_index
    (omega (arith, same_len_mid 17 639 c.args.words.now c.clear.new.table c.clear.auto.table))
    (same_table c.args.words.now c.clear.new.table c.requires.0)
    (omega arith)
    (index_none c.args.words.now c.clear.new.table c.requires.0 c.clear.auto.table c.clear.ensures)
