-- The loop's invariant: it stands at an entry of the span, and the names of those before it are in the table, if those before the span
-- were.
use Rattle.std.proofs.Common.{◌+◌}
use Rattle.marks.specs.Table.{Linked}
use Rattle.interpreter_values.specs.Entries.{entry_mark}
use Rattle.interpreter_values.proofs.Entries.{Standing}
use Rattle.interpreter_values.proofs.link_names.Given as goal

abbrev pub invariant-loop-i : goal.invariant-loop-i
invariant-loop-i l = record {
  standing : Standing l.values l.block l.fn.span.to l.i l.at;
  linked : Linked l.fn.table (entry_mark l.values (l.block + 6 + 2)) l.fn.span.from →
      Linked l.table (entry_mark l.values (l.block + 6 + 2)) l.i;
}
