-- The loop's invariant: it stands at an entry of the span, and the words before are the offsets of the entries before it, if those before
-- the span were.
use Rattle.std.proofs.Common.{◌+◌}
use Rattle.interpreter_values.specs.Entries.{Offsets}
use Rattle.interpreter_values.proofs.Entries.{Standing}
use Rattle.interpreter_values.proofs.note_offsets.Given as goal

abbrev pub invariant-loop-i : goal.invariant-loop-i
invariant-loop-i l = record {
  standing : Standing l.values l.block l.fn.span.to l.i l.at;
  noted : Offsets l.values (l.block + 6 + 2) l.fn.span.from l.fn.offsets → Offsets l.values (l.block + 6 + 2) l.i l.offsets;
}
