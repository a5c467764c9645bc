-- `put_listed`: one pass over the entries. The loop's invariant (`Going`): whatever writes what is listed of the entries that are left makes the whole
-- write, and what was counted and what is left is the whole count, which is written last. Beside it, of the mark that goes from an entry to the next, if
-- there is one: it starts from that of the name at its owner's offset, whichever offset that is.
use Rattle.std.specs.Prelude.{IfSome, ◌≡◌}
use Rattle.marks.specs.Mark.{mark_of}
use Rattle.builder_registry.specs.Words.{held}
use Rattle.builder_registry.specs.declared.NameMark.{NameMark}
use Rattle.builder_parameters.proofs.Pass.{Going}
use Rattle.builder_parameters.proofs.put_listed.Given as goal

abbrev pub invariant-loop-i : goal.invariant-loop-i
invariant-loop-i l =
    Going l.s l.words l.listing.n l.listing.kind l.at l.initial.out l.initial.table l.table l.out l.known l.p l.count l.i
    × IfSome l.known (λ (k : NameMark). k.start ≡ mark_of 0 (held l.s k.owner))
