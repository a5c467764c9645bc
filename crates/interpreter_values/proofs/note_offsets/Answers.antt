-- `note_offsets` meets its contract.
use Rattle.std.proofs.Common.{arith}
use Rattle.interpreter_values.proofs.Entries.{few, standing_in, standing_next}
use Rattle.interpreter_values.proofs.Index.{offsets_more}
use Rattle.interpreter_values.proofs.note_offsets.Goals as goal

pub offset_bounds-offsets-i : goal.offset_bounds-offsets-i
offset_bounds-offsets-i c = omega (arith, few c.requires.0, c.loop-i.invariant.standing.most)

pub bounds-offsets-i : goal.bounds-offsets-i
bounds-offsets-i c = omega (arith, few c.requires.0, c.loop-i.invariant.standing.most)

pub behind_entry-at-requires : goal.behind_entry-at-requires
behind_entry-at-requires c = standing_in c.loop-i.invariant.standing c.loop-i-test.true c.requires.0

pub loop-i-preserved : goal.loop-i-preserved
loop-i-preserved c =
    let here = c.loop-i.invariant.standing in
    record {
      standing = standing_next here c.loop-i-test.true c.behind_entry-at.ensures;
      noted =
          λ o. offsets_more _ _ _ _ c.loop-i.offsets (c.loop-i.invariant.noted o) here.here (omega (arith, few c.requires.0, here.most));
    }
