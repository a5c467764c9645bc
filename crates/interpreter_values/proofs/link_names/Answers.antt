-- `link_names` meets its contract.
use Rattle.std.proofs.Common.{arith}
use Rattle.interpreter_values.proofs.Entries.{few, standing_in, standing_next, standing_mark}
use Rattle.interpreter_values.proofs.link_names.Goals as goal

pub name_at-requires : goal.name_at-requires
name_at-requires c = omega (arith, standing_in c.loop-i.invariant.standing c.loop-i-test.true c.requires.0)

pub link-requires : goal.link-requires
link-requires c =
    let most = c.loop-i.invariant.standing.most in
    (omega (arith, few c.requires.0, most), omega (arith, few c.requires.0, most))

pub behind_entry-at-requires : goal.behind_entry-at-requires
behind_entry-at-requires c = standing_in c.loop-i.invariant.standing c.loop-i-test.true c.requires.0

pub loop-i-preserved : goal.loop-i-preserved
loop-i-preserved c =
    let here = c.loop-i.invariant.standing in
    record {
      standing = standing_next here c.loop-i-test.true c.behind_entry-at.ensures;
      linked = λ l. c.link.ensures _ (c.loop-i.invariant.linked l) (standing_mark here c.name_at.ensures c.sum_mark.ensures);
    }
