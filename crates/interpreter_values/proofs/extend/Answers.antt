-- `extend` meets its contract: word 16 has how many entries are in the index from now on, the next offsets are put behind those that
-- are there, and the next names into the table; both together are the index of so many entries.
use Rattle.std.proofs.Common.{◌+◌, ◌≤◌, length, set, ◌∙◌, sym, subst, arith, length-set}
use lib.Seq.{drop-set-lt}
use Rattle.lookup.proofs.Values.{inside}
use Rattle.interpreter_values.specs.Remembered.{Indexed}
use Rattle.interpreter_values.proofs.Entries.{few}
use Rattle.interpreter_values.proofs.Index.{linked_length, built_same, built, offsets_part, table_part, kept_more}
use Rattle.interpreter_values.proofs.extend.Goals as goal

pub overflow_add-block : goal.overflow_add-block
overflow_add-block c = omega (arith, inside c.requires.0)

pub read2-requires : goal.read2-requires
read2-requires c = inside c.requires.0

pub returns-clause-kept : goal.returns-clause-kept
returns-clause-kept c =
    let words = c.args.words.now in
    let to = c.args.m + c.min.result in
    let ws = set words 16 (to + 4) in
    let room : 1168 ≤ length ws = omega (arith, length-set words 16 (to + 4)) in
    let before =
    subst (Indexed c.args.values.now c.args.block c.args.m) (sym (drop-set-lt 17 words 16 (to + 4) (omega arith))) c.requires.1 in
    let most = few c.requires.0 in
    let zs = c.note_offsets.new.offsets in
    let ys = c.link_names.new.table in
    let lz = c.note_offsets.auto.offsets in
    let ly = c.link_names.auto.table in
    let index =
    built ws zs ys room lz ly c.args.values.now c.args.block to (omega (arith, c.requires.1.within)) most
    (c.note_offsets.ensures (offsets_part ws room before (omega (arith, most, c.requires.1.within))))
    (c.link_names.ensures (table_part ws room before zs lz)) in
    kept_more to c.requires.2 (linked_length ws zs ys room lz ly ∙ length-set words 16 (to + 4)) (built_same ws zs ys room lz ly) index
