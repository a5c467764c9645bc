-- `indexed` meets its contract: an entry that the index has is the first of the name; where it has none, those behind its entries are left.
use Rattle.std.proofs.Common.{◌+◌, ◌<◌, arith}
use Rattle.blocks.specs.Bytes.{le2}
use Rattle.lookup.proofs.Values.{inside}
use Rattle.interpreter_values.specs.Entries.{Leaves}
use Rattle.interpreter_values.proofs.Entries.{first_more, first_there, leaves_rest}
use Rattle.interpreter_values.proofs.Index.{word_in, offset_at, name_in}
use Rattle.interpreter_values.proofs.indexed.Goals as goal

pub place-requires : goal.place-requires
place-requires c = (c.requires.0, c.begin-m.ensures.by_index _ _ c.requires.1)

pub overflow_add-word : goal.overflow_add-word
overflow_add-word c =
    omega (arith, word_in c.requires.0 c.begin-m.new.words (c.begin-m.ensures.by_index _ _ c.requires.1) c.in-Some.ensures.0)

pub offset_bounds-words-word : goal.offset_bounds-words-word
offset_bounds-words-word c =
    omega (arith, word_in c.requires.0 c.begin-m.new.words (c.begin-m.ensures.by_index _ _ c.requires.1) c.in-Some.ensures.0)

pub bounds-words-word : goal.bounds-words-word
bounds-words-word c = word_in c.requires.0 c.begin-m.new.words (c.begin-m.ensures.by_index _ _ c.requires.1) c.in-Some.ensures.0

pub behind_name-requires : goal.behind_name-requires
behind_name-requires c = name_in c.requires.0 c.begin-m.new.words (c.begin-m.ensures.by_index _ _ c.requires.1) c.in-Some.ensures.0

pub returns-in-Some-clause-leaves : goal.returns-in-Some-clause-leaves
returns-in-Some-clause-leaves c =
    let index = c.begin-m.ensures.by_index _ _ c.requires.1 in
    let here = offset_at c.requires.0 c.begin-m.new.words index c.in-Some.ensures.0 in
    let low : c.in-Some.found < le2 c.args.values.now (c.args.block + 6) = omega (arith, c.in-Some.ensures.0, index.within) in
    Leaves.at (first_there _ _ _ (first_more _ _ c.in-Some.ensures.1 c.in-Some.ensures.0 index.within) low here c.behind_name.ensures)

pub returns-in-Some-clause-kept : goal.returns-in-Some-clause-kept
returns-in-Some-clause-kept c = c.begin-m.ensures.by_index_2 _ _ c.requires.1

pub extend-at-requires : goal.extend-at-requires
extend-at-requires c = (c.requires.0, c.begin-m.ensures.by_index _ _ c.requires.1, omega arith)

pub overflow_add-block : goal.overflow_add-block
overflow_add-block c = omega (arith, inside c.requires.0)

pub read2-n-requires : goal.read2-n-requires
read2-n-requires c = inside c.requires.0

pub returns-clause-leaves : goal.returns-clause-leaves
returns-clause-leaves c =
    let index = c.begin-m.ensures.by_index _ _ c.requires.1 in
    leaves_rest c.requires.0 c.args.name.now index.within c.in_default.ensures (omega arith) c.read2-n.ensures.0 c.extend-at.ensures.value
