-- `entry_offset` meets its contract: the entry stands first, or behind the last one of the index.
use Rattle.std.proofs.Common.{◌≡◌, ◌+◌, ◌-◌, ◌<◌, ◌∙◌, ap, arith}
use Rattle.lookup.proofs.Values.{inside}
use Rattle.interpreter_values.specs.Entries.{entry_at}
use Rattle.interpreter_values.proofs.Entries.{entry_first, entry_next}
use Rattle.interpreter_values.proofs.Index.{word_in, offset_at, number_in}
use Rattle.interpreter_values.proofs.entry_offset.Goals as goal

pub overflow_add-result : goal.overflow_add-result
overflow_add-result c = omega (arith, inside c.requires.0)

pub overflow_add-result-then-m-eq0 : goal.overflow_add-result-then-m-eq0
overflow_add-result-then-m-eq0 c = omega (arith, inside c.requires.0)

pub returns-then-m-eq0 : goal.returns-then-m-eq0
returns-then-m-eq0 c = rw c.if-m-eq0.true (entry_first c.args.values.now _)

pub overflow_add-word : goal.overflow_add-word
overflow_add-word c = let l : c.args.m - 1 < c.args.m = omega arith in omega (arith, word_in c.requires.0 c.args.words.now c.requires.1 l)

pub offset_bounds-words-word : goal.offset_bounds-words-word
offset_bounds-words-word c =
    let l : c.args.m - 1 < c.args.m = omega arith in omega (arith, word_in c.requires.0 c.args.words.now c.requires.1 l)

pub bounds-words-word : goal.bounds-words-word
bounds-words-word c = word_in c.requires.0 c.args.words.now c.requires.1 (omega arith)

pub behind_entry-requires : goal.behind_entry-requires
behind_entry-requires c = number_in c.requires.0 c.args.words.now c.requires.1 (omega arith)

pub returns : goal.returns
returns c =
    let low : c.args.m - 1 < c.args.m = omega arith in
    let here = offset_at c.requires.0 c.args.words.now c.requires.1 low in
    let e : c.args.m - 1 + 1 ≡ c.args.m = omega arith in
    entry_next c.args.values.now _ (c.args.m - 1) here c.behind_entry.ensures ∙ ap (entry_at c.args.values.now (c.args.block + 6 + 2)) e
