-- `left_of` meets its contract: what the index leaves, or all entries.
use Rattle.std.proofs.Common.{refl, arith}
use Rattle.lookup.proofs.Values.{inside}
use Rattle.interpreter_values.proofs.Laws.{kept_both}
use Rattle.interpreter_values.proofs.Entries.{leaves_all}
use Rattle.interpreter_values.proofs.left_of.Goals as goal

-- The search that is counted keeps what is remembered.
pub indexed-requires : goal.indexed-requires
indexed-requires c =
    let room = c.if-by_index.ensures.in_bounds refl in
    (c.requires.0, (c.by_index.ensures.by_index _ _ c.requires.1).remembered, room.0, room.1)

pub returns-then-by_index-clause-kept : goal.returns-then-by_index-clause-kept
returns-then-by_index-clause-kept c = kept_both (c.by_index.ensures.by_index _ _ c.requires.1) c.indexed.ensures.kept

pub overflow_add-block : goal.overflow_add-block
overflow_add-block c = omega (arith, inside c.requires.0)

pub read2-n-requires : goal.read2-n-requires
read2-n-requires c = inside c.requires.0

pub overflow_add-result : goal.overflow_add-result
overflow_add-result c = omega (arith, inside c.requires.0)

pub overflow_add-result-2 : goal.overflow_add-result-2
overflow_add-result-2 c = omega (arith, inside c.requires.0)

pub returns-clause-leaves : goal.returns-clause-leaves
returns-clause-leaves c = leaves_all c.requires.0 c.args.name.now c.read2-n.ensures.0
