-- The header, the count and the types, the length, then 18.
use Rattle.std.proofs.Common.{arith}
use Rattle.std.proofs.lemmas.Result.{err_from_is_err_and}
use Rattle.builder_set.proofs.Laws.{set_counts, types_no, layout_yes, layout_no}
use Rattle.builder_set.proofs.build_layout.Goals as goal

pub read2-requires : goal.read2-requires
read2-requires c = omega (arith, (set_counts c.requires).0)

pub returns-in_err-end : goal.returns-in_err-end
returns-in_err-end c = λ t e.
    let p = err_from_is_err_and c.from_residual.result c.from_residual.ensures.1 in rw (p.1, p.2) (types_no _ c.in_err-end.ensures.builds_types t e)

pub returns-then-holds : goal.returns-then-holds
returns-then-holds c = λ t e.
    layout_yes _ c.open_block-p.ensures.wrote c.put_le-q.ensures.wrote c.read2.ensures.0 c.in_ok-end.ensures.builds_types c.close_block.ensures.wrote t e
    c.if-holds.ensures

pub returns-else-holds : goal.returns-else-holds
returns-else-holds c = λ t e.
    layout_no _ c.open_block-p.ensures.wrote c.put_le-q.ensures.wrote c.read2.ensures.0 c.in_ok-end.ensures.builds_types c.close_block.ensures.wrote t e
    c.if-holds.ensures c.plain.ensures
