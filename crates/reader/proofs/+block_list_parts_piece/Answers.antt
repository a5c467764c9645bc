use Rattle.std.proofs.Common.{sym, ◌∙◌, arith}
use Rattle.std.proofs.lemmas.Result.{err_from_is_err_and}
use Rattle.blocks.specs.Read.{read_part}
use Rattle.reader_grammar.proofs.Laws.{owners, types}
use Rattle.reader_leaf.specs.Seen.{earlier_of}
use Rattle.reader_leaf.proofs.Laws.{optional_on}
use Rattle.reader_leaf.proofs.Lists.{entries_stop}
use Rattle.reader.proofs.Blocks.{none_left, left_stop, left_key}
use Rattle.reader.proofs.Lists.{list_go, nothing_before, nothing_valid, nothing_here, owners_before, types_before, plain}
use Rattle.reader.proofs.+block_list_parts_piece.Goals as goal

-- ---- a list

pub list-returns-in_err-next-clause-read : goal.list-returns-in_err-next-clause-read
list-returns-in_err-next-clause-read t c =
    let p = err_from_is_err_and c.from_residual-in_err-next.result c.from_residual-in_err-next.ensures.1 in
    rw (p.1, p.2) (sym (c.loop.invariant.2 ∙ entries_stop _ _ _ _ (omega arith) (sym c.in_err-next.ensures.read)))

pub list-loop-preserved : goal.list-loop-preserved
list-loop-preserved t c =
    let g = list_go _ _ _ _ _ c.requires.1 c.loop.invariant.1 (sym c.in_ok-next.ensures.read) _ (omega arith) c.grown-before.ensures in
    (c.in_ok-next.ensures.inside, g.0, c.loop.invariant.2 ∙ g.1)

-- ---- the parts of a block

pub parts-piece-requires : goal.parts-piece-requires
parts-piece-requires t c =
    (omega arith, (c.loop-row.invariant.0, c.requires.1, c.requires.2, left_key _ _ _ _ _ _ _ _ c.loop-row.invariant.1 c.loop-row-test.true))

pub parts-returns-in_err-here-clause-read : goal.parts-returns-in_err-here-clause-read
parts-returns-in_err-here-clause-read t c =
    let p = err_from_is_err_and c.from_residual.result c.from_residual.ensures.1 in
    rw (p.1, p.2) (sym (left_stop _ _ _ _ _ _ _ _ c.loop-row.invariant.1 c.loop-row-test.true (sym c.in_err-here.ensures.read)))

pub parts-returns-clause-read : goal.parts-returns-clause-read
parts-returns-clause-read t c = sym (none_left _ _ _ _ _ _ _ _ c.loop-row.invariant.1 c.loop-row-test.false)

-- ---- the part of a digit

pub piece-block-requires : goal.piece-block-requires
piece-block-requires t c = (omega arith, (c.requires.0, c.requires.1, nothing_valid _ 0 0 0, nothing_here _ 0 0 _))

pub piece-block-requires-then-s-at-eq1 : goal.piece-block-requires-then-s-at-eq1
piece-block-requires-then-s-at-eq1 t c =
    (omega arith, (c.in_ok-next-in-OptBlock.ensures.inside.1, c.requires.1, nothing_valid _ 0 0 0, nothing_here _ 0 0 _))

pub piece-list-requires : goal.piece-list-requires
piece-list-requires t c = (omega arith, (c.requires.0, c.requires.1, nothing_before _ _ _ _))

pub piece-list-requires-in-Ascending : goal.piece-list-requires-in-Ascending
piece-list-requires-in-Ascending t c =
    (omega arith, (c.requires.0, c.requires.1, owners_before _ _ _ _ (owners _ _ _ _ (sym c.part_of-p.ensures ∙ c.in-Ascending.is))))

pub piece-list-requires-in-Distinct : goal.piece-list-requires-in-Distinct
piece-list-requires-in-Distinct t c =
    (omega arith, (c.requires.0, c.requires.1, types_before _ _ _ _ c.fresh.ensures (types _ _ _ _ (sym c.part_of-p.ensures ∙ c.in-Distinct.is))))

pub piece-plain-requires : goal.piece-plain-requires
piece-plain-requires t c = (
  c.requires.0,
  c.requires.1,
  c.requires.2,
  plain _
      c.in_default.not-Block
      c.in_default.not-OptBlock
      c.in_default.not-Blocks
      c.in_default.not-Ascending
      c.in_default.not-Distinct,
  λ e. c.requires.3 (sym c.part_of-p.ensures ∙ e),
)

pub piece-returns-then-s-at-eq1-clause-read : goal.piece-returns-then-s-at-eq1-clause-read
unfolding read_part earlier_of
piece-returns-then-s-at-eq1-clause-read t c =
    let e = sym c.part_of-p.ensures ∙ c.in-OptBlock.is in
    rw e
    (c.block-then-s-at-eq1.ensures.read
    ∙ sym (optional_on _ _ _ _ _ _ (sym c.in_ok-next-in-OptBlock.ensures.read) c.if-s-at-eq1.true))
