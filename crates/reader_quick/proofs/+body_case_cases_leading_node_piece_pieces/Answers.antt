use Rattle.std.proofs.Common.{refl, arith}
use borrow.Author.Tests.{eqb-true, leb-true, ltb-true}
use Rattle.blocks.specs.Read.{Earlier}
use Rattle.reader_quick.proofs.Laws.{rest_all, rest_next, rest_none, case_yes, node_yes, row_none, row_go, row_child, const_row, call_row, field_row, number_part, text_part, optional_part, node_part, cases_part, arguments_part, default_off, default_on}
use Rattle.reader_quick.proofs.+body_case_cases_leading_node_piece_pieces.Goals as goal

-- ---- the rows that are met most

pub body-returns-in_ok-ask-in-3 : goal.body-returns-in_ok-ask-in-3
body-returns-in_ok-ask-in-3 t c = (refl, const_row _ _ _ _ c.in-3.is c.in_ok-ask-in-3.ensures)

pub body-returns-in_ok-ask-in-641-2 : goal.body-returns-in_ok-ask-in-641-2
body-returns-in_ok-ask-in-641-2 t c = (
  refl,
  call_row _ _ _ _ c.in_ok-i-in-641.ensures.read c.in_ok-ask-in-641-2.ensures c.in-641.is
      (ltb-true _ _ c.in_ok-ask-in-641.ensures)
      c.in_ok-entries-in-641.ensures.read,
)

pub body-returns-in_ok-ask-in-225 : goal.body-returns-in_ok-ask-in-225
body-returns-in_ok-ask-in-225 t c =
    (refl, field_row _ _ _ _ c.in_ok-i-in-225.ensures.read c.in_ok-ask-in-225.ensures c.in-225.is c.in_ok-optional-in-225.ensures.read)

-- ---- cases

pub case-returns-clause-read : goal.case-returns-clause-read
case-returns-clause-read t c =
    case_yes _ c.in_ok-stop.ensures
    (leb-true _ _ c.in_ok-ask.ensures)
    (leb-true _ _ c.in_ok-ask-2.ensures)
    c.in_ok-i.ensures.read
    c.in_ok-entries.ensures.read
    c.in_ok-ask-3.ensures

pub cases-loop-init : goal.cases-loop-init
cases-loop-init t c = (c.in_ok-n.ensures.inside, rest_all _ _ _ _ _ _ (omega arith) c.in_ok-n.ensures)

pub cases-loop-preserved : goal.cases-loop-preserved
cases-loop-preserved t c = (
  c.in_ok-i.ensures.inside,
  rest_next _ _ _ _ _ _ c.loop.invariant.1 _ (omega arith) (c.in_ok-i.ensures.read Earlier.any),
)

pub cases-returns-clause-read : goal.cases-returns-clause-read
cases-returns-clause-read t c = rest_none _ _ _ _ _ _ c.loop.invariant.1 (omega arith)

-- ---- the part of a digit

pub leading-returns-in-3-clause-read : goal.leading-returns-in-3-clause-read
leading-returns-in-3-clause-read t c = number_part _ _ _ _ _ _ c.in-3.is c.number.ensures.read

pub leading-returns-in-12-clause-read : goal.leading-returns-in-12-clause-read
leading-returns-in-12-clause-read t c = node_part _ _ _ _ _ _ c.in-12.is c.node.ensures.read

pub piece-returns-in-3-clause-read : goal.piece-returns-in-3-clause-read
piece-returns-in-3-clause-read t c = number_part _ _ _ _ _ _ c.in-3.is c.number.ensures.read

pub piece-returns-in-1-clause-read : goal.piece-returns-in-1-clause-read
piece-returns-in-1-clause-read t c = text_part _ _ _ _ _ _ c.in-1.is c.text.ensures.read

pub piece-returns-in-7-clause-read : goal.piece-returns-in-7-clause-read
piece-returns-in-7-clause-read t c = optional_part _ _ _ _ _ _ c.in-7.is c.optional.ensures.read

pub piece-returns-in-12-clause-read : goal.piece-returns-in-12-clause-read
piece-returns-in-12-clause-read t c = node_part _ _ _ _ _ _ c.in-12.is c.node.ensures.read

pub piece-returns-in-19-clause-read : goal.piece-returns-in-19-clause-read
piece-returns-in-19-clause-read t c = cases_part _ _ _ _ _ _ c.in-19.is c.cases.ensures.read

pub piece-returns-in_ok-ask-in-20-clause-read : goal.piece-returns-in_ok-ask-in-20-clause-read
piece-returns-in_ok-ask-in-20-clause-read t c =
    arguments_part _ _ _ _ _ _ c.in-20.is (ltb-true _ _ c.in_ok-ask-in-20.ensures) c.entries.ensures.read

pub piece-returns-then-s-at-eq0-clause-read : goal.piece-returns-then-s-at-eq0-clause-read
piece-returns-then-s-at-eq0-clause-read t c = default_off _ _ _ _ _ c.in-14.is c.in_ok-next-in-14.ensures.read c.if-s-at-eq0.true

pub piece-returns-else-s-at-eq0-clause-read : goal.piece-returns-else-s-at-eq0-clause-read
piece-returns-else-s-at-eq0-clause-read t c =
    default_on _ _ _ _ _ c.in-14.is c.in_ok-next-in-14.ensures.read (omega (arith, c.in_ok-next-in-14.ensures.inside)) _ c.node-in-14.ensures.read

-- ---- the parts of a row

pub pieces-loop-digits-preserved : goal.pieces-loop-digits-preserved
pieces-loop-digits-preserved t c = (
  c.in_ok-i.ensures.inside,
  λ b. c.loop-digits.invariant.1 (row_go _ _ _ _ c.loop-digits-test.true c.in_ok-i.ensures.read b),
)

pub pieces-returns : goal.pieces-returns
pieces-returns t c = (refl, c.loop-digits.invariant.1 (row_none _ _ _ _ c.loop-digits-test.false (eqb-true _ _ c.in_ok-ask.ensures)))

-- ---- a node

pub node-loop-row-init : goal.node-loop-row-init
node-loop-row-init t c =
    let b = c.in_ok-i.ensures.begun in
    (c.in_ok-i.ensures.inside, omega arith, node_yes c.in_ok-stop.ensures b c.read2.ensures.0 c.node_row-row.ensures)

pub node-loop-row-preserved : goal.node-loop-row-preserved
node-loop-row-preserved t c =
    let b = c.in_ok-i-2.ensures.begun in (
      c.in_ok-i-2.ensures.inside,
      omega arith,
      λ d. c.loop-row.invariant.2
          (row_child _ _ _ _
          c.loop-row-test.true
          c.in_ok-q.ensures.read
          (node_yes (c.fills.ensures c.in_ok-ask.ensures) b c.read2-in-loop-row.ensures.0 c.node_row-row-in-loop-row.ensures d)),
    )
