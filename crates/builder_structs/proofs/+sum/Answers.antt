-- The sum of one node is that node; the sum of more is an Add node of the sum of the first ones and the last.
use Rattle.answers.proofs.Laws.{hands}
use Rattle.builder_structs.proofs.Laws.{sum_one, sum_stops, sum_stops_last, sum_done, ran_index, last_ready}
use Rattle.builder_structs.proofs.+sum.Goals as goal

pub returns-then-k-eq1-clause-ran : goal.returns-then-k-eq1-clause-ran
returns-then-k-eq1-clause-ran t c = λ u b l q. sum_one _ _ c.if-k-eq1.true (c.child.ensures.ran u b l q)

pub returns-in_err-before-clause-ran : goal.returns-in_err-before-clause-ran
returns-in_err-before-clause-ran t c = λ u b l q.
    hands _ c.from_residual.ensures.1 (sum_stops _ _ c.requires.some c.if-k-eq1.false (c.in_err-before.ensures.ran u b l q))

pub child-requires-2 : goal.child-requires-2
child-requires-2 t c =
    last_ready _ c.open_add-p.ensures.value c.requires.some c.in_ok-before.ensures.goes c.requires c.sum.auto.words
    (ran_index (c.in_ok-before.ensures.ran c.requires.set.0 c.requires.refs c.requires.list c.requires.set.1))

pub returns-in_err-last-clause-ran : goal.returns-in_err-last-clause-ran
returns-in_err-last-clause-ran t c = λ u b l q.
    hands _ c.from_residual-in_err-last.ensures.1
    (sum_stops_last _ _ c.requires.some c.if-k-eq1.false (c.in_ok-before.ensures.ran u b l q) (λ m. c.in_err-last.ensures.ran u b m q))

pub returns-clause-ran : goal.returns-clause-ran
returns-clause-ran t c = λ u b l q.
    sum_done _ _ c.requires.some c.if-k-eq1.false (c.in_ok-before.ensures.ran u b l q) (λ m. c.in_ok-last.ensures.ran u b m q)
    c.open_add-p.ensures.wrote c.close_block.ensures.wrote
