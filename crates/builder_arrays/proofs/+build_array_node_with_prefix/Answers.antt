-- A jagged array of variable elements is what `sum_over_array` leaves; of every other array the count and the element's references
-- come first, then the element, which is a constant or an array that is built one deeper.
use Rattle.std.proofs.Common.{◌∙◌, sym, arith, rules}
use Rattle.std.proofs.lemmas.Result.{IfOk-weaker}
use Rattle.answers.proofs.Laws.{hands}
use Rattle.accepted.proofs.Laws.{header_inside}
use Rattle.builder_nodes.proofs.Laws.{builds_index, ends_at}
use Rattle.builder_arrays.proofs.Laws.{sums_leave, counted_stops, element_stops, nested_stops, nested_goes, element_made}
use Rattle.builder_arrays.proofs.Laws.{count_at_lem, count_ready, sum_within, nested_ready, constant_cursor, close_ready, close_within}
use Rattle.builder_arrays.proofs.+build_array_node_with_prefix.Goals as goal

pub sum_over_array-requires : goal.sum_over_array-requires
sum_over_array-requires t c =
    let sh = c.read_shape-p.ensures c.requires.ready.type in
    (count_ready c.requires sh, sh.element)

pub returns-then-p-clause-within : goal.returns-then-p-clause-within
returns-then-p-clause-within t c =
    IfOk-weaker c.sum_over_array.result _ _ (λ b w. sum_within c.requires (c.read_shape-p.ensures c.requires.ready.type) w) c.sum_over_array.ensures.within

pub returns-then-p-clause-builds : goal.returns-then-p-clause-builds
returns-then-p-clause-builds t c = sums_leave _ _ _ c.read_shape-p.ensures c.if-p.true c.sum_over_array.ensures.builds

pub build_counted-requires : goal.build_counted-requires
build_counted-requires t c =
    let sh = c.read_shape-p.ensures c.requires.ready.type in
    (count_at_lem c.open_array-q.ensures.value (count_ready c.requires sh), sh.references)

pub returns-in_err-counted-clause-builds : goal.returns-in_err-counted-clause-builds
returns-in_err-counted-clause-builds t c = λ a.
    hands _ c.from_residual.ensures.1
    (counted_stops _ _ _ c.read_shape-p.ensures c.if-p.false c.open_array-q.ensures.opened c.in_err-counted.ensures.builds a)

pub put_const-end-requires : goal.put_const-end-requires
put_const-end-requires t c =
    omega (arith, constant_cursor c.requires (c.read_shape-p.ensures c.requires.ready.type) c.open_array-q.ensures.value c.in_ok-counted.ensures.within)

pub close_array-requires : goal.close_array-requires
close_array-requires t c =
    close_ready c.requires (c.read_shape-p.ensures c.requires.ready.type) c.open_array-q.ensures.value c.in_ok-counted.ensures.within
    (ends_at (omega arith) (omega arith) c.in_ok-counted.ensures.within.count)

pub overflow_add-p : goal.overflow_add-p
overflow_add-p t c = omega (arith, header_inside (c.read_shape-p.ensures c.requires.ready.type).element, c.requires.ready.standing.size)

pub read2-requires : goal.read2-requires
read2-requires t c = omega (arith, header_inside (c.read_shape-p.ensures c.requires.ready.type).element)

pub returns-then-read2-ne5-clause-builds : goal.returns-then-read2-ne5-clause-builds
returns-then-read2-ne5-clause-builds t c =
    element_stops _ _ _ c.read_shape-p.ensures c.if-p.false c.open_array-q.ensures.opened c.in_ok-counted.ensures.builds c.in-None.is
    (λ e. c.if-read2-ne5.true (c.read2.ensures.0 ∙ e))

pub overflow_add-element : goal.overflow_add-element
overflow_add-element t c = omega (arith, c.requires.deep, (c.read_shape-p.ensures c.requires.ready.type).inside)

pub build_array_node_with_prefix-requires : goal.build_array_node_with_prefix-requires
build_array_node_with_prefix-requires t c =
    let sh = c.read_shape-p.ensures c.requires.ready.type in (
      omega (arith, sh.room),
      nested_ready c.requires sh c.open_array-q.ensures.value c.in_ok-counted.ensures.within (search rules)
          (builds_index (c.in_ok-counted.ensures.builds sh.size sh.references)) (sym c.read2.ensures.0 ∙ c.if-read2-ne5.false),
    )

pub returns-in_err-built-in-None-clause-builds : goal.returns-in_err-built-in-None-clause-builds
returns-in_err-built-in-None-clause-builds t c = λ a.
    hands _ c.from_residual-in_err-built-in-None.ensures.1
    (nested_stops _ _ _ c.read_shape-p.ensures c.if-p.false c.open_array-q.ensures.opened c.in_ok-counted.ensures.builds c.in-None.is
    (sym c.read2.ensures.0 ∙ c.if-read2-ne5.false) c.build_array_node_with_prefix.ensures.builds c.in_err-built-in-None.was a)

pub close_array-requires-in-None : goal.close_array-requires-in-None
close_array-requires-in-None t c =
    close_ready c.requires (c.read_shape-p.ensures c.requires.ready.type) c.open_array-q.ensures.value c.in_ok-counted.ensures.within
    c.in_ok-built-in-None.ensures.within

pub returns-in-Some-clause-within : goal.returns-in-Some-clause-within
returns-in-Some-clause-within t c =
    close_within c.requires (c.read_shape-p.ensures c.requires.ready.type) c.open_array-q.ensures.value c.in_ok-counted.ensures.within
    (ends_at (omega arith) (omega arith) c.in_ok-counted.ensures.within.count)

pub returns-in-Some-clause-builds : goal.returns-in-Some-clause-builds
returns-in-Some-clause-builds t c =
    element_made _ _ _ c.read_shape-p.ensures c.if-p.false c.open_array-q.ensures.opened c.in_ok-counted.ensures.builds c.in-Some.is
    c.put_const-end.ensures.wrote c.close_array.ensures

pub returns-in_ok-built-in-None-clause-within : goal.returns-in_ok-built-in-None-clause-within
returns-in_ok-built-in-None-clause-within t c =
    close_within c.requires (c.read_shape-p.ensures c.requires.ready.type) c.open_array-q.ensures.value c.in_ok-counted.ensures.within
    c.in_ok-built-in-None.ensures.within

pub returns-in_ok-built-in-None-clause-builds : goal.returns-in_ok-built-in-None-clause-builds
returns-in_ok-built-in-None-clause-builds t c =
    nested_goes _ _ _ c.read_shape-p.ensures c.if-p.false c.open_array-q.ensures.opened c.in_ok-counted.ensures.builds c.in-None.is
    (sym c.read2.ensures.0 ∙ c.if-read2-ne5.false) c.build_array_node_with_prefix.ensures.builds c.in_ok-built-in-None.was c.close_array-in-None.ensures
