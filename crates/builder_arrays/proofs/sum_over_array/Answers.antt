-- The count, then the element must be a type reference; its name and the owner's stand behind the count. Names have 255 bytes at
-- most, which bounds the cursor.
use Rattle.std.proofs.Common.{◌∙◌, arith}
use Rattle.answers.proofs.Laws.{hands}
use Rattle.accepted.proofs.Laws.{header_inside}
use Rattle.resolved_parts.proofs.Laws.{named_short}
use Rattle.builder_arrays.proofs.Laws.{sum_ends, sum_count_stops, sum_element_stops, sum_made}
use Rattle.builder_arrays.proofs.sum_over_array.Goals as goal

pub returns-in_err-counted-clause-builds : goal.returns-in_err-counted-clause-builds
returns-in_err-counted-clause-builds c = λ e t h d.
    hands _ c.from_residual.ensures.1 (sum_count_stops _ _ _ c.open_array-q.ensures.opened c.in_err-counted.ensures.builds e t h d)

pub overflow_add-element : goal.overflow_add-element
overflow_add-element c = omega (arith, header_inside c.requires.1, c.requires.0.standing.size)

pub read2-requires : goal.read2-requires
read2-requires c = omega (arith, header_inside c.requires.1)

pub returns-then-read2-ne7-clause-builds : goal.returns-then-read2-ne7-clause-builds
returns-then-read2-ne7-clause-builds c =
    sum_element_stops _ _ _ c.open_array-q.ensures.opened c.in_ok-counted.ensures.builds (λ e. c.if-read2-ne7.true (c.read2.ensures.0 ∙ e))

pub name_at-target-requires : goal.name_at-target-requires
name_at-target-requires c = (c.target.ensures c.requires.1).named

pub returns-clause-within : goal.returns-clause-within
returns-clause-within c =
    (sum_ends c.open_array-q.ensures.value c.in_ok-counted.ensures.within c.put_text_part-u.ensures.lower_bound
    c.put_text_part-end.ensures.lower_bound (named_short (c.target.ensures c.requires.1).named c.name_at-target.ensures) c.requires.0.owned).1

pub returns-clause-builds : goal.returns-clause-builds
returns-clause-builds c =
    sum_made _ _ _ c.open_array-q.ensures.opened c.in_ok-counted.ensures.builds c.target.ensures c.name_at-target.ensures
    c.put_text_part-u.ensures.wrote c.put_text_part-end.ensures.wrote c.close_array.ensures
