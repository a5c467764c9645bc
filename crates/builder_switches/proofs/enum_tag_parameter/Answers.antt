-- The tag of a field reference is its entry; of any other expression the references are marked, and a tag is made.
use Rattle.std.proofs.Common.{sym, ◌∙◌, arith}
use Rattle.answers.proofs.Laws.{lacks}
use Rattle.accepted.proofs.Laws.{header_inside}
use Rattle.builder_switches.proofs.Tags.{tag_known, tag_unknown, tag_made}
use Rattle.builder_switches.proofs.enum_tag_parameter.Goals as goal

pub overflow_add-e : goal.overflow_add-e
overflow_add-e c = omega (arith, header_inside c.requires.expr)

pub read2-requires : goal.read2-requires
read2-requires c = omega (arith, header_inside c.requires.expr)

pub returns-in_err-at-clause-tags : goal.returns-in_err-at-clause-tags
returns-in_err-at-clause-tags c =
    λ a. lacks _
    c.from_residual.ensures.1
    c.in_err-at.ensures.value
    c.in_err-at.ensures.ok_part
    (tag_unknown _ _
    c.name_at-owner.ensures
    (sym c.read2.ensures.0 ∙ c.if-read2-eq65.true)
    c.tag_lookup.ensures
    c.in_err-at.ensures.ok_part a)

pub returns-then-read2-eq65-clause-tags : goal.returns-then-read2-eq65-clause-tags
returns-then-read2-eq65-clause-tags c =
    tag_known _ _
    c.name_at-owner.ensures
    (sym c.read2.ensures.0 ∙ c.if-read2-eq65.true)
    c.tag_lookup.ensures
    c.requires.standing.index
    c.in_ok-at.ensures.ok_part

pub returns-clause-tags : goal.returns-clause-tags
returns-clause-tags c =
    tag_made _ _ _ _ _ _
    c.name_at-owner.ensures
    c.requires.named
    c.read2.ensures.0
    c.if-read2-eq65.false
    c.mark_expression_field_refs.ensures.n_after
    c.add_synthetic.ensures.tags
