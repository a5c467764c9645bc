-- The references of the type are entered, no variant is refused, a tag is made under the type's name, and the switch over its variants is
-- written.
use Rattle.std.proofs.Common.{arith}
use Rattle.answers.proofs.Laws.{hands}
use Rattle.builder.specs.Nodes.{build_size_discriminated_union_node}
use Rattle.builder_switches.specs.declared.Kind.TheVariants.{Sized}
use Rattle.builder_switches.proofs.Switch.{tag_stops, tag_goes, switching, refs_standing, refs_stop, sized_is, sized_none}
use Rattle.builder_switches.proofs.build_size_discriminated_union_node.Goals as goal

pub extend_with-requires : goal.extend_with-requires
extend_with-requires c = (c.requires.standing, (c.type_head-h.ensures c.requires.type_at).references)

pub returns-in_err-count-clause-builds : goal.returns-in_err-count-clause-builds
unfolding build_size_discriminated_union_node
returns-in_err-count-clause-builds c =
    λ a vs q. hands _ c.from_residual.ensures.1 (refs_stop _ c.type_head-h.ensures _ c.in_err-count.ensures.kept a)

pub returns-then-p-eq0-clause-builds : goal.returns-then-p-eq0-clause-builds
returns-then-p-eq0-clause-builds c =
    sized_none _ c.type_head-h.ensures c.in_ok-count.ensures.kept c.sized_list-p.ensures c.if-p-eq0.true

pub overflow_add-kind : goal.overflow_add-kind
overflow_add-kind c = omega (arith, (c.type_head-h.ensures c.requires.type_at).named.inside)

pub add_synthetic-requires : goal.add_synthetic-requires
add_synthetic-requires c = (
  refs_standing _ c.requires c.type_head-h.ensures (omega arith) c.in_ok-count.ensures.count_bound c.in_ok-count.ensures.kept,
  omega (arith, (c.type_head-h.ensures c.requires.type_at).named.inside, c.requires.standing.size),
)

pub returns-in_err-tag-clause-builds : goal.returns-in_err-tag-clause-builds
returns-in_err-tag-clause-builds c =
    λ a vs q. hands _ c.from_residual-in_err-tag.ensures.1
    (sized_is _
    c.type_head-h.ensures
    c.in_ok-count.ensures.kept
    c.sized_list-p.ensures
    c.if-p-eq0.false
    (λ a l. tag_stops _ _ _ _ c.in_err-tag.ensures.tags) a vs q)

pub put_switch-requires : goal.put_switch-requires
put_switch-requires c =
    let variants = c.sized_list-p.ensures c.requires.type_at in
    switching Sized c.requires (omega arith) c.in_ok-tag.ensures.count_bound c.in_ok-tag.ensures.tags variants.list variants.few

pub returns-clause-builds : goal.returns-clause-builds
returns-clause-builds c =
    sized_is _
    c.type_head-h.ensures
    c.in_ok-count.ensures.kept
    c.sized_list-p.ensures
    c.if-p-eq0.false
    (λ a l. tag_goes _ _ _ _ c.in_ok-tag.ensures.tags (c.put_switch.ensures.builds a l))
