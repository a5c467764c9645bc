-- The references of the type are entered, its tag is found or made, and the switch over its variants is written.
use Rattle.std.proofs.Common.{arith}
use Rattle.answers.proofs.Laws.{hands}
use Rattle.builder.specs.Nodes.{build_enum_node}
use Rattle.builder_switches.specs.declared.Kind.TheVariants.{Enum}
use Rattle.builder_switches.proofs.Switch.{tag_stops, tag_goes, switching, refs_standing, refs_stop, enum_is}
use Rattle.builder_switches.proofs.build_enum_node.Goals as goal

pub extend_with-requires : goal.extend_with-requires
extend_with-requires c = (c.requires.standing, (c.type_head-h.ensures c.requires.type_at).references)

pub returns-in_err-count-clause-builds : goal.returns-in_err-count-clause-builds
unfolding build_enum_node
returns-in_err-count-clause-builds c =
    λ a e vs q. hands _ c.from_residual.ensures.1 (refs_stop _ c.type_head-h.ensures _ c.in_err-count.ensures.kept a)

pub enum_tag_parameter-requires : goal.enum_tag_parameter-requires
enum_tag_parameter-requires c = record {
  standing = refs_standing _ c.requires c.type_head-h.ensures (omega arith) c.in_ok-count.ensures.count_bound c.in_ok-count.ensures.kept;
  named = (c.type_head-h.ensures c.requires.type_at).named;
  expr = (c.enum_parts-p.ensures c.requires.type_at).tag;
}

pub returns-in_err-tag-clause-builds : goal.returns-in_err-tag-clause-builds
returns-in_err-tag-clause-builds c =
    λ a e vs q. hands _ c.from_residual-in_err-tag.ensures.1
    (enum_is _
    c.type_head-h.ensures
    c.in_ok-count.ensures.kept
    c.enum_parts-p.ensures
    (λ a t l. tag_stops _ _ _ _ (c.in_err-tag.ensures.tags t)) a e vs q)

pub put_switch-requires : goal.put_switch-requires
put_switch-requires c =
    let parts = c.enum_parts-p.ensures c.requires.type_at in
    switching Enum c.requires (omega arith) c.in_ok-tag.ensures.count_bound (c.in_ok-tag.ensures.tags parts.tag) parts.list parts.few

pub returns-clause-builds : goal.returns-clause-builds
returns-clause-builds c =
    enum_is _
    c.type_head-h.ensures
    c.in_ok-count.ensures.kept
    c.enum_parts-p.ensures
    (λ a t l. tag_goes _ _ _ _ (c.in_ok-tag.ensures.tags t) (c.put_switch.ensures.builds a l))
