-- The type's references enter an empty registry, a block of kind 161 is opened, and behind the type's name and alignment stand the
-- root and the parameters that the registry has then. A refusal is that of the references or of the root.
use Rattle.std.proofs.Common.{◌∙◌, arith}
use Rattle.answers.proofs.Laws.{hands}
use Rattle.resolved_parts.proofs.Laws.{named_short}
use Rattle.builder_registry.proofs.Laws.{kept_index}
use Rattle.builder_nodes.proofs.Laws.{builds_index}
use Rattle.builder_type.proofs.Root.{short_type}
use Rattle.builder_type.proofs.Whole.{not_entered, no_root, tree_built, words_ready, root_ready, list_ready}
use Rattle.builder_type.proofs.build_type.Goals as goal

pub extend_with-requires : goal.extend_with-requires
extend_with-requires c = (
  words_ready c.requires c.begin.auto.words (omega arith) (c.begin.ensures _),
  (c.type_head-head.ensures c.requires.type_at).references,
)

pub returns-in_err-entered-clause-builds_type : goal.returns-in_err-entered-clause-builds_type
returns-in_err-entered-clause-builds_type c = λ t a d.
    hands _ c.from_residual.ensures.1 (not_entered c.type_head-head.ensures _ c.in_err-entered.ensures.kept t a d)

pub overflow_add-kind : goal.overflow_add-kind
overflow_add-kind c = omega (arith, (short_type c.requires.type_at c.requires.size).0)

pub name_at-name-requires : goal.name_at-name-requires
name_at-name-requires c = (c.type_head-head.ensures c.requires.type_at).named

pub node_from_resolved-requires : goal.node_from_resolved-requires
node_from_resolved-requires c =
    root_ready c.requires (c.extend_with.auto.words ∙ c.begin.auto.words) c.in_ok-entered.ensures.count_bound
    (kept_index (c.in_ok-entered.ensures.kept (c.type_head-head.ensures c.requires.type_at).references))
    (omega (
      arith,
      c.requires.cursor,
      c.put_le-start.ensures.value,
      c.put_name-aligned.ensures.value,
      c.open_block-body.ensures.value,
      named_short (c.type_head-head.ensures c.requires.type_at).named c.name_at-name.ensures,
    ))

pub returns-in_err-root-clause-builds_type : goal.returns-in_err-root-clause-builds_type
returns-in_err-root-clause-builds_type c = λ t a d.
    hands _ c.from_residual-in_err-root.ensures.1
    (no_root c.type_head-head.ensures _ c.in_ok-entered.ensures.kept c.in_err-root.ensures.builds t a d)

pub put_parameters-end-requires : goal.put_parameters-end-requires
put_parameters-end-requires c =
    list_ready c.requires (c.node_from_resolved.auto.words ∙ c.extend_with.auto.words ∙ c.begin.auto.words) c.in_ok-root.ensures.within.count
    (builds_index (c.in_ok-root.ensures.builds c.requires.set.0 c.requires.type_at c.requires.set.1))
    (omega (
      arith,
      c.requires.cursor,
      c.in_ok-root.ensures.within.high,
      c.put_le-start.ensures.value,
      c.put_name-aligned.ensures.value,
      c.open_block-body.ensures.value,
      named_short (c.type_head-head.ensures c.requires.type_at).named c.name_at-name.ensures,
    ))

pub returns-clause-builds_type : goal.returns-clause-builds_type
returns-clause-builds_type c =
    tree_built c.type_head-head.ensures _ c.in_ok-entered.ensures.kept c.in_ok-root.ensures.builds c.name_at-name.ensures c.open_block-body.ensures.wrote
    c.put_name-aligned.ensures.wrote c.put_le-start.ensures.wrote c.put_parameters-end.ensures.wrote c.close_block.ensures.wrote
