-- The field's node, unless the end of the prefix is too large; the next field stands behind it.
use Rattle.std.proofs.Common.{◌∙◌, sym, arith}
use Rattle.answers.proofs.Laws.{hands, lacks}
use Rattle.builder_structs.proofs.Laws.{field_here, field_inside, field_rest, over_left, node_stopped, node_left}
use Rattle.builder_structs.proofs.field_node.Goals as goal

pub field_parts-p-requires : goal.field_parts-p-requires
field_parts-p-requires c = field_here c.requires.1 c.requires.0.list

pub prefix_after-requires : goal.prefix_after-requires
prefix_after-requires c = (c.field_parts-p.ensures (field_here c.requires.1 c.requires.0.list)).type

pub returns-in_err-end-clause-ran : goal.returns-in_err-end-clause-ran
returns-in_err-end-clause-ran c = λ t b l q.
    lacks _ c.from_residual.ensures.1 c.in_err-end.ensures.value c.in_err-end.ensures.ok_part
    (over_left c.requires.1 c.field_parts-p.ensures _ _ (λ a. sym c.in_err-end.ensures.ok_part ∙ c.prefix_after.ensures a) t b l q)

pub overflow_add-f : goal.overflow_add-f
overflow_add-f c = omega (arith, field_inside c.requires.1 c.requires.0.list, c.requires.0.standing.size)

pub build_field-requires : goal.build_field-requires
build_field-requires c =
    let here = c.field_parts-p.ensures (field_here c.requires.1 c.requires.0.list) in
    record {
      field = record {
        base = record { standing = c.requires.0.standing; set = c.requires.0.set; type_at = here.type; cursor = c.requires.0.cursor };
        named = here.named;
      };
      refs = c.requires.0.refs;
    }

pub returns-in_err-node-clause-ran : goal.returns-in_err-node-clause-ran
returns-in_err-node-clause-ran c = λ t b l q.
    hands _ c.from_residual-in_err-node.ensures.1
    (node_stopped c.requires.1 c.field_parts-p.ensures _ _ (λ a. sym c.in_ok-end.ensures.ok_part ∙ c.prefix_after.ensures a) c.in_err-node.ensures.builds t b l q)

pub overflow_add-rest : goal.overflow_add-rest
overflow_add-rest c = omega (arith, field_inside c.requires.1 c.requires.0.list, c.requires.0.standing.size)

pub read4-requires : goal.read4-requires
read4-requires c = omega (arith, field_inside c.requires.1 c.requires.0.list)

pub overflow_add-rest-2 : goal.overflow_add-rest-2
overflow_add-rest-2 c = omega (arith, c.read4.ensures.0, field_inside c.requires.1 c.requires.0.list, c.requires.0.standing.size)

pub returns-clause-goes : goal.returns-clause-goes
returns-clause-goes c = record {
  low = c.in_ok-node.ensures.within.low;
  high = c.in_ok-node.ensures.within.high;
  count = c.in_ok-node.ensures.within.count;
  list = field_rest c.requires.1 c.read4.ensures.0 c.requires.0.list;
}

pub returns-clause-ran : goal.returns-clause-ran
returns-clause-ran c =
    node_left c.requires.1 c.field_parts-p.ensures _ _ (λ a. sym c.in_ok-end.ensures.ok_part ∙ c.prefix_after.ensures a) c.in_ok-node.ensures.builds
    c.read4.ensures.0
