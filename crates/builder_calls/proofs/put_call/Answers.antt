use Rattle.std.proofs.Common.{refl, arith}
use Rattle.answers.proofs.Laws.{hands}
use Rattle.builder_calls.proofs.Laws.{call_stop, call_done}
use Rattle.builder_calls.proofs.put_call.Goals as goal

pub count_paths-path_count-requires : goal.count_paths-path_count-requires
count_paths-path_count-requires c = ((c.type_head-references.ensures c.requires.type_at).references, c.requires.standing.size)

pub put_owners-requires : goal.put_owners-requires
put_owners-requires c = record {
  room = record { standing = c.requires.standing; most = omega arith; cursor = omega arith };
  references_at = (c.type_head-references.ensures c.requires.type_at).references;
}

pub returns-in_err-r-clause-builds : goal.returns-in_err-r-clause-builds
returns-in_err-r-clause-builds c =
    λ a. hands _ c.from_residual.ensures.1 (call_stop refl c.type_head-references.ensures _ _ c.in_err-r.ensures.behind a)

pub returns-clause-builds : goal.returns-clause-builds
returns-clause-builds c =
    call_done refl
    c.type_head-references.ensures _ _ _
    c.in_ok-r.ensures.behind
    c.count_paths-path_count.ensures.value
    c.open_node-p.ensures.wrote
    c.put_text_part-u.ensures.wrote
    c.put_count_part-v.ensures.wrote
    c.close_block.ensures.wrote
