-- A question that is not passed refuses, else the layout is built.
use Rattle.std.proofs.lemmas.Result.{err_from_is_err_and}
use Rattle.builder_set.proofs.Laws.{set_unread, set_read, set_ready}
use Rattle.builder_set.proofs.built.Goals as goal

pub returns-in_err-one_read : goal.returns-in_err-one_read
returns-in_err-one_read c =
    let p = err_from_is_err_and c.from_residual.result c.from_residual.ensures.1 in rw p.1 (set_unread _ _ _ _ c.in_err-one_read.ensures p.2)

pub build_layout-requires : goal.build_layout-requires
build_layout-requires c = set_ready _ _ c.in_ok-one_read.ensures c.requires

pub returns : goal.returns
returns c = set_read _ _ c.in_ok-one_read.ensures _ c.build_layout.ensures
