use Rattle.std.proofs.Common.{arith}
use Rattle.builder_calls.proofs.Collecting.{room_left, behind_hands}
use Rattle.builder_calls.proofs.Laws.{paths_begin, path_here, paths_stop, paths_more, paths_end}
use Rattle.builder_calls.proofs.put_arguments.Goals as goal

pub loop-init : goal.loop-init
loop-init c = paths_begin _ _ c.requires.room c.requires.paths_at (omega arith)

pub put_argument-requires : goal.put_argument-requires
put_argument-requires c = record {
  room = room_left c.loop.invariant c.requires.room (omega arith);
  owned = c.requires.owned;
  marked = c.requires.marked;
  named = path_here _ _ c.loop.invariant (omega arith);
}

pub returns-in_err-collected-clause-behind : goal.returns-in_err-collected-clause-behind
returns-in_err-collected-clause-behind c =
    λ p. behind_hands _ c.from_residual.ensures.1 (paths_stop _ _ c.loop.invariant (omega arith) c.in_err-collected.ensures.behind p)

pub next_name-path-requires : goal.next_name-path-requires
next_name-path-requires c = (path_here _ _ c.loop.invariant (omega arith)).inside

pub loop-preserved : goal.loop-preserved
loop-preserved c =
    paths_more _ _
    c.loop.invariant
    (omega arith)
    c.in_ok-collected.ensures.behind
    c.in_ok-collected.ensures.fills
    (omega arith)
    c.next_name-path.ensures

pub returns-clause-behind : goal.returns-clause-behind
returns-clause-behind c = paths_end _ _ c.loop.invariant (omega arith)
