-- A path without a segment marks nothing; one of over 511 bytes is no entry's, so the definition marks nothing either; any other is joined
-- in a buffer and marked.
use Rattle.std.proofs.Common.{refl}
use Rattle.builder_switches.proofs.Marks.{mark_none, mark_long, mark_path}
use Rattle.builder_switches.proofs.mark_path.Goals as goal

pub returns-then-no_segments-clause-n_after : goal.returns-then-no_segments-clause-n_after
returns-then-no_segments-clause-n_after c = mark_none _ _ c.requires.1 c.no_segments.ensures c.if-no_segments.true

pub returns-then-m-gt511-clause-n_after : goal.returns-then-m-gt511-clause-n_after
returns-then-m-gt511-clause-n_after c =
    mark_long _ _
    c.requires.1
    c.no_segments.ensures
    c.joined_length-m.ensures
    c.if-no_segments.false
    c.if-m-gt511.true
    c.requires.0.standing
    c.requires.0.owned
    refl

pub returns-clause-n_after : goal.returns-clause-n_after
returns-clause-n_after c =
    mark_path _ _
    c.requires.1
    c.no_segments.ensures
    c.joined_length-m.ensures
    c.if-no_segments.false
    c.if-m-gt511.false
    refl
    c.put_joined.ensures
    c.mark_derived.ensures.n_after
