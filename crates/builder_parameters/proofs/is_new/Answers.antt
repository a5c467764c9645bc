use mathlib.Core.Path.{sym}
use Prim.Native.Nat.{◌-◌}
use native.Mathlib.Omega.{arith}
use Rattle.marks.proofs.Walks.{walk_last, walk_chain, walk_before, walk_end}
use Rattle.builder_parameters.proofs.Listed.{not_new, new}
use Rattle.builder_parameters.proofs.is_new.Goals as goal

pub loop-j-init : goal.loop-j-init
loop-j-init c = walk_last (c.last-j.ensures (record { marks = _; count = _; linked = c.requires.linked }))

pub returns-then-same_names : goal.returns-then-same_names
returns-then-same_names c =
    not_new _ _ c.args.i (c.loop-j.j - 1) (omega (arith, c.loop-j.invariant.within, c.loop-j-test.true)) c.same_names.ensures
    c.if-same_names.true

pub before-j-requires : goal.before-j-requires
before-j-requires c = (c.loop-j-test.true, walk_chain c.loop-j.invariant c.requires.linked)

pub loop-j-smaller : goal.loop-j-smaller
loop-j-smaller c =
    (walk_before c.loop-j.invariant c.loop-j-test.true (sym c.if-same_names.ensures)
    (c.before-j.ensures (walk_chain c.loop-j.invariant c.requires.linked))).1

pub loop-j-preserved : goal.loop-j-preserved
loop-j-preserved c =
    (walk_before c.loop-j.invariant c.loop-j-test.true (sym c.if-same_names.ensures)
    (c.before-j.ensures (walk_chain c.loop-j.invariant c.requires.linked))).0

pub returns : goal.returns
returns c = new _ _ _ c.requires.mark_is (walk_end c.loop-j.invariant c.loop-j-test.false)
