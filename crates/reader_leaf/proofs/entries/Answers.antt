use Rattle.std.proofs.Common.{sym, arith}
use Rattle.std.proofs.Math.Nat.{sub-zero}
use Rattle.std.proofs.lemmas.Result.{err_from_is_err_and}
use Rattle.reader_leaf.proofs.Lists.{list_of, entry_named, going, going_none, going_stop, going_go}
use Rattle.reader_leaf.proofs.entries.Goals as goal

pub loop-init : goal.loop-init
loop-init c = (
  omega arith,
  c.in_ok-n.ensures.inside,
  λ z. absurd (omega arith),
  rw sub-zero (going (entry_named _ _ _ _) (list_of _ _ _ _ _ _ _ (sym c.in_ok-n.ensures.read))),
)

pub returns-in_err-next-clause-read : goal.returns-in_err-next-clause-read
returns-in_err-next-clause-read c =
    let p = err_from_is_err_and c.from_residual-in_err-next.result c.from_residual-in_err-next.ensures.1 in
    rw (p.1, p.2) (sym (going_stop (entry_named _ _ _ _) c.loop.invariant.3 (omega arith) (sym c.in_err-next.ensures.read)))

pub loop-preserved : goal.loop-preserved
loop-preserved c =
    let e = c.in_ok-next.ensures.inside in (
      omega arith,
      e.1,
      λ z. omega arith,
      going_go (entry_named _ _ _ _) c.loop.invariant.3 (omega arith) c.loop.invariant.0 (sym c.in_ok-next.ensures.read),
    )

pub returns-clause-read : goal.returns-clause-read
returns-clause-read c = sym (going_none (entry_named _ _ _ _) c.loop.invariant.3 (omega arith))
