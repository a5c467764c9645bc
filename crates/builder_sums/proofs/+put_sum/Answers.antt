use native.Mathlib.Omega.{arith}
use mathlib.Core.Path.{refl}
use Rattle.answers.proofs.Laws.{hands}
use Rattle.builder_registry.proofs.Laws.{standing}
use Rattle.builder_nodes.proofs.Laws.{builds_index}
use Rattle.builder_sums.proofs.Sums.{sum_first, sum_stops, sum_stops_last, sum_done}
use Rattle.builder_sums.proofs.+put_sum.Goals as goal

pub returns-then-k-eq1-clause-builds : goal.returns-then-k-eq1-clause-builds
returns-then-k-eq1-clause-builds t c = sum_first _ _ _ c.if-k-eq1.true (omega (arith, c.requires.1, c.requires.2)) c.put_ref.ensures.builds

pub returns-in_err-l-clause-builds : goal.returns-in_err-l-clause-builds
returns-in_err-l-clause-builds t c = hands _ c.from_residual.ensures.1 (sum_stops _ _ _ c.requires.2 c.if-k-eq1.false c.requires.1 c.in_err-l.ensures.builds)

pub put_ref-requires-2 : goal.put_ref-requires-2
put_ref-requires-2 t c = let known = c.requires.0 in (
  record {
    standing = standing known.standing refl c.in_ok-l.ensures.within.count (builds_index c.in_ok-l.ensures.builds);
    owned = known.owned;
    list = known.list;
  },
  omega (arith, c.requires.1, c.requires.2),
  omega (arith, c.requires.3, c.open_add-p.ensures.value, c.in_ok-l.ensures.within.high, c.requires.2),
)

pub returns-in_err-m-clause-builds : goal.returns-in_err-m-clause-builds
returns-in_err-m-clause-builds t c = hands _ c.from_residual-in_err-m.ensures.1
    (sum_stops_last _ _ _ c.requires.2 c.if-k-eq1.false c.requires.1 c.in_ok-l.ensures.builds c.in_err-m.ensures.builds)

pub returns-clause-builds : goal.returns-clause-builds
returns-clause-builds t c = sum_done _ _ _ c.requires.2 c.if-k-eq1.false c.requires.1 c.in_ok-l.ensures.builds c.open_add-p.ensures.wrote c.in_ok-m.ensures.builds
    c.close_block.ensures.wrote
