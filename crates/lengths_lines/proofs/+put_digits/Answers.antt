use native.Mathlib.Omega.{arith}
use Rattle.lengths_lines.proofs.Laws.{digits_none, digits_one, digits_more}
use Rattle.lengths_lines.proofs.+put_digits.Goals as goal

pub returns-then-k-eq0 : goal.returns-then-k-eq0
returns-then-k-eq0 t c = record {
  wrote = digits_none _ _ _ _ c.if-k-eq0.true;
  upper_bound = omega arith;
}

pub returns-then-n-lt10 : goal.returns-then-n-lt10
returns-then-n-lt10 t c = record {
  wrote = search (digits_one);
  upper_bound = omega arith;
}

pub returns : goal.returns
returns t c = record {
  wrote = search (digits_more);
  upper_bound = omega arith;
}
