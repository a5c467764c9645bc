-- `put_canonical_name` meets its contract: the owner, or the length, the owner, a dot and the rest, one write behind the other.
use native.Mathlib.Omega.{arith}
use Rattle.builder_names.proofs.Canonical.{length_rest, puts_rest}
use Rattle.builder_names.proofs.put_canonical_name.Goals as goal

pub returns-in-Some : goal.returns-in-Some
returns-in-Some c = record {
  wrote = puts_rest _ _ c.in-Some.ensures c.put_le-p.ensures.wrote c.put_from-q.ensures.wrote c.put_byte-u.ensures.wrote
      c.put_from.ensures.wrote;
  value = omega (arith, length_rest _ _ c.in-Some.ensures);
}
