-- The lowest byte is written, and the others are left; then none is.
use Rattle.std.proofs.Common.{ℕ, ◌≡◌, ◌+◌, ◌-◌, refl, subst, rules, arith}
use Rattle.blocks.specs.Bytes.{bytes}
use Rattle.wire.specs.Poke.{Wrote}
use Rattle.wire.proofs.Laws.{le_none, le_more}
use Rattle.wire.proofs.put_le.Goals as goal

pub loop-i-preserved : goal.loop-i-preserved
loop-i-preserved c = (
  search rules,
  λ zs r g.
      let next : c.args.k - (c.loop-i.i + 1) ≡ c.args.k - c.loop-i.i - 1 = omega arith in
      let at : c.args.at + (c.loop-i.i + 1) ≡ c.args.at + c.loop-i.i + 1 = omega arith in
      c.loop-i.invariant.1 zs r
      (le_more _ _ _ _ _ _ _ _ (omega arith) c.put_byte.ensures.wrote (rw (c.put_byte.ensures.value, ← next, ← at) g)),
)

pub returns : goal.returns
returns c =
    let all : c.loop-i.i ≡ c.args.k = omega arith in
    record {
      wrote = subst (λ (q : ℕ). Wrote c.args.out.now c.args.at (bytes c.args.k c.args.v) c.loop-i.out (c.args.at + q)) all (c.loop-i.invariant.1 _ _ (le_none _ _ _ _ (omega arith)));
      value = refl;
    }
