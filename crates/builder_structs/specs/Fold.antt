-- Nodes made one after the other from a state, and their left-nested sum.
use Rattle.std.specs.Prelude.{ℕ, zero, suc, List, [], ◌∷◌}
use Rattle.errors.specs.Refusal.{Outcome, done, refused, plain, ◌>>=◌, MissingDynamicRefs}
use Rattle.ir.specs.Ir.{IrNode}
use Rattle.builder.specs.Nodes.{add_all}

-- the first k nodes
unfoldable pub up_to : {S : Type 0} → (S → Outcome (S × IrNode)) → ℕ → S → Outcome (S × List IrNode)
up_to next zero s = done (s, [])
up_to next (suc k) s = do
  x ← next s
  y ← up_to next k x.0
  done (y.0, x.1 ∷ y.1)

-- `combine_checked_add`
unfoldable pub combine : List IrNode → Outcome IrNode
combine [] = refused (plain MissingDynamicRefs)
combine (n ∷ ns) = done (add_all n ns)

-- their sum
unfoldable pub summed : {S : Type 0} → (S → Outcome (S × IrNode)) → ℕ → S → Outcome (S × IrNode)
summed next k s = do
  y ← up_to next k s
  n ← combine y.1
  done (y.0, n)
