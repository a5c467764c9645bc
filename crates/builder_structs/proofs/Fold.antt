-- The law of left-nested sums, for any way to make the next node: the sum of one more is the Add of the sum and the next.
use mathlib.Core.Path.{◌≡◌, refl, ap, ◌∙◌}
use mathlib.Core.List.{List, [], ◌∷◌, ◌++◌}
use Prim.Native.Nat.{ℕ, zero, suc, ◌-◌}
use native.Mathlib.Numerals.{sub-one}
use Rattle.errors.specs.Refusal.{Outcome, done, refused, ◌>>=◌}
use Rattle.ir.specs.Ir.{IrNode, BinaryOp, unplaced, default_metadata}
use Rattle.builder.specs.Nodes.{add_all}
use Rattle.builder_structs.specs.Fold.{up_to, combine, summed}

-- an Add node of the default alignment
abbrev pub sum_node : IrNode → IrNode → IrNode
sum_node l r = IrNode.Binary unplaced default_metadata BinaryOp.AddChecked l r

-- a sum with one node more is the Add of the sum and that node
add_last : (n : IrNode) (ns : List IrNode) (x : IrNode) → add_all n (ns ++ (x ∷ [])) ≡ sum_node (add_all n ns) x
unfolding add_all
add_last n [] x = refl
add_last n (m ∷ ns) x = add_last (sum_node n m) ns x

module _ {S : Type 0} where
  -- a node before others
  abbrev cons : S × IrNode → S × List IrNode → Outcome (S × List IrNode)
  cons x y = done (y.0, x.1 ∷ y.1)

  -- a node behind others
  abbrev snoc : S × List IrNode → S × IrNode → Outcome (S × List IrNode)
  snoc y z = done (z.0, y.1 ++ (z.1 ∷ []))

  -- the sum of what was made
  abbrev fin : S × List IrNode → Outcome (S × IrNode)
  fin y = combine y.1 >>= (λ n. done (y.0, n))

  -- a sum, and the node behind it
  abbrev pub plus : S × IrNode → S × IrNode → Outcome (S × IrNode)
  plus y z = done (z.0, sum_node y.1 z.1)

module _ {S : Type 0} (next : S → Outcome (S × IrNode)) where
  -- one node more, behind those that were made
  abbrev last : S × List IrNode → Outcome (S × List IrNode)
  last y = next y.0 >>= snoc y

  -- one node more, added to a sum
  abbrev pub more : S × IrNode → Outcome (S × IrNode)
  more y = next y.0 >>= plus y

  -- one node before and one behind, in either order
  cons_last : (x : S × IrNode) (b : Outcome (S × List IrNode)) → (b >>= last) >>= cons x ≡ (b >>= cons x) >>= last
  unfolding ◌>>=◌
  cons_last x (refused r) = refl
  cons_last x (done y) = go (next y.0)
    where
      go : (c : Outcome (S × IrNode)) → (c >>= snoc y) >>= cons x ≡ c >>= snoc (y.0, x.1 ∷ y.1)
      go (refused r) = refl
      go (done z) = refl

  -- k + 1 nodes are k nodes and one behind them
  up_to_last : (k : ℕ) (s : S) → up_to next (suc k) s ≡ up_to next k s >>= last
  unfolding up_to ◌>>=◌
  up_to_last zero s = refl
  up_to_last (suc k) s = go (next s) (λ x. up_to_last k x.0)
    where
      go : (a : Outcome (S × IrNode)) → ((x : S × IrNode) → up_to next (suc k) x.0 ≡ up_to next k x.0 >>= last) →
          a >>= (λ x. up_to next (suc k) x.0 >>= cons x) ≡ (a >>= (λ x. up_to next k x.0 >>= cons x)) >>= last
      go (refused r) h = refl
      go (done x) h = ap (λ (o : Outcome (S × List IrNode)). o >>= cons x) (h x) ∙ cons_last x (up_to next k x.0)

  -- the sum of one node more, where one node at least was made
  fin_last : (x : S × IrNode) (b : Outcome (S × List IrNode)) → ((b >>= cons x) >>= last) >>= fin ≡ ((b >>= cons x) >>= fin) >>= more
  unfolding combine ◌>>=◌
  fin_last x (refused r) = refl
  fin_last x (done y) = go (next y.0)
    where
      go : (c : Outcome (S × IrNode)) → (c >>= snoc (y.0, x.1 ∷ y.1)) >>= fin ≡ c >>= plus (y.0, add_all x.1 y.1)
      go (refused r) = refl
      go (done z) = ap {B = Outcome (S × IrNode)} (λ (n : IrNode). done (z.0, n)) (add_last x.1 y.1 z.1)

  -- the same of the first k + 1 nodes
  fin_more : (k : ℕ) (s : S) → (up_to next (suc k) s >>= last) >>= fin ≡ (up_to next (suc k) s >>= fin) >>= more
  unfolding up_to ◌>>=◌
  fin_more k s = go (next s)
    where
      go : (a : Outcome (S × IrNode)) → ((a >>= (λ x. up_to next k x.0 >>= cons x)) >>= last) >>= fin ≡ ((a >>= (λ x. up_to next k x.0 >>= cons x)) >>= fin) >>= more
      go (refused r) = refl
      go (done x) = fin_last x (up_to next k x.0)

  -- the sum of k + 2 nodes is that of k + 1 and the next
  summed_more : (k : ℕ) (s : S) → summed next (suc (suc k)) s ≡ summed next (suc k) s >>= more
  unfolding summed
  summed_more k s = ap (λ (o : Outcome (S × List IrNode)). o >>= fin) (up_to_last (suc k) s) ∙ fin_more k s

  -- the sum of one node is that node
  pub summed_one : (s : S) → summed next 1 s ≡ next s
  unfolding summed up_to combine add_all ◌>>=◌
  summed_one s = go (next s)
    where
      go : (a : Outcome (S × IrNode)) → (a >>= (λ x. done (x.0, []) >>= cons x)) >>= fin ≡ a
      go (refused r) = refl
      go (done x) = refl

  -- the same as the code has it: counted down
  pub summed_at : (k : ℕ) (s : S) → (k ≡ 0 → ⊥) → (k ≡ 1 → ⊥) → summed next k s ≡ summed next (k - 1) s >>= more
  summed_at zero s a b = absurd (a refl)
  summed_at (suc zero) s a b = absurd (b refl)
  summed_at (suc (suc k)) s a b = rw sub-one (summed_more k s)
