-- An AlignUp node: its alignment, its operand, and what it makes of the operand's count; nodes without those that change nothing.
use mathlib.Core.Path.{◌≡◌, refl, sym, ◌∙◌, ap}
use mathlib.Core.Bool.{Bool, true, false, cond}
use mathlib.Core.List.{List}
use Prim.Native.Nat.{ℕ, ◌+◌, ◌≤◌, ◌<◌}
use native.Mathlib.Omega.{arith}
use lib.Dec.{leb}
use lib.ListN.{length}
use borrow.Author.Tests.{leb-true, le-leb, lt-leb}
use Rattle.errors.specs.Refusal.{Outcome, done, refused, ◌>>=◌}
use Rattle.blocks.specs.Bytes.{le2, le4, le8}
use Rattle.blocks.specs.Grammar.{parts_of, node_table}
use Rattle.blocks.specs.Tree.{Tree, View, number, part, view}
use Rattle.ir.specs.Ir.{IrNode}
use Rattle.ir.specs.Layout.{Thing, Form, form_of, as_node, make_thing, thing_of, node_in, node_of, operations}
use Rattle.accepted.specs.Accepted.{Accepted, tree}
use Rattle.accepted.proofs.Laws.{each}
use Rattle.interpreter.specs.Arithmetic.{align_up, bits}
use Rattle.interpreter.specs.Eval.{Handlers, ParamMap, lift, eval_node}
use Rattle.interpreter_context.proofs.Laws.{kinds, Standing}
use Rattle.interpreter_context.proofs.Shape.{body_of, number_at, child_at, node_is, node_in_lem, located}
use Rattle.interpreter_leaves.specs.Steps.{unwrap, Unwrapped}

-- its alignment
pub align_number : {s : List ℕ} {at p : ℕ} → Standing s at 2 p → (a : Accepted s 128 144 at) → le2 s (at + 4) ≡ 131 → (p + 8 ≤ length s) × (number (part 2 (body_of a)) ≡ le8 s p)
unfolding parts_of node_table
align_number st a k = number_at (located 2 st a k refl)

-- its operand, which is shorter
pub align_child : {s : List ℕ} {at q : ℕ} → Standing s at 3 q → (a : Accepted s 128 144 at) → le2 s (at + 4) ≡ 131 →
    (c : Accepted s 128 144 q) × (node_of (part 3 (body_of a)) ≡ node_of (tree c)) × (le4 s q < le4 s at) × (q + 4 + le4 s q ≤ length s)
unfolding parts_of node_table
align_child st a k = child_at (located 3 st a k refl)

module _ {s : List ℕ} {at p q : ℕ} (st : Standing s at 2 p) (su : Standing s at 3 q) (k : le2 s (at + 4) ≡ 131) (handle : Handlers) (pl : ℕ) (γ : ParamMap) (a : Accepted s 128 144 at) where
  -- its count is the operand's, aligned
  pub align_node : eval_node handle pl γ (node_of (tree a)) ≡ (eval_node handle pl γ (node_of (tree (align_child su a k).0)) >>= (λ v. lift pl at (align_up bits v (le8 s p))))
  unfolding form_of make_thing eval_node
  align_node =
      ap (eval_node handle pl γ) (node_is a k refl)
      ∙ ap (λ (n : IrNode). eval_node handle pl γ n >>= (λ v. lift pl at (align_up bits v (number (part 2 (body_of a)))))) (node_in_lem 3 (body_of a) ∙ (align_child su a k).1)
      ∙ ap (λ (m : ℕ). eval_node handle pl γ (node_of (tree (align_child su a k).0)) >>= (λ v. lift pl at (align_up bits v m))) (align_number st a k).1

-- ---- an alignment of 0 or 1 hands the count on

-- what is aligned so stays what it was
handed : (pl at m : ℕ) → m ≤ 1 → (o : Outcome ℕ) → (o >>= (λ v. lift pl at (align_up bits v m))) ≡ o
unfolding ◌>>=◌ lift align_up
handed pl at m h (done v) = rw (le-leb m 1 h)
handed pl at m h (refused r) = refl

-- a node evaluates alike without the nodes that hand the count on
pub unwrap_same : (handle : Handlers) (pl : ℕ) (γ : ParamMap) (n : IrNode) → eval_node handle pl γ (unwrap n) ≡ eval_node handle pl γ n
unfolding unwrap eval_node
unwrap_same handle pl γ (IrNode.ZeroSize a m) = refl
unwrap_same handle pl γ (IrNode.Const a m v) = refl
unwrap_same handle pl γ (IrNode.FieldRef a m path parameter) = refl
unwrap_same handle pl γ (IrNode.AlignUp a m k n) = go (leb k 1) refl (unwrap_same handle pl γ n)
  where
    go : (b : Bool) → leb k 1 ≡ b → eval_node handle pl γ (unwrap n) ≡ eval_node handle pl γ n →
        eval_node handle pl γ (cond b (unwrap n) (IrNode.AlignUp a m k n)) ≡ (eval_node handle pl γ n >>= (λ v. lift pl a (align_up bits v k)))
    go true e h = h ∙ sym (handed pl a k (leb-true k 1 e) (eval_node handle pl γ n))
    go false e h = refl
unwrap_same handle pl γ (IrNode.Switch a m tag cases d) = refl
unwrap_same handle pl γ (IrNode.CallNested a m type xs) = refl
unwrap_same handle pl γ (IrNode.Binary a m op l r) = refl
unwrap_same handle pl γ (IrNode.SumOverArray a m c type field) = refl

-- ---- the loop: the node that it has come to

-- without what hands the count on, it is what the first is without it
pub record Within {s : List ℕ} {at : ℕ} (a : Accepted s 128 144 at) (r : ℕ) : Type 0 where
  pub node : Accepted s 128 144 r
  pub short : le4 s r ≤ le4 s at
  pub same : unwrap (node_of (tree node)) ≡ unwrap (node_of (tree a))

-- it begins with the node itself
pub whole : {s : List ℕ} {at : ℕ} (a : Accepted s 128 144 at) → Within a at
whole a = record { node = a; short = omega arith; same = refl }

-- a node that is no AlignUp node is the answer
other_kind : (at : ℕ) (t : Tree) (v : View Thing) (k : ℕ) → 128 ≤ k → k ≤ 144 → (k ≡ 131 → ⊥) → unwrap (as_node (make_thing (form_of k) at t v)) ≡ as_node (make_thing (form_of k) at t v)
unfolding form_of make_thing operations unwrap
other_kind at t v k lo hi =
    each (λ k. (k ≡ 131 → ⊥) → unwrap (as_node (make_thing (form_of k) at t v)) ≡ as_node (make_thing (form_of k) at t v)) 17 128 (
      (λ h. refl),
      (
        (λ h. refl),
        (
          (λ h. refl),
          (
            (λ h. absurd (h refl)),
            (
              (λ h. refl),
              (
                (λ h. refl),
                (
                  (λ h. refl),
                  (
                    (λ h. refl),
                    (
                      (λ h. refl),
                      ((λ h. refl), ((λ h. refl), ((λ h. refl), ((λ h. refl), ((λ h. refl), ((λ h. refl), ((λ h. refl), ((λ h. refl), tt)))))))),
                    ),
                  ),
                ),
              ),
            ),
          ),
        ),
      ),
    ) k lo (omega arith)

-- the loop ends at a node of another kind
pub ends_plain : {s : List ℕ} {at r k : ℕ} {a : Accepted s 128 144 at} → k ≡ le2 s (r + 4) → (k ≡ 131 → ⊥) → Within a r → Unwrapped a r
ends_plain {s} {r} ek h u =
    let b = kinds u.node in
    let n = node_is u.node refl refl in
    let e = other_kind r (body_of u.node) (view thing_of (body_of u.node)) (le2 s (r + 4)) b.0 b.1 (λ q. h (ek ∙ q)) in
    record { node = u.node; short = u.short; is = sym (ap unwrap n ∙ e ∙ sym n) ∙ u.same }

module _ {s : List ℕ} {at r p m : ℕ} {a : Accepted s 128 144 at} (st : Standing s r 2 p) (k : le2 s (r + 4) ≡ 131) (em : m ≡ le8 s p) (u : Within a r) where
  -- an AlignUp node without what hands the count on
  unwrap_align : unwrap (node_of (tree u.node)) ≡ cond (leb m 1) (unwrap (node_of (part 3 (body_of u.node)))) (node_of (tree u.node))
  unfolding form_of make_thing unwrap
  unwrap_align =
      let n = node_is u.node k refl in
      let t = body_of u.node in
      let self : IrNode = as_node (make_thing Form.align_up r t (view thing_of t)) in
      ap unwrap n
      ∙ ap (λ (j : ℕ). cond (leb j 1) (unwrap (node_in 3 (view thing_of t))) self) ((align_number st u.node k).1 ∙ sym em)
      ∙ ap (λ (x : IrNode). cond (leb m 1) (unwrap x) self) (node_in_lem 3 t)
      ∙ ap (λ (x : IrNode). cond (leb m 1) (unwrap (node_of (part 3 t))) x) (sym n)

  -- the loop ends at an alignment above 1
  pub ends_aligned : 1 < m → Unwrapped a r
  ends_aligned h = record { node = u.node; short = u.short; is = sym (unwrap_align ∙ simp (lt-leb m 1 h)) ∙ u.same }

  -- and goes on with the operand of another
  pub inner : {q : ℕ} → Standing s r 3 q → m ≤ 1 → Within a q
  inner su h =
      let c = align_child su u.node k in
      record {
        node = c.0;
        short = omega (arith, c.2, u.short);
        same = ap unwrap (sym c.1) ∙ sym (unwrap_align ∙ simp (le-leb m 1 h)) ∙ u.same;
      }
