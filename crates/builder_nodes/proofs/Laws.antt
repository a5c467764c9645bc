-- Nodes that are opened, then filled, then closed; what a builder's answer says, and how it goes on.
use Rattle.std.specs.Prelude.{Result, Ok, Err}
use mathlib.Core.Path.{◌≡◌, refl, sym, ap, ◌∙◌, subst}
use mathlib.Core.List.{List, [], ◌++◌, append_assoc, append-nil}
use Prim.Native.Nat.{ℕ, ◌+◌, ◌-◌, ◌≤◌, ◌<◌}
use native.Mathlib.Omega.{arith}
use Rattle.errors.specs.Refusal.{Outcome, done, refused, plain}
use Rattle.errors.specs.Refusal.{◌>>=◌ as ◌and_then◌}
use Rattle.errors.specs.declared.Reason.{Reason}
use Rattle.errors.specs.declared.Reason.TheVariants.{InputTooLong}
use Rattle.errors.specs.Meaning.{number_of}
use Rattle.answers.specs.Answers.{Answers}
use Rattle.answers.proofs.Laws.{answered, unanswered, passes, goes}
use Rattle.blocks.specs.Bytes.{bytes}
use Rattle.blocks.specs.Tree.{Tree, num, nil, cons}
use Rattle.blocks.specs.Write.{write}
use Rattle.ir.specs.Ir.{IrNode, aligned}
use Rattle.ir.specs.Layout.{node_block, node_tree}
use Rattle.builder.specs.Registry.{Registry, Build, ◌>>=◌}
use Rattle.builder.specs.Nodes.{align_node}
use Rattle.wire.specs.Poke.{Wrote, opened}
use Rattle.wire.proofs.Laws.{both, closed}
use Rattle.builder_registry.specs.Words.{entries_of, Indexed}
use Rattle.builder_nodes.specs.declared.Built.{Built}
use Rattle.builder_nodes.specs.Built.{Builds, Within, node_start}

-- ---- the bytes of a node

-- the bytes of a node's head and of its parts, in the order in which the block has them
start_node : (k a : ℕ) (w : List ℕ) → node_start k a ++ w ≡ opened k ++ (bytes 8 a ++ ((bytes 1 0 ++ []) ++ w))
unfolding node_start write
start_node k a w = rw (append_assoc, append_assoc, append-nil) refl

-- a node whose parts behind the metadata are t
pub node_closed : {xs ys zs ys' : List ℕ} {at p u q : ℕ} (k a : ℕ) (t : Tree) → Wrote xs at (node_start k a) ys' p →
    Wrote ys' p (write t) ys u → Wrote ys at (bytes 4 (u - at - 4)) zs q →
    Wrote xs at (write (node_block k (aligned a) t)) zs u
unfolding node_start write
node_closed {xs} {ys} {at} {u} k a t w v c =
    closed 0 k (cons (num 8 a) (cons (cons (num 1 0) nil) t)) (subst (λ (bs : List ℕ). Wrote xs at bs ys u) (start_node k a (write t)) (both w v)) c

-- the same for an AlignUp node, whose alignment stands before the node that it aligns
start_align : (a : ℕ) (w : List ℕ) → (node_start 131 a ++ bytes 8 a) ++ w ≡ opened 131 ++ (bytes 8 a ++ ((bytes 1 0 ++ []) ++ (bytes 8 a ++ (w ++ []))))
start_align a w = append_assoc (node_start 131 a) (bytes 8 a) w ∙ start_node 131 a (bytes 8 a ++ w) ∙ rw (append-nil w) refl

-- an AlignUp node of n
pub align_closed : {xs ys zs ys' : List ℕ} {at p u q : ℕ} (a : ℕ) (n : IrNode) →
    Wrote xs at (node_start 131 a ++ write (num 8 a)) ys' p → Wrote ys' p (write (node_tree n)) ys u →
    Wrote ys at (bytes 4 (u - at - 4)) zs q →
    Wrote xs at (write (node_tree (align_node n a))) zs u
unfolding node_tree write node_start
align_closed {xs} {ys} {ys'} {at} {p} {u} a n w v c =
    closed 0 131 (cons (num 8 a) (cons (cons (num 1 0) nil) (cons (num 8 a) (cons (node_tree n) nil))))
    (subst (λ (bs : List ℕ). Wrote xs at bs ys u) (start_align a (write (node_tree n))) (both w v)) c

-- the same of another alignment that is the same
pub start_at : {xs ys : List ℕ} {at p : ℕ} (k : ℕ) {a b : ℕ} → a ≡ b → Wrote xs at (node_start k a) ys p → Wrote xs at (node_start k b) ys p
start_at {xs} {ys} {at} {p} k e w = subst (λ (z : ℕ). Wrote xs at (node_start k z) ys p) e w

-- ---- what a builder's answer says

-- no reason has the number 0, which is that of an accepted call
pub number_above : (e : Reason) → 0 < number_of e
number_above InputTooLong = omega arith
number_above _ = omega arith

module _ {s xs us ys : List ℕ} {at : ℕ} {o : Outcome (IrNode × Registry)} where
  -- a value: the definition gives a node and the registry that the words hold, and the node was written
  pub builds_done : {r : Built} → Builds s xs at us ys (Ok r) o →
      (n : IrNode) × (o ≡ done (n, entries_of s us r.count)) × Wrote xs at (write (node_tree n)) ys r.at
  builds_done b =
      let a = answered b in
      (a.0.0, a.1 ∙ ap (λ (g : Registry). done (a.0.0, g)) (sym a.2.entries), a.2.wrote)

  -- and the words hold the index of that registry
  pub builds_index : {r : Built} → Builds s xs at us ys (Ok r) o → Indexed s us r.count
  builds_index b = (answered b).2.index

  -- a reason: the definition refuses with its number
  pub builds_refused : {e : Reason} → Builds s xs at us ys (Err e) o → (o ≡ refused (plain (number_of e))) × (0 < number_of e)
  builds_refused {e} b = (unanswered b, number_above e)

-- ---- how an action on the registry goes on, once its first step was answered

module _ {A B R Q : Type 0} {Made : R → A × Registry → Type 0} {Next : Q → B × Registry → Type 0} (m : Build A) (k : A → Build B) (g : Registry) where
  -- a refusal is the answer of the whole
  pub step_passes : {e : Reason} → Answers Made (Err e) (m g) → Answers Next (Err e) ((m >>= k) g)
  unfolding ◌>>=◌
  step_passes a = passes (λ (x : A × Registry). k x.0 x.1) a

  -- what was made goes on
  pub step_goes : {r : R} {q : Result Q Reason} → Answers Made (Ok r) (m g) → ((x : A × Registry) → Made r x → Answers Next q (k x.0 x.1)) →
      Answers Next q ((m >>= k) g)
  unfolding ◌>>=◌
  step_goes a f = goes (λ (x : A × Registry). k x.0 x.1) a f

  -- whatever the answer is: a refusal is the whole's, and what was made goes on
  pub step_then : {r : Result R Reason} {q : Result Q Reason} → Answers Made r (m g) → ((e : Reason) → r ≡ Err e → q ≡ Err e) →
      ((x : A × Registry) (v : R) → r ≡ Ok v → Made v x → Answers Next q (k x.0 x.1)) → Answers Next q ((m >>= k) g)
  step_then {r = Ok v} a p f = step_goes a (λ x i. f x v refl i)
  step_then {r = Err e} a p f = rw (p e refl) (step_passes a)

-- the same where one answer is that of both: its reason is the whole's anyway
pub step_shared : {A B R : Type 0} {Made : R → A × Registry → Type 0} {Next : R → B × Registry → Type 0} (m : Build A) (k : A → Build B) (g : Registry)
    {r : Result R Reason} →
    Answers Made r (m g) → ((x : A × Registry) (v : R) → r ≡ Ok v → Made v x → Answers Next r (k x.0 x.1)) → Answers Next r ((m >>= k) g)
step_shared m k g a f = step_then m k g a (λ e h. h) f

module _ {A B : Type 0} (m : Build A) (g : Registry) where
  -- steps are the same however they are grouped
  pub step_assoc : {C : Type 0} (k : A → Build B) (l : B → Build C) → ((m >>= k) >>= l) g ≡ (m >>= (λ a. k a >>= l)) g
  unfolding ◌>>=◌ ◌and_then◌
  step_assoc {C} k l = go (m g)
    where
      go : (o : Outcome (A × Registry)) →
          ◌and_then◌ {B = C × Registry} (◌and_then◌ o (λ x. k x.0 x.1)) (λ y. l y.0 y.1) ≡ ◌and_then◌ o (λ x. ◌and_then◌ (k x.0 x.1) (λ y. l y.0 y.1))
      go (done x) = refl
      go (refused q) = refl

  -- steps that go on alike are the same
  pub step_same : (k l : A → Build B) → ((a : A) (h : Registry) → k a h ≡ l a h) → (m >>= k) g ≡ (m >>= l) g
  unfolding ◌>>=◌ ◌and_then◌
  step_same k l f = go (m g)
    where
      go : (o : Outcome (A × Registry)) → ◌and_then◌ o (λ x. k x.0 x.1) ≡ ◌and_then◌ o (λ x. l x.0 x.1)
      go (done x) = f x.0 x.1
      go (refused q) = refl

-- ---- where the cursor goes

-- what stays within some room stays within more
pub widened : {at room more : ℕ} {r : Built} → room ≤ more → Within at room r → Within at more r
widened h w = record { low = w.low; high = omega (arith, w.high); count = w.count }

-- so does what is built behind d bytes
pub behind : {at p room more : ℕ} {r : Built} (d : ℕ) → p ≡ at + d → d + room ≤ more → Within p room r → Within at more r
behind d e h w = record { low = omega (arith, w.low); high = omega (arith, w.high); count = w.count }

-- a cursor behind what was built
pub ends_at : {at r room n : ℕ} → at ≤ r → r ≤ at + room → n ≤ 512 → Within at room (record { at = r; count = n })
ends_at l h c = record { low = l; high = h; count = c }
