-- Where a type that is found stands, and where two nodes stand that are reached the same way.
use Prim.Native.Nat.{ℕ, suc, ◌+◌}
use mathlib.Core.Path.{◌≡◌, ap, subst}
use mathlib.Core.Bool.{Bool, true, false}
use mathlib.Core.List.{List, [], ◌∷◌, ◌++◌}
use native.Mathlib.Omega.{arith}
use Rattle.errors.specs.Refusal.{Outcome, done}
use Rattle.errors.proofs.Laws.{done_one, not_done}
use Rattle.blocks.specs.Name.{Name, same}
use Rattle.ir.specs.Ir.{IrNode, TypeIr}
use Rattle.interpreter.specs.Eval.{lookup_type}
use Rattle.compat.specs.Ways.{Step, Reached, At}
use Rattle.compat.specs.Statement.{SamePlace}

-- ---- the place of a type that is found

-- counted from any start i
found_from : (i : ℕ) (n : Name) (types : List TypeIr) (j : ℕ) (t : TypeIr) → lookup_type i n types ≡ done (j, t) → (k : ℕ) × (j ≡ i + k) × At k t types
unfolding lookup_type
found_from i n [] j t e = absurd (not_done e)
found_from i n (u ∷ us) j t e = first (same n u.type_name) e (found_from (suc i) n us j t)
  where
    first : (b : Bool) → ◌≡◌ {A = Outcome (ℕ × TypeIr)} (elim b [ true ↦ done (i, u) | false ↦ lookup_type (suc i) n us ]) (done (j, t))
        → (lookup_type (suc i) n us ≡ done (j, t) → (k : ℕ) × (j ≡ suc i + k) × At k t us)
        → (k : ℕ) × (j ≡ i + k) × At k t (u ∷ us)
    first true e later = let p : ◌≡◌ {A = ℕ × TypeIr} (i, u) (j, t) = done_one e in
        let q : i ≡ j = ap (λ x. x.0) p in
        (0, omega arith, subst (λ x. At 0 x (u ∷ us)) (ap (λ x. x.1) p) At.here)
    first false e later = let f = later e in (suc f.0, omega (arith, f.1), At.there f.2)

-- a type that is found by name stands at its place
pub found_at_lem : (n : Name) (types : List TypeIr) (j : ℕ) (t : TypeIr) → lookup_type 0 n types ≡ done (j, t) → At j t types
found_at_lem n types j t e = let f = found_from 0 n types j t e in
    let q : f.0 ≡ j = omega (arith, f.1) in
    subst (λ k. At k t types) q f.2

-- ---- the same way

-- a way and one behind it
behind : {n x y : IrNode} {w v : List Step} → Reached n w x → Reached x v y → Reached n (w ++ v) y
behind (Reached.here n) r = r
behind (Reached.node a m b q) r = Reached.node a m b (behind q r)
behind (Reached.left a m o q) r = Reached.left a m o (behind q r)
behind (Reached.right a m o q) r = Reached.right a m o (behind q r)
behind (Reached.case a m t d c q) r = Reached.case a m t d c (behind q r)
behind (Reached.default a m t cs q) r = Reached.default a m t cs (behind q r)
behind (Reached.count a m t f q) r = Reached.count a m t f (behind q r)

-- Two nodes that stand at the same way from the roots of two same-named types. A 22 then has the new switch at hand.
pub record Stand (old new : List TypeIr) (p q : ℕ) (n n' : IrNode) : Type 0 where
  pub old_type : TypeIr
  pub new_type : TypeIr
  pub old_there : At p old_type old
  pub new_there : At q new_type new
  pub named : old_type.type_name ≡ new_type.type_name
  pub way : List Step
  pub old_way : Reached old_type.root way n
  pub new_way : Reached new_type.root way n'

module _ {old new : List TypeIr} {p q : ℕ} where
  -- the roots of two same-named types
  pub roots : {t t' : TypeIr} → At p t old → At q t' new → t.type_name ≡ t'.type_name → Stand old new p q t.root t'.root
  roots {t} {t'} a b e = record {
    old_type = t;
    new_type = t';
    old_there = a;
    new_there = b;
    named = e;
    way = [];
    old_way = Reached.here t.root;
    new_way = Reached.here t'.root;
  }

  module _ {n n' : IrNode} where
    -- the same way further down
    pub down : {x x' : IrNode} {v : List Step} → Stand old new p q n n' → Reached n v x → Reached n' v x' → Stand old new p q x x'
    down {v} s r r' = record {
      old_type = s.old_type;
      new_type = s.new_type;
      old_there = s.old_there;
      new_there = s.new_there;
      named = s.named;
      way = s.way ++ v;
      old_way = behind s.old_way r;
      new_way = behind s.new_way r';
    }

    -- such nodes have the same place, by name
    pub same_place : Stand old new p q n n' → SamePlace old new p q
    same_place s = SamePlace.named s.old_there s.new_there s.named
