-- The law of lookup: the type that is found has the name.
use mathlib.Core.Path.{◌≡◌, refl, sym, ◌∙◌, ap}
use mathlib.Core.Bool.{Bool, true, false, cond}
use mathlib.Core.List.{List, [], ◌∷◌}
use mathlib.Core.Option.{some}
use Prim.Native.Nat.{ℕ}
use native.Mathlib.Omega.{arith}
use Rattle.blocks.specs.Name.{Name, same}
use Rattle.blocks.proofs.Name.{same_eq}
use Rattle.resolved.specs.Resolved.{ResolvedType, head, get_type_info}

-- what was found is one thing only
pub some_one : {A : Type 0} {x y : A} → some x ≡ some y → x ≡ y
some_one e = cc

-- the type that is found under a name has it
pub type_named : (n : Name) (ts : List ResolvedType) (x : ResolvedType) → get_type_info n ts ≡ some x → (head x).name ≡ n
unfolding get_type_info
type_named n [] x e = let z : ◌≡◌ {A = ℕ} 0 1 = cc in absurd (omega arith)
type_named n (t ∷ ts) x e = go (same n (head t).name) refl e (type_named n ts x)
  where
    go : (b : Bool) → same n (head t).name ≡ b → cond b (some t) (get_type_info n ts) ≡ some x
        → (get_type_info n ts ≡ some x → (head x).name ≡ n) → (head x).name ≡ n
    go true h f ih = ap (λ (z : ResolvedType). (head z).name) (sym (some_one f)) ∙ sym (same_eq n (head t).name h)
    go false h f ih = ih f
