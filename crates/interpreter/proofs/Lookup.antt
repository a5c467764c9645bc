-- The laws of lookup: a name that is found is the entry's, and is found in the first of two lists that has it.
use Prim.Native.Nat.{ℕ, suc}
use mathlib.Core.Path.{◌≡◌, refl, sym, ◌∙◌, ap}
use mathlib.Core.Bool.{Bool, true, false}
use mathlib.Core.List.{List, [], ◌∷◌, ◌++◌}
use mathlib.Core.Option.{Option, some, none}
use Rattle.errors.specs.Refusal.{done}
use Rattle.errors.proofs.Laws.{done_one, not_done}
use Rattle.blocks.specs.Name.{Name, same}
use Rattle.blocks.proofs.Name.{same_eq}
use Rattle.ir.specs.Ir.{TypeIr}
use Rattle.interpreter.specs.Eval.{ParamMap, find, lookup_type}

-- the type that is found has the name
pub type_named : (i : ℕ) (n : Name) (ts : List TypeIr) (x : ℕ × TypeIr) → lookup_type i n ts ≡ done x → x.1.type_name ≡ n
unfolding lookup_type
type_named i n [] x e = absurd (not_done e)
type_named i n (t ∷ ts) x e = go (same n t.type_name) refl e (type_named (suc i) n ts x)
  where
    go : (b : Bool) → same n t.type_name ≡ b → elim b [ true ↦ done (i, t) | false ↦ lookup_type (suc i) n ts ] ≡ done x
        → (lookup_type (suc i) n ts ≡ done x → x.1.type_name ≡ n) → x.1.type_name ≡ n
    go true h f ih = ap (λ (z : ℕ × TypeIr). z.1.type_name) (sym (done_one f)) ∙ sym (same_eq n t.type_name h)
    go false h f ih = ih f

-- the first of two that is there
abbrev pub first_of : {A : Type 0} → Option A → Option A → Option A
first_of none o = o
first_of (some v) o = some v

-- a value is looked for in the first list, then in the second: so "`__buffer_size` is added [..] only if absent"
pub find_append : (n : Name) (γ δ : ParamMap) → find n (γ ++ δ) ≡ first_of (find n γ) (find n δ)
unfolding find
find_append n [] δ = refl
find_append n (b ∷ γ) δ = go (same n b.name) (find_append n γ δ)
  where
    go : (c : Bool) → find n (γ ++ δ) ≡ first_of (find n γ) (find n δ)
        → ◌≡◌ {A = Option ℕ} (elim c [ true ↦ some b.value | false ↦ find n (γ ++ δ) ]) (first_of (elim c [ true ↦ some b.value | false ↦ find n γ ]) (find n δ))
    go true ih = refl
    go false ih = ih
