-- What a called type's context has of a name is what the caller's context has of the caller's name for it.
use mathlib.Core.Path.{◌≡◌, refl, sym, ◌∙◌, ap, subst}
use mathlib.Core.Bool.{Bool, true, false, ◌||◌, cond}
use mathlib.Core.List.{List, [], ◌∷◌, ◌++◌}
use mathlib.Core.Option.{Option, some, none}
use Prim.Native.Nat.{ℕ}
use Rattle.errors.specs.Refusal.{done, Refusal, MissingIrParameter}
use Rattle.errors.proofs.Laws.{done_one, not_done, bound}
use Rattle.blocks.specs.Name.{Name, same}
use Rattle.blocks.proofs.Name.{same_eq}
use Rattle.ir.specs.Ir.{IrArgument, IrParameter}
use Rattle.interpreter.specs.Eval.{Binding, ParamMap, find, refusal_at, value_or, collect_arguments, bind_found, inherited}
use Rattle.interpreter.proofs.Lookup.{first_of, find_append}
use Rattle.interpreter_context.specs.Names.{chosen, last_argument, lists, callers_name}

-- what the caller has
abbrev pub via : ParamMap → Option Name → Option ℕ
via γ none = none
via γ (some n) = find n γ

-- a value that was found
valued : (r : Refusal) (o : Option ℕ) (v : ℕ) → value_or r o ≡ done v → o ≡ some v
unfolding value_or
valued r none v e = absurd (not_done e)
valued r (some w) v e = ap some (done_one e)

-- an argument that was bound is found under its name, and others as before
met : (γ : ParamMap) (b : Bool) (v : ℕ) (m : Name) (rest : Option ℕ) (o : Option Name) → find m γ ≡ some v → rest ≡ via γ o →
    elim b [ true ↦ some v | false ↦ rest ] ≡ via γ (cond b (some m) o)
met γ true v m rest o e h = sym e
met γ false v m rest o e h = h

-- a name among collected arguments is found as the caller has the last argument of it
pub collected : (p : ℕ) (γ ε : ParamMap) (n : Name) (xs : List IrArgument) (δ₀ δ : ParamMap) (o : Option Name) → collect_arguments p γ xs δ₀ ≡ done δ →
    find n (δ₀ ++ ε) ≡ via γ o → find n (δ ++ ε) ≡ via γ (last_argument n xs o)
unfolding collect_arguments last_argument find
collected p γ ε n [] δ₀ δ o e h = subst (λ (z : ParamMap). find n (z ++ ε) ≡ via γ o) (done_one e) h
collected p γ ε n (x ∷ xs) δ₀ δ o e h =
    let b = bound (value_or (refusal_at p x.at MissingIrParameter 0) (find x.value γ)) _ _ e in
    let f = valued (refusal_at p x.at MissingIrParameter 0) (find x.value γ) b.0 b.1 in
    collected p γ ε n xs (record { name = x.name; value = b.0 } ∷ δ₀) δ (chosen n x o) b.2 (met γ (same n x.name) b.0 x.value (find n (δ₀ ++ ε)) o f h)

-- the first binding decides by its name
found_first : (n m : Name) (v : ℕ) (δ : ParamMap) (b : Bool) → same n m ≡ b → find n (record { name = m; value = v } ∷ δ) ≡ elim b [ true ↦ some v | false ↦ find n δ ]
unfolding find
found_first n m v δ b e = ap (λ (b : Bool). elim b [ true ↦ some v | false ↦ find n δ ]) e

-- a parameter that was bound is found under its name, and others as before
bound_in : (γ δ : ParamMap) (n m : Name) (b : Bool) (o : Option ℕ) (l : Bool) → same n m ≡ b → (b ≡ true → find n γ ≡ o) → find n δ ≡ cond l (find n γ) none →
    find n (bind_found m o δ) ≡ cond (b || l) (find n γ) none
bound_in γ δ n m true none true e f h = h
bound_in γ δ n m true none false e f h = h ∙ sym (f refl)
bound_in γ δ n m true (some v) l e f h = found_first n m v δ true e ∙ sym (f refl)
bound_in γ δ n m false none l e f h = h
bound_in γ δ n m false (some v) l e f h = found_first n m v δ false e ∙ h

-- a name among inherited parameters is found as the caller has it, where they list it
pub listed_in : (γ : ParamMap) (n : Name) (ps : List IrParameter) → find n (inherited γ ps) ≡ cond (lists n ps) (find n γ) none
unfolding inherited lists find
listed_in γ n [] = refl
listed_in γ n (p ∷ ps) = bound_in γ (inherited γ ps) n p.name (same n p.name) (find p.name γ) (lists n ps) refl (λ e. ap (λ (z : Name). find z γ) (same_eq n p.name e)) (listed_in γ n ps)

-- the same, with the name in place of its value
via_cond : (γ : ParamMap) (n : Name) (b : Bool) → cond b (find n γ) none ≡ via γ (cond b (some n) none)
via_cond γ n true = refl
via_cond γ n false = refl

-- the whole
pub through_call : (p : ℕ) (γ δ : ParamMap) (n : Name) (xs : List IrArgument) (ps : List IrParameter) → collect_arguments p γ xs [] ≡ done δ →
    find n (δ ++ inherited γ ps) ≡ via γ (callers_name n xs ps)
through_call p γ δ n xs ps e = collected p γ (inherited γ ps) n xs [] δ (cond (lists n ps) (some n) none) e (listed_in γ n ps ∙ via_cond γ n (lists n ps))

-- ---- the root: behind the values the buffer length

-- one binding behind others is found only if they do not have the name
pub find_behind : (n : Name) (γ : ParamMap) (b : Binding) → find n (γ ++ (b ∷ [])) ≡ first_of (find n γ) (cond (same n b.name) (some b.value) none)
unfolding find
find_behind n γ b = find_append n γ (b ∷ []) ∙ ap (first_of (find n γ)) (last (same n b.name) b.value)
  where
    last : (t : Bool) (v : ℕ) → ◌≡◌ {A = Option ℕ} (elim t [ true ↦ some v | false ↦ none ]) (cond t (some v) none)
    last true v = refl
    last false v = refl
