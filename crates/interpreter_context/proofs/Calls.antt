-- From the innermost open call to the root.
use mathlib.Core.Path.{◌≡◌, refl, sym, ◌∙◌, ap, subst}
use mathlib.Core.Bool.{Bool, true, false, cond}
use mathlib.Core.List.{List, [], ◌∷◌}
use mathlib.Core.Option.{Option as Maybe, some, none}
use Prim.Native.Nat.{ℕ, suc, ◌+◌, ◌-◌, ◌≤◌, ◌<◌}
use native.Mathlib.Numerals.{sub-one}
use native.Mathlib.Omega.{arith}
use lib.ListN.{length, get_or}
use Rattle.std.specs.Prelude.{Option, Some, None}
use Rattle.std.specs.Bool.{then_some}
use Rattle.std.specs.Borrow.{Bor}
use Rattle.blocks.specs.Bytes.{le8}
use Rattle.value.specs.declared.Value.{Value}
use Rattle.value.specs.Number.{number_of}
use Rattle.blocks.specs.Name.{Name, same, ascii}
use Rattle.ir.specs.Ir.{IrArgument, IrParameter}
use Rattle.accepted.specs.Accepted.{Accepted, tree}
use Rattle.interpreter.specs.Eval.{ParamMap, find}
use Rattle.interpreter.specs.Validate.{with_buffer_size, values_of}
use Rattle.lookup.specs.Found.{ValueFound}
use Rattle.interpreter_context.specs.Names.{chosen, last_argument, lists, callers_name, named, found_in}
use Rattle.interpreter_context.specs.Context.{Pair, Open, Context, call_at, tree_at, arguments_of, parameters_of}
use Rattle.interpreter_values.specs.Remembered.{Remembered, Kept}
use Rattle.interpreter.proofs.Lookup.{first_of}
use Rattle.interpreter_context.proofs.Names.{via, through_call, find_behind}

-- ---- the caller's name

-- what is answered where no argument has the name may be chosen before or after the arguments are searched
last_else : (n : Name) (xs : List IrArgument) (a o : Maybe Name) → last_argument n xs (first_of a o) ≡ first_of (last_argument n xs a) o
unfolding last_argument
last_else n [] a o = refl
last_else n (x ∷ xs) a o = ap (last_argument n xs) (one (same n x.name)) ∙ last_else n xs (chosen n x a) o
  where
    one : (b : Bool) → cond b (some x.value) (first_of a o) ≡ first_of (cond b (some x.value) a) o
    one true = refl
    one false = refl

-- the caller's name is the last argument's, or else the name itself where it is listed
callers_is : (n : Name) (xs : List IrArgument) (ps : List IrParameter) → callers_name n xs ps ≡ first_of (last_argument n xs none) (cond (lists n ps) (some n) none)
callers_is n xs ps = last_else n xs none (cond (lists n ps) (some n) none)

module _ (n : Name) (xs : List IrArgument) (ps : List IrParameter) where
  -- an argument has the name
  pub from_argument : {m : Name} → some m ≡ last_argument n xs none → some m ≡ callers_name n xs ps
  from_argument e = ap (λ (o : Maybe Name). first_of o (cond (lists n ps) (some n) none)) e ∙ sym (callers_is n xs ps)

  -- no argument has it: whether the parameters list it decides
  pub from_list : (b : Bool) (m : Bor Name) {r : Option (Bor Name)} → none ≡ last_argument n xs none → b ≡ lists n ps → n ≡ m.now →
      r ≡ then_some b m → named r ≡ callers_name n xs ps
  from_list b m f h k e = rw (e, callers_is n xs ps, ← f, ← h) (go b)
    where
      go : (b : Bool) → named (then_some b m) ≡ cond b (some n) none
      go true = ap some (sym k)
      go false = refl

-- ---- the root

-- what the root's context has of a name: a value, or else the buffer length
root_is : (n : Name) (γ : ParamMap) (len : ℕ) → find n (with_buffer_size len γ) ≡ first_of (find n γ) (cond (same n (ascii "__buffer_size")) (some len) none)
root_is n γ len = find_behind n γ (record { name = ascii "__buffer_size"; value = len })

-- a value that was found is the context's
pub block_at : {values : List ℕ} {n : Name} {γ : ParamMap} {o : ℕ} → ValueFound values n γ (Some o) →
    (o + 8 ≤ length values) × (find n γ ≡ some (le8 values o))
block_at (ValueFound.at h g) = (h, g)

module _ {values : List ℕ} {n : Name} {γ : ParamMap} (len : ℕ) where
  -- a value has the name
  pub held_value : {o : ℕ} (v : Value) → ValueFound values n γ (Some o) → number_of v ≡ le8 values o →
      found_in (Some v) ≡ find n (with_buffer_size len γ)
  held_value v (ValueFound.at h g) e =
      ap some e ∙ sym (root_is n γ len ∙ ap (λ (o : Maybe ℕ). first_of o (cond (same n (ascii "__buffer_size")) (some len) none)) g)

  -- no value has it: whether it is the buffer length's decides
  pub held_length : {r : Option Value} (v : Value) (t : Bool) → ValueFound values n γ None → t ≡ same n (ascii "__buffer_size") →
      number_of v ≡ len → r ≡ then_some t v →
      found_in r ≡ find n (with_buffer_size len γ)
  held_length v t (ValueFound.missing g) h ev e =
      rw (e, root_is n γ len ∙ ap (λ (o : Maybe ℕ). first_of o (cond (same n (ascii "__buffer_size")) (some len) none)) g, ← h) (go t)
    where
      go : (t : Bool) → found_in (then_some t v) ≡ cond t (some len) none
      go true = ap some ev
      go false = refl

-- ---- the open calls

module _ {s values : List ℕ} {block len : ℕ} {words : List ℕ} where
  -- with no call open the context is the root's
  pub at_bottom : {d : ℕ} {γ : ParamMap} → d ≤ 0 → Context s values block len words d γ → (a : Accepted values 192 192 block) × (γ ≡ with_buffer_size len (values_of (tree a)))
  at_bottom h (Context.root a r) = (a, refl)
  at_bottom h (Context.call c i o) = absurd (omega arith)

  -- the block of values was accepted, however many calls are open, and the words remember it
  pub bottom : {d : ℕ} {γ : ParamMap} → Context s values block len words d γ → Accepted values 192 192 block × Remembered values block words
  bottom (Context.root a r) = (a, r)
  bottom (Context.call c i o) = bottom c

  -- the innermost open call, its word and its caller's context
  pub innermost : {d : ℕ} {δ : ParamMap} → 0 < d → Context s values block len words d δ →
      (γ : ParamMap) × Context s values block len words (d - 1) γ × ((d - 1) < length words) × Open s (get_or words (d - 1) 0) γ δ
  innermost h (Context.root a r) = absurd (omega arith)
  innermost h (Context.call {d} {γ} {δ} c i o) = subst (λ (k : ℕ). (γ : ParamMap) × Context s values block len words k γ × (k < length words) × Open s (get_or words k 0) γ δ) (sym (sub-one (suc d))) (γ, c, i, o)

-- under which name the caller of the innermost of d open calls has a name
abbrev Found_by : List ℕ → List ℕ → Name → ℕ → Maybe Name → Type 0
Found_by s words wanted d o =
    (p : Pair s (call_at (get_or words (d - 1) 0)) (tree_at (get_or words (d - 1) 0))) →
    o ≡ callers_name wanted (arguments_of (tree p.call)) (parameters_of (tree p.type))

-- what a name is at `depth` open calls is what `wanted` is at d of them
pub record Wanted (s values : List ℕ) (block len : ℕ) (words : List ℕ) (name : Name) (depth : ℕ) (wanted : Name) (d : ℕ) : Type 0 where
  pub on : (γ : ParamMap) → Context s values block len words depth γ →
      (ε : ParamMap) × Context s values block len words d ε × (find name γ ≡ find wanted ε)

module _ {s values : List ℕ} {block len : ℕ} {words : List ℕ} {name : Name} {depth : ℕ} where
  -- the loop begins with the name at all open calls
  pub asked : {wanted : Name} → wanted ≡ name → Wanted s values block len words name depth wanted depth
  asked e = record { on = λ γ c. (γ, c, ap (λ (n : Name). find n γ) (sym e)) }

  module _ {wanted : Name} {d : ℕ} (h : 0 < d) (w : Wanted s values block len words name depth wanted d) where
    -- the word of the innermost call that is left, and what it holds
    pub the_call : (x : (γ : ParamMap) × Context s values block len words depth γ) → ((d - 1) < length words) × Pair s (call_at (get_or words (d - 1) 0)) (tree_at (get_or words (d - 1) 0))
    the_call x = let y = innermost h (w.on x.0 x.1).1 in (y.2, y.3.pair)

    -- the caller's context, and what the name is there
    found_by : {o : Maybe Name} → Found_by s words wanted d o → (γ : ParamMap) → Context s values block len words depth γ →
        (ε : ParamMap) × Context s values block len words (d - 1) ε × (find name γ ≡ via ε o)
    found_by k γ c =
        let x = w.on γ c in
        let y = innermost h x.1 in
        let o = y.3 in (
          y.0,
          y.1,
          x.2 ∙ ap (find wanted) o.is
              ∙ through_call o.place y.0 o.arguments wanted (arguments_of (tree o.pair.call)) (parameters_of (tree o.pair.type)) o.collected
              ∙ ap (via y.0) (sym (k o.pair)),
        )

    -- the caller has a name for it: the loop goes on with that
    pub caller_has : {q : Name} → Found_by s words wanted d (some q) → Wanted s values block len words name depth q (d - 1)
    caller_has k = record { on = found_by k }

    -- the caller has none: there is no value
    pub caller_lacks : Found_by s words wanted d none → (γ : ParamMap) → Context s values block len words depth γ →
        found_in None ≡ find name γ
    caller_lacks k γ c = sym (found_by k γ c).2

  -- at the root the root's context decides
  pub at_the_root : {wanted : Name} {d : ℕ} (r : Option Value) → d ≤ 0 → Wanted s values block len words name depth wanted d →
      ((a : Accepted values 192 192 block) → found_in r ≡ find wanted (with_buffer_size len (values_of (tree a)))) →
      (γ : ParamMap) → Context s values block len words depth γ → found_in r ≡ find name γ
  at_the_root {wanted} r h w k γ c =
      let x = w.on γ c in
      let b = at_bottom h x.1 in
      k b.0 ∙ ap (find wanted) (sym b.1) ∙ sym x.2

-- ---- words that are kept

-- a context stays what it is where the words of its open calls are kept
pub context_kept : {s values : List ℕ} {block len : ℕ} {ws us : List ℕ} {d : ℕ} {γ : ParamMap} (m : ℕ) → d ≤ m → length us ≡ length ws → Kept values block m ws us →
    Context s values block len ws d γ → Context s values block len us d γ
context_kept m h l e (Context.root a r) = Context.root a e.remembered
context_kept {s} m h l e (Context.call {d} {γ} {δ} c i o) =
    Context.call (context_kept m (omega arith) l e c) (omega arith) (subst (λ (w : ℕ). Open s w γ δ) (sym (e.same d (omega arith))) o)
