-- The arguments of a call, front to back.
use mathlib.Core.Path.{◌≡◌, refl, sym, ◌∙◌, ap, subst}
use mathlib.Core.List.{List, [], ◌∷◌}
use mathlib.Core.Option.{Option as Maybe, some, none}
use Rattle.std.specs.Prelude.{Option, Some, None, Result, Ok, Err}
use Prim.Native.Nat.{ℕ, ◌+◌, ◌-◌, ◌≤◌, ◌<◌}
use native.Mathlib.Omega.{arith}
use lib.ListN.{length}
use Rattle.errors.specs.Refusal.{done, refused, ◌>>=◌, MissingIrParameter}
use Rattle.errors.specs.Refusal as definition
use Rattle.errors.specs.declared.Refusal.{Refusal}
use Rattle.errors.specs.Meaning.{refusal_of}
use Rattle.blocks.specs.Bytes.{le2, le4}
use Rattle.blocks.specs.Tree.{Tree, entries}
use Rattle.value.specs.declared.Value.{Value}
use Rattle.value.specs.Number.{number_of}
use Rattle.ir.specs.Ir.{IrArgument}
use Rattle.ir.specs.Layout.{argument_of}
use Rattle.accepted.specs.Accepted.{Accepted, tree, Listed, name_at}
use Rattle.accepted.proofs.Laws.{block_entry, none_left}
use Rattle.interpreter.specs.Eval.{ParamMap, find, refusal_at, value_or, collect_arguments}
use Rattle.interpreter_context.proofs.Shape.{ListAt}
use Rattle.interpreter_context.proofs.Blocks.{IsArgument, argument}
use Rattle.interpreter_context.specs.Names.{found_in}
use Rattle.interpreter_values.specs.Remembered.{Kept}
use Rattle.interpreter_context.proofs.Calls.{context_kept}
use Rattle.interpreter_context.specs.Context.{Context, arguments_of}
use Rattle.interpreter_leaves.specs.Steps.{Bound}
use Rattle.interpreter_leaves.proofs.Nodes.{found_as}

-- of m arguments from `from` on, left are left, from p on
pub record Collecting (s values : List ℕ) (block len : ℕ) (words : List ℕ) (depth m from left p : ℕ) : Type 0 where
  pub on : (pl : ℕ) (γ : ParamMap) → Context s values block len words depth γ → (l : Listed s 164 164 m from) →
      (r : Listed s 164 164 left p) × (δ : ParamMap) × (collect_arguments pl γ (entries argument_of l.got.0) [] ≡ collect_arguments pl γ (entries argument_of r.got.0) δ)

-- the loop begins with all of them
pub begin : {s values : List ℕ} {block len : ℕ} {words : List ℕ} {depth m from left : ℕ} → left ≡ m → Collecting s values block len words depth m from left from
begin {s} {values} {block} {len} {words} {depth} {m} {from} e = subst (λ (k : ℕ). Collecting s values block len words depth m from k from) (sym e) (record { on = λ pl γ c l. (l, [], refl) })

-- an argument whose value the caller has is bound
one_more : (pl : ℕ) (γ : ParamMap) (x : IrArgument) (xs : List IrArgument) (δ : ParamMap) (v : ℕ) → find x.value γ ≡ some v →
    collect_arguments pl γ (x ∷ xs) δ ≡ collect_arguments pl γ xs (record { name = x.name; value = v } ∷ δ)
unfolding collect_arguments value_or ◌>>=◌
one_more pl γ x xs δ v e = ap (λ (o : Maybe ℕ). value_or (refusal_at pl x.at MissingIrParameter 0) o >>= (λ v. collect_arguments pl γ xs (record { name = x.name; value = v } ∷ δ))) e

-- one whose value the caller lacks ends it
one_missing : (pl : ℕ) (γ : ParamMap) (x : IrArgument) (xs : List IrArgument) (δ : ParamMap) → find x.value γ ≡ none →
    collect_arguments pl γ (x ∷ xs) δ ≡ refused (refusal_at pl x.at MissingIrParameter 0)
unfolding collect_arguments value_or ◌>>=◌
one_missing pl γ x xs δ e = ap (λ (o : Maybe ℕ). value_or (refusal_at pl x.at MissingIrParameter 0) o >>= (λ v. collect_arguments pl γ xs (record { name = x.name; value = v } ∷ δ))) e

-- The type's place is told in a refusal alone: arguments that are found are found at any place,
pub any_place : (p q : ℕ) (γ : ParamMap) (xs : List IrArgument) (δ : ParamMap) {ε : ParamMap} → collect_arguments p γ xs δ ≡ done ε → collect_arguments q γ xs δ ≡ done ε
unfolding collect_arguments value_or ◌>>=◌
any_place p q γ [] δ e = e
any_place p q γ (x ∷ xs) δ {ε} e = go (λ v. any_place p q γ xs (record { name = x.name; value = v } ∷ δ)) (find x.value γ) e
  where
    go : ((v : ℕ) → collect_arguments p γ xs (record { name = x.name; value = v } ∷ δ) ≡ done ε → collect_arguments q γ xs (record { name = x.name; value = v } ∷ δ) ≡ done ε)
        → (o : Maybe ℕ) → (value_or (refusal_at p x.at MissingIrParameter 0) o >>= (λ v. collect_arguments p γ xs (record { name = x.name; value = v } ∷ δ))) ≡ done ε →
        (value_or (refusal_at q x.at MissingIrParameter 0) o >>= (λ v. collect_arguments q γ xs (record { name = x.name; value = v } ∷ δ))) ≡ done ε
    go k none e = cc
    go k (some v) e = k v e

-- and the first that lacks its value is the first at any.
pub lacks_at_any : (p q : ℕ) (γ : ParamMap) (xs : List IrArgument) (δ : ParamMap) {r : definition.Refusal} → collect_arguments p γ xs δ ≡ refused r →
    collect_arguments q γ xs δ ≡ refused (refusal_at q r.offset MissingIrParameter 0)
unfolding collect_arguments value_or ◌>>=◌
lacks_at_any p q γ [] δ e = cc
lacks_at_any p q γ (x ∷ xs) δ {r} e = go (λ v. lacks_at_any p q γ xs (record { name = x.name; value = v } ∷ δ)) (find x.value γ) e
  where
    go : ((v : ℕ) → collect_arguments p γ xs (record { name = x.name; value = v } ∷ δ) ≡ refused r →
        collect_arguments q γ xs (record { name = x.name; value = v } ∷ δ) ≡ refused (refusal_at q r.offset MissingIrParameter 0))
        → (o : Maybe ℕ) → (value_or (refusal_at p x.at MissingIrParameter 0) o >>= (λ v. collect_arguments p γ xs (record { name = x.name; value = v } ∷ δ))) ≡ refused r →
        (value_or (refusal_at q x.at MissingIrParameter 0) o >>= (λ v. collect_arguments q γ xs (record { name = x.name; value = v } ∷ δ)))
        ≡ refused (refusal_at q r.offset MissingIrParameter 0)
    go k none e = let f : refusal_at p x.at MissingIrParameter 0 ≡ r = cc in ap (λ (d : definition.Refusal). refused (refusal_at q d.offset MissingIrParameter 0)) f
    go k (some v) e = k v e

-- where an argument's value name stands
pub value_at : {s : List ℕ} {p u : ℕ} → u ≡ le2 s (p + 6) → (a : Accepted s 164 164 p) → IsArgument a (p + 8 + u)
value_at {s} {p} {u} e a = let f : p + 8 + u ≡ p + 6 + 2 + le2 s (p + 6) = omega arith in argument a f

module _ {s values : List ℕ} {block len : ℕ} {words : List ℕ} {depth m from left p : ℕ} (h : 0 < left) (t : Collecting s values block len words depth m from left p) where
  -- the next argument
  pub next_one : (x : (γ : ParamMap) × Context s values block len words depth γ) → Listed s 164 164 m from → Accepted s 164 164 p
  next_one x l = (block_entry (t.on 0 x.0 x.1 l).0 h).child

  module _ {u : ℕ} {r : Option Value} (eu : u ≡ le2 s (p + 6)) (e : (γ : ParamMap) → Context s values block len words depth γ → found_in r ≡ find (name_at s (p + 8 + u)) γ) where
    -- the caller has its value: the loop goes on behind it
    pub found_one : {v : Value} {w : ℕ} → r ≡ Some v → w ≡ le4 s p → Collecting s values block len words depth m from (left - 1) (p + 4 + w)
    unfolding entries
    found_one {v} f ew = subst (λ (w : ℕ). Collecting s values block len words depth m from (left - 1) (p + 4 + w)) (sym ew) (record {
      on = λ pl γ c l.
          let x = t.on pl γ c l in
          let b = block_entry x.0 h in
          let i = value_at eu b.child in (
            b.after.rest,
            record { name = (argument_of (tree b.child)).name; value = number_of v } ∷ x.1,
            x.2 ∙ ap (λ (z : Tree). collect_arguments pl γ (entries argument_of z) x.1) b.after.tree
                ∙ one_more pl γ (argument_of (tree b.child)) (entries argument_of b.after.rest.got.0) x.1 (number_of v) (ap (λ (y : IrArgument). find y.value γ) i.is
                ∙ found_as (find (name_at s (p + 8 + u)) γ) (e γ c) f),
          );
    })

    -- the caller lacks it: that is the answer
    pub lacking_one : r ≡ None → (pl : ℕ) (o : Refusal) → refusal_of o ≡ refusal_at pl p MissingIrParameter 0 → (γ : ParamMap) → Context s values block len words depth γ →
        (l : Listed s 164 164 m from) → Bound pl γ (entries argument_of l.got.0) (Err o)
    unfolding entries
    lacking_one f pl o eo γ c l =
        let x = t.on pl γ c l in
        let b = block_entry x.0 h in
        let i = value_at eu b.child in
        x.2 ∙ ap (λ (z : Tree). collect_arguments pl γ (entries argument_of z) x.1) b.after.tree
        ∙ one_missing pl γ (argument_of (tree b.child)) (entries argument_of b.after.rest.got.0) x.1 (ap (λ (y : IrArgument). find y.value γ) i.is
        ∙ found_as (find (name_at s (p + 8 + u)) γ) (e γ c) f)
        ∙ ap (λ (y : IrArgument). refused (refusal_at pl y.at MissingIrParameter 0)) i.is
        ∙ ap refused (sym eo)

-- none is left: all were found
pub no_more : {s values : List ℕ} {block len : ℕ} {words : List ℕ} {depth m from left p : ℕ} → left ≤ 0 → Collecting s values block len words depth m from left p →
    (pl : ℕ) (γ : ParamMap) → Context s values block len words depth γ → (l : Listed s 164 164 m from) → Bound pl γ (entries argument_of l.got.0) (Ok tt)
unfolding entries collect_arguments
no_more h t pl γ c l =
    let x = t.on pl γ c l in
    (x.1, x.2 ∙ ap (λ (z : Tree × ℕ). collect_arguments pl γ (entries argument_of z.0) x.1) (none_left x.0 h))

-- ---- the words, which may change behind those of the open calls

-- the loop goes over the arguments in the context of the words ws, which it was handed; us are the words of now
pub record Going (s values : List ℕ) (block len : ℕ) (ws us : List ℕ) (depth m from left p : ℕ) : Type 0 where
  pub collecting : Collecting s values block len ws depth m from left p
  pub kept : Kept values block 16 ws us
  pub long : length us ≡ length ws

-- a context of the one is one of the other
pub still : {s values : List ℕ} {block len : ℕ} {ws us : List ℕ} {depth m from left p : ℕ} → Going s values block len ws us depth m from left p → depth ≤ 16 →
    {γ : ParamMap} → Context s values block len ws depth γ → Context s values block len us depth γ
still g h c = context_kept 16 h g.long g.kept c

-- of the call itself
pub of_call : {s : List ℕ} {at q : ℕ} (pl : ℕ) (γ : ParamMap) (r : Result Unit Refusal) (a : Accepted s 128 144 at) (l : ListAt a 164 164 3 q) →
    Bound pl γ (entries argument_of l.list.got.0) r → Bound pl γ (arguments_of (tree a)) r
of_call pl γ r a l b = subst (λ (t : Tree). Bound pl γ (entries argument_of t) r) (sym l.is) b
