-- The nodes one by one are those of `build_fields`, and their sum is the struct's.
use mathlib.Core.Path.{◌≡◌, refl, sym, ◌∙◌, ap}
use mathlib.Core.Bool.{Bool, true, false, cond}
use mathlib.Core.List.{List, [], ◌∷◌, ◌++◌}
use mathlib.Core.Option.{Option, some, none}
use Prim.Native.Nat.{ℕ, ◌+◌, ◌-◌, ◌^◌}
use native.Mathlib.Omega.{arith}
use lib.Dec.{ltb}
use borrow.Author.Tests.{lt-ltb, le-ltb, ltb-true, ltb-false}
use Rattle.errors.specs.Refusal.{Outcome, done, refused, plain}
use Rattle.errors.specs.Refusal.{◌>>=◌ as ◌and_then◌}
use Rattle.resolved.specs.Resolved.{Owner, Size, Head, ResolvedType, Fields, ResolvedField, head, kind_of, fields}
use Rattle.ir.specs.Ir.{IrNode}
use Rattle.builder.specs.Registry.{Registry, ◌>>=◌, give, refuse, require, need}
use Rattle.builder.specs.Nodes.{align_node, const_or_zero, combine_checked_add, build_field, padding, prefix_after, build_fields, build_variable_struct}
use Rattle.builder_structs.specs.Fold.{up_to, combine, summed}
use Rattle.builder_structs.specs.Next.{pad_size, prefix_end, State, state_of, field_node, next_of, next, count_of}

-- the padding, by its size
padding_is : (e : ℕ) (o : Option ℕ) → padding e o ≡ cond (ltb 0 (pad_size e o)) (const_or_zero (pad_size e o) 1 ∷ []) []
unfolding padding
padding_is e none = refl
padding_is e (some o) = ap (λ (b : Bool). cond b (const_or_zero (o - e) 1 ∷ []) []) (go (ltb e o) refl)
  where
    go : (b : Bool) → ltb e o ≡ b → ltb e o ≡ ltb 0 (o - e)
    go true h = h ∙ sym (lt-ltb 0 (o - e) (let l = ltb-true e o h in omega arith))
    go false h = h ∙ sym (le-ltb 0 (o - e) (let l = ltb-false e o h in omega arith))

-- the end of the prefix, or 16
after_is : (e : ℕ) (o : Option ℕ) (s : Size) (g : Registry) → prefix_after e o s g ≡ need (prefix_end e o s) 16 g
unfolding prefix_after prefix_end need give ◌>>=◌ ◌and_then◌ require refuse
after_is e none s g = refl
after_is e (some o) (Size.Const v) g = go (ltb (o + v) (2 ^ 64))
  where
    go : (b : Bool) → (require b 16 >>= (λ _. give (o + v))) g ≡ need (cond b (some (o + v)) none) 16 g
    go true = refl
    go false = refl
after_is e (some o) Size.Variable g = refl

module _ (types : List ResolvedType) (refs : List Owner) where
  -- the nodes, and the registry behind them
  abbrev out : State × List IrNode → Outcome (List IrNode × Registry)
  out y = done (y.1, y.0.registry)

  -- a field's own node
  abbrev own : ResolvedField → Registry → Outcome (IrNode × Registry)
  own f g = build_field types refs f.name (head f.field_type).size (head f.field_type) (kind_of f.field_type) g

  -- what is built behind a field, with these nodes of padding before it
  abbrev behind : List IrNode → IrNode × Registry → List IrNode × Registry → Outcome (List IrNode × Registry)
  behind pad y z = done (pad ++ (y.0 ∷ z.0), z.1)

  -- the definition of a field and those behind it, by cases of the end of the prefix
  built : List IrNode → Option ℕ → ResolvedField → List ResolvedField → Registry → Outcome (List IrNode × Registry)
  built pad none f fs g = refused (plain 16)
  built pad (some e) f fs g = ◌and_then◌ (own f g) (λ y. ◌and_then◌ (build_fields types refs e fs y.1) (behind pad y))

  -- the definition, in these cases
  fields_are : (e : ℕ) (f : ResolvedField) (fs : List ResolvedField) (g : Registry) →
      build_fields types refs e (f ∷ fs) g ≡ built (padding e f.offset) (prefix_end e f.offset (head f.field_type).size) f fs g
  unfolding build_fields built ◌>>=◌ ◌and_then◌ give need refuse
  fields_are e f fs g = ap (λ (o : Outcome (ℕ × Registry)). ◌and_then◌ o k) (after_is e f.offset (head f.field_type).size g) ∙ go (prefix_end e f.offset (head f.field_type).size)
    where
      k : ℕ × Registry → Outcome (List IrNode × Registry)
      k x = ◌and_then◌ (own f x.1) (λ y. ◌and_then◌ (build_fields types refs x.0 fs y.1) (behind (padding e f.offset) y))

      go : (o : Option ℕ) → ◌and_then◌ (need o 16 g) k ≡ built (padding e f.offset) o f fs g
      go none = refl
      go (some n) = refl

  -- how many nodes are made behind a field
  abbrev rest : Option ℕ → List ResolvedField → ℕ
  rest o fs = elim o [ none ↦ 0 | some n ↦ count_of n fs ]

  -- a field's node and those behind it
  field_then : (f : ResolvedField) (fs : List ResolvedField) (e : ℕ) (g : Registry) (pad : List IrNode) (o : Option ℕ) → prefix_end e f.offset (head f.field_type).size ≡ o →
      ((n : ℕ) (g : Registry) → build_fields types refs n fs g ≡ ◌and_then◌ (up_to (next types refs) (count_of n fs) (state_of g fs n false)) out) →
      built pad o f fs g ≡
      ◌and_then◌ (field_node types refs f fs e g) (λ x. ◌and_then◌ (up_to (next types refs) (rest o fs) x.0) (λ y. done (pad ++ (x.1 ∷ y.1), y.0.registry)))
  unfolding built field_node need ◌and_then◌ give refuse
  field_then f fs e g pad none h ih = rw h
  field_then f fs e g pad (some n) h ih = rw h (go (own f g))
    where
      then : (y : IrNode × Registry) (a : Outcome (State × List IrNode)) → ◌and_then◌ (◌and_then◌ a out) (behind pad y) ≡ ◌and_then◌ a (λ z. done (pad ++ (y.0 ∷ z.1), z.0.registry))
      then y (done a) = refl
      then y (refused r) = refl

      node : IrNode × Registry → Outcome (State × IrNode)
      node y = done (state_of y.1 fs n false, y.0)

      go : (a : Outcome (IrNode × Registry)) → ◌and_then◌ a (λ y. ◌and_then◌ (build_fields types refs n fs y.1) (behind pad y)) ≡
          ◌and_then◌ (◌and_then◌ a node) (λ x. ◌and_then◌ (up_to (next types refs) (count_of n fs) x.0) (λ y. done (pad ++ (x.1 ∷ y.1), y.0.registry)))
      go (done y) = ap (λ (o : Outcome (List IrNode × Registry)). ◌and_then◌ o (behind pad y)) (ih n y.1) ∙ then y (up_to (next types refs) (count_of n fs) (state_of y.1 fs n false))
      go (refused r) = refl

  -- one node more before those of a list
  abbrev cons : State × IrNode → State × List IrNode → Outcome (State × List IrNode)
  cons x y = done (y.0, x.1 ∷ y.1)

  -- a node, and k more
  abbrev and_more : ℕ → State × IrNode → Outcome (State × List IrNode)
  and_more k x = ◌and_then◌ (up_to (next types refs) k x.0) (cons x)

  -- a node, k more, and the registry behind them
  abbrev and_those : ℕ → List IrNode → State × IrNode → Outcome (List IrNode × Registry)
  and_those k pad x = ◌and_then◌ (up_to (next types refs) k x.0) (λ y. done (pad ++ (x.1 ∷ y.1), y.0.registry))

  -- without padding nothing stands before the field's node
  alone : (k : ℕ) (a : Outcome (State × IrNode)) → ◌and_then◌ a (and_those k []) ≡ ◌and_then◌ (◌and_then◌ a (and_more k)) out
  unfolding ◌and_then◌
  alone k (refused r) = refl
  alone k (done x) = go (up_to (next types refs) k x.0)
    where
      go : (b : Outcome (State × List IrNode)) → ◌and_then◌ b (λ y. done (x.1 ∷ y.1, y.0.registry)) ≡ ◌and_then◌ (◌and_then◌ b (cons x)) out
      go (refused r) = refl
      go (done y) = refl

  -- the node of padding stands before it
  padded : (k : ℕ) (s : State) (p : IrNode) (a : Outcome (State × IrNode)) → ◌and_then◌ a (and_those k (p ∷ [])) ≡ ◌and_then◌ (◌and_then◌ (◌and_then◌ a (and_more k)) (cons (s, p))) out
  unfolding ◌and_then◌
  padded k s p (refused r) = refl
  padded k s p (done x) = go (up_to (next types refs) k x.0)
    where
      go : (b : Outcome (State × List IrNode)) → ◌and_then◌ b (λ y. done (p ∷ (x.1 ∷ y.1), y.0.registry)) ≡ ◌and_then◌ (◌and_then◌ (◌and_then◌ b (cons x)) (cons (s, p))) out
      go (refused r) = refl
      go (done y) = refl

  -- the nodes made one by one are those of `build_fields`
  pub nodes_are : (fs : List ResolvedField) (e : ℕ) (g : Registry) → build_fields types refs e fs g ≡ ◌and_then◌ (up_to (next types refs) (count_of e fs) (state_of g fs e false)) out
  unfolding build_fields up_to count_of next_of ◌and_then◌ give
  nodes_are [] e g = refl
  nodes_are (f ∷ fs) e g =
      fields_are e f fs g
      ∙ ap (λ (pad : List IrNode). built pad (prefix_end e f.offset (head f.field_type).size) f fs g) (padding_is e f.offset) ∙ go (ltb 0 (pad_size e f.offset)) refl (nodes_are fs)
    where
      pad : IrNode
      pad = const_or_zero (pad_size e f.offset) 1

      go : (b : Bool) → ltb 0 (pad_size e f.offset) ≡ b →
          ((n : ℕ) (g : Registry) → build_fields types refs n fs g ≡ ◌and_then◌ (up_to (next types refs) (count_of n fs) (state_of g fs n false)) out) →
          built (cond b (pad ∷ []) []) (prefix_end e f.offset (head f.field_type).size) f fs g ≡ ◌and_then◌ (up_to (next types refs) (count_of e (f ∷ fs)) (state_of g (f ∷ fs) e false)) out
      go true q ih =
          simp q
          (field_then f fs e g (pad ∷ []) _ refl ih
          ∙ padded (rest (prefix_end e f.offset (head f.field_type).size) fs) (state_of g (f ∷ fs) e true) pad (field_node types refs f fs e g))
      go false q ih = simp q (field_then f fs e g [] _ refl ih ∙ alone (rest (prefix_end e f.offset (head f.field_type).size) fs) (field_node types refs f fs e g))

-- the sum of the nodes, aligned, is the struct's node
pub struct_is : (types : List ResolvedType) (h : Head) (fs : Fields) (g : Registry) →
    build_variable_struct types h fs g ≡
    ◌and_then◌ (summed (next types h.dynamic_params) (count_of 0 (fields fs)) (state_of g (fields fs) 0 false)) (λ y. done (align_node y.1 h.alignment, y.0.registry))
unfolding build_variable_struct summed combine combine_checked_add ◌>>=◌ ◌and_then◌ give refuse
struct_is types h fs g =
    ap (λ (o : Outcome (List IrNode × Registry)). ◌and_then◌ o whole) (nodes_are types h.dynamic_params (fields fs) 0 g)
    ∙ go (up_to (next types h.dynamic_params) (count_of 0 (fields fs)) (state_of g (fields fs) 0 false))
  where
    whole : List IrNode × Registry → Outcome (IrNode × Registry)
    whole x = ◌and_then◌ (combine_checked_add x.0 x.1) (λ y. done (align_node y.0 h.alignment, y.1))

    sum : State × List IrNode → Outcome (State × IrNode)
    sum y = ◌and_then◌ (combine y.1) (λ n. done (y.0, n))

    up : State × IrNode → Outcome (IrNode × Registry)
    up y = done (align_node y.1 h.alignment, y.0.registry)

    list : (s : State) (ns : List IrNode) → whole (ns, s.registry) ≡ ◌and_then◌ (sum (s, ns)) up
    list s [] = refl
    list s (n ∷ ns) = refl

    go : (a : Outcome (State × List IrNode)) → ◌and_then◌ (◌and_then◌ a (out types h.dynamic_params)) whole ≡ ◌and_then◌ (◌and_then◌ a sum) up
    go (done y) = list y.0 y.1
    go (refused r) = refl
