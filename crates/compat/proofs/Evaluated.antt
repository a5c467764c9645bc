-- "Old and new layout", the evaluator's half: over a layout whose switches have cases added behind their last, each count
-- and each refusal stays, but for a 22 whose switch has an added case of that tag.
use Prim.Native.Nat.{ℕ, zero, suc, ◌≤◌, zero-le}
use mathlib.Core.Path.{◌≡◌, refl}
use mathlib.Core.Bool.{Bool, true, false, cond}
use mathlib.Core.List.{List, [], ◌∷◌}
use mathlib.Core.Option.{Option, some, none}
use native.Mathlib.Omega.{arith}
use lib.Dec.{eqb, eqb→eq, leb}
use Rattle.errors.specs.Refusal.{Outcome, done, refused, ◌>>=◌, MissingIrParameter, InvalidTagValue}
use Rattle.blocks.specs.Name.{Name}
use Rattle.ir.specs.Ir.{NodeMetadata, IrArgument, IrNode, SwitchCases, DefaultNode, TypeIr}
use Rattle.ir.specs.Layout.{case_count}
use Rattle.interpreter.specs.Arithmetic.{Result, value, fault, operate, align_up, bits}
use Rattle.interpreter.specs.Eval.{ParamMap, Handlers, Enter, handlers, refusal_at, find, chosen, value_or, lift, eval_node, eval_cases, eval_default, collect_arguments, lookup_type, eval_call, eval_within}
use Rattle.interpreter.specs.Validate.{with_buffer_size, fits_buffer, validate_type}
use Rattle.compat.specs.Nodes.{SameArguments, NodeExtended, CasesExtended, Found, TypeExtended, LayoutExtended}
use Rattle.compat.specs.Ways.{CaseAt, Reached}
use Rattle.compat.specs.Statement.{SamePlace, Agree}
use Rattle.compat.proofs.Places.{Stand, down, same_place, roots, found_at_lem}

-- ---- values and arguments

-- p, q: the places of the types whose trees hold the two nodes. A value is found in both, or missing in both.
module _ (p q : ℕ) where
  -- the same value, or a missing parameter at both places
  data Same {A : Type 0} : Outcome A → Outcome A → Type 0 where
    here : (x : A) → Same (done x) (done x)
    missing : (a b : ℕ) → Same (refused (refusal_at p a MissingIrParameter 0)) (refused (refusal_at q b MissingIrParameter 0))

  -- a value by name
  same_value : (a b : ℕ) (x : Option ℕ) → Same (value_or (refusal_at p a MissingIrParameter 0) x) (value_or (refusal_at q b MissingIrParameter 0) x)
  unfolding value_or
  same_value a b none = Same.missing a b
  same_value a b (some v) = Same.here v

  -- a step behind it that is the same in both
  same_then : {A B : Type 0} {o o' : Outcome A} (f g : A → Outcome B) → Same o o' → ((x : A) → Same (f x) (g x)) → Same (o >>= f) (o' >>= g)
  unfolding ◌>>=◌
  same_then f g (Same.here x) h = h x
  same_then f g (Same.missing a b) h = Same.missing a b

  -- the values of a call's arguments
  same_arguments : {xs ys : List IrArgument} → SameArguments xs ys → (γ δ : ParamMap) → Same (collect_arguments p γ xs δ) (collect_arguments q γ ys δ)
  unfolding collect_arguments
  same_arguments SameArguments.none γ δ = Same.here δ
  same_arguments (SameArguments.more a b n v s) γ δ =
      same_then _ _ (same_value a b (find v γ)) (λ x. same_arguments s γ (record { name = n; value = x } ∷ δ))

module _ (old new : List TypeIr) where
  -- ---- one lemma for each thing that answers are made of

  -- what is done with a value that is the same in both
  agree_same : {A : Type 0} {p q : ℕ} {o o' : Outcome A} (f g : A → Outcome ℕ) → SamePlace old new p q → Same p q o o'
      → ((x : A) → Agree old new (f x) (g x)) → Agree old new (o >>= f) (o' >>= g)
  unfolding ◌>>=◌
  agree_same f g e (Same.here x) h = h x
  agree_same f g e (Same.missing a b) h = Agree.refusal _ _ refl refl e

  -- a value that is the same in both is an answer that agrees
  agree_of : {p q : ℕ} {o o' : Outcome ℕ} → SamePlace old new p q → Same p q o o' → Agree old new o o'
  agree_of e (Same.here x) = Agree.count x
  agree_of e (Same.missing a b) = Agree.refusal _ _ refl refl e

  -- an old 22 with an added case stays one, whatever the new layout goes on to
  agree_then : {o o' : Outcome ℕ} (f g : ℕ → Outcome ℕ) → Agree old new o o'
      → ((n : ℕ) → Agree old new (f n) (g n)) → Agree old new (o >>= f) (o' >>= g)
  unfolding ◌>>=◌
  agree_then f g (Agree.count n) h = h n
  agree_then f g (Agree.refusal r r' n v e) h = Agree.refusal r r' n v e
  agree_then f g (Agree.added r o n c) h = Agree.added r (o >>= g) n c

  -- an operation's value, or its fault at both places
  agree_lift : {p q : ℕ} (a b : ℕ) → SamePlace old new p q → (x : Result) → Agree old new (lift p a x) (lift q b x)
  unfolding lift
  agree_lift a b e (value n) = Agree.count n
  agree_lift a b e (fault r) = Agree.refusal _ _ refl refl e

  -- a choice by one test
  agree_if : (b : Bool) {x y x' y' : Outcome ℕ} → Agree old new x x' → Agree old new y y'
      → Agree old new (elim b [ true ↦ x | false ↦ y ]) (elim b [ true ↦ x' | false ↦ y' ])
  agree_if true h g = h
  agree_if false h g = g

  -- the same, where the choice is written with `cond`
  agree_cond : (b : Bool) {x y x' y' : Outcome ℕ} → Agree old new x x' → Agree old new y y' → Agree old new (cond b x y) (cond b x' y')
  agree_cond true h g = h
  agree_cond false h g = g

  -- whether the buffer holds the count
  agree_fits : {p q : ℕ} (len count : ℕ) → SamePlace old new p q → Agree old new (fits_buffer p len count) (fits_buffer q len count)
  agree_fits len count e = agree_cond (leb count len) (Agree.count count) (Agree.refusal _ _ refl refl e)

  -- a 22 of the old switch, where the new one has a case of that tag behind as many cases as the old one has
  agree_22 : {p q a b v : ℕ} {m m' : NodeMetadata} {t : Name} {cs cs' : SwitchCases} {d d' : DefaultNode}
      → Stand old new p q (IrNode.Switch a m t cs d) (IrNode.Switch b m' t cs' d')
      → (i : ℕ) (n : IrNode) → case_count cs ≤ i → CaseAt i cs' v n → (x : Outcome ℕ) → Agree old new (refused (refusal_at p a InvalidTagValue v)) x
  agree_22 {q} {a} {b} {v} {m} {m'} {t} {cs} {cs'} {d} {d'} s i n l c x = Agree.added _ x refl (record {
    place = q;
    old_type = s.old_type;
    new_type = s.new_type;
    old_there = s.old_there;
    new_there = s.new_there;
    named = s.named;
    way = s.way;
    tag = t;
    old_meta = m;
    old_cases = cs;
    old_default = d;
    old_switch = s.old_way;
    new_offset = b;
    new_meta = m';
    new_cases = cs';
    new_default = d';
    new_switch = s.new_way;
    case = i;
    case_node = n;
    behind = l;
    added = c;
  })

  -- Behind the old cases: an added case of the tag lets the new answer be any, else both answer alike.
  agree_added : (k : Handlers) (p : ℕ) (γ : ParamMap) (v : ℕ) (cs : SwitchCases) {o o' : Outcome ℕ}
      → ((i : ℕ) (n : IrNode) → CaseAt i cs v n → (x : Outcome ℕ) → Agree old new o x)
      → Agree old new o o' → Agree old new o (eval_cases k p γ v cs o')
  unfolding eval_cases
  agree_added k p γ v SwitchCases.no_case any h = h
  agree_added k p γ v (SwitchCases.case u n ps cs) {o} {o'} any h =
      first (eqb u v) refl (agree_added k p γ v cs (λ i m c. any (suc i) m (CaseAt.there u n ps c)) h)
    where
      first : (b : Bool) → eqb u v ≡ b → Agree old new o (eval_cases k p γ v cs o')
          → Agree old new o (elim b [ true ↦ eval_node k p γ n | false ↦ eval_cases k p γ v cs o' ])
      first true e later = let w : u ≡ v = eqb→eq u v (rw e tt) in any 0 n (rw (← w) (CaseAt.here u n ps cs)) (eval_node k p γ n)
      first false e later = later

  -- two ways to call that agree
  abbrev AgreeCalls : Handlers → Handlers → Type 0
  AgreeCalls k k' =
      (p q : ℕ) (γ : ParamMap) (a b : ℕ) (n : Name) (xs ys : List IrArgument) →
      SamePlace old new p q → Found old n → SameArguments xs ys → Agree old new (k.call p γ a n xs) (k'.call q γ b n ys)

  -- two ways to sum over an array that agree where the counts do
  abbrev AgreeSums : Handlers → Handlers → Type 0
  AgreeSums k k' =
      (p q : ℕ) (γ : ParamMap) (a b : ℕ) (x y : Outcome ℕ) (t f : Name) →
      SamePlace old new p q → Agree old new x y → Agree old new (k.sum p γ a x t f) (k'.sum q γ b y t f)

  -- ---- nodes

  module _ (k k' : Handlers) (calls : AgreeCalls k k') (sums : AgreeSums k k') (γ : ParamMap) (p q : ℕ) where
    mutual
      unfolding eval_node eval_cases eval_default case_count

      -- a node and its extension, evaluated over the same values
      agree_node : {n n' : IrNode} → NodeExtended (Found old) n n' → Stand old new p q n n' → Agree old new (eval_node k p γ n) (eval_node k' q γ n')
      agree_node (NodeExtended.ZeroSize a b m) s = Agree.count 0
      agree_node (NodeExtended.Const a b m v) s = Agree.count v
      agree_node (NodeExtended.FieldRef a b m path x) s = agree_of (same_place s) (same_value p q a b (find (chosen path x) γ))
      agree_node (NodeExtended.AlignUp a b m v x) s =
          agree_then _ _ (agree_node x (down s (Reached.node a m v (Reached.here _)) (Reached.node b m v (Reached.here _))))
          (λ y. agree_lift a b (same_place s) (align_up bits y v))
      agree_node (NodeExtended.Switch a b m t x) s =
          agree_then _ _ (agree_of (same_place s) (same_value p q a b (find t γ)))
          (λ v. agree_cases x v
          (λ i u n n' c c'. down s (Reached.case a m t _ c (Reached.here n)) (Reached.case b m t _ c' (Reached.here n')))
          (agree_22 s)
          (Agree.refusal _ _ refl refl (same_place s)))
      agree_node (NodeExtended.CallNested a b m n f x) s = calls p q γ a b n _ _ (same_place s) f x
      agree_node (NodeExtended.Binary a b m o x y) s =
          agree_then _ _ (agree_node x (down s (Reached.left a m o (Reached.here _)) (Reached.left b m o (Reached.here _))))
          (λ u. agree_then _ _ (agree_node y (down s (Reached.right a m o (Reached.here _)) (Reached.right b m o (Reached.here _))))
          (λ v. agree_lift a b (same_place s) (operate bits o u v)))
      agree_node (NodeExtended.SumOverArray a b m t f x) s =
          sums p q γ a b _ _ t f (same_place s)
          (agree_node x (down s (Reached.count a m t f (Reached.here _)) (Reached.count b m t f (Reached.here _))))

      -- stand: where the nodes of two cases at one place stand; any: what an added case gives
      agree_cases : {cs cs' : SwitchCases} → CasesExtended (Found old) cs cs' → (v : ℕ) {o o' : Outcome ℕ}
          → ((i u : ℕ) (n n' : IrNode) → CaseAt i cs u n → CaseAt i cs' u n' → Stand old new p q n n')
          → ((i : ℕ) (n : IrNode) → case_count cs ≤ i → CaseAt i cs' v n → (x : Outcome ℕ) → Agree old new o x)
          → Agree old new o o' → Agree old new (eval_cases k p γ v cs o) (eval_cases k' q γ v cs' o')
      agree_cases (CasesExtended.added_cases cs) v stand any h = agree_added k' q γ v cs (λ i n c. any i n zero-le c) h
      agree_cases (CasesExtended.case u ps x xs) v stand any h =
          agree_if (eqb u v) (agree_node x (stand 0 u _ _ (CaseAt.here u _ ps _) (CaseAt.here u _ ps _)))
          (agree_cases xs v
          (λ i w n n' c c'. stand (suc i) w n n' (CaseAt.there u _ ps c) (CaseAt.there u _ ps c'))
          (λ i n l c. any (suc i) n (omega arith) (CaseAt.there u _ ps c))
          h)

  -- ---- calls

  module _ (extended : LayoutExtended old new) where
    -- a name that the old layout has: the new one has it too, so neither answers 20
    agree_looked : (n : Name) → Found old n → (f g : ℕ × TypeIr → Outcome ℕ)
        → ((i j : ℕ) (t t' : TypeIr) → t.parameters ≡ t'.parameters → Stand old new i j t.root t'.root
        → NodeExtended (Found old) t.root t'.root → Agree old new (f (i, t)) (g (j, t')))
        → Agree old new (lookup_type 0 n old >>= f) (lookup_type 0 n new >>= g)
    unfolding ◌>>=◌
    agree_looked n o f g h =
        let x : TypeExtended old new n o.type = extended n o.place o.type o.found in
        let s = roots (found_at_lem n old _ _ o.found) (found_at_lem n new _ _ x.found) x.named in
        rw (o.found, x.found) (h o.place x.place o.type x.type x.parameters s x.root)

    -- two ways to enter a called type that agree
    abbrev AgreeEnter : Enter → Enter → Type 0
    AgreeEnter e e' =
        (p q a b i j : ℕ) (δ : ParamMap) (n n' : IrNode) →
        SamePlace old new p q → Stand old new i j n n' → NodeExtended (Found old) n n' → Agree old new (e p a i δ n) (e' q b j δ n')

    -- calls agree, where entering the called type does
    agree_call : (e e' : Enter) → AgreeEnter e e' → AgreeCalls (handlers e old) (handlers e' new)
    unfolding eval_call
    agree_call e e' h p q γ a b n xs ys s f x =
        agree_same _ _ s (same_arguments p q x γ [])
        (λ δ. agree_looked n f _ _ (λ i j t t' c r y. rw c (h p q a b i j _ t.root t'.root s r y)))

    -- with so many calls left; a sum over an array gives 24 in both
    agree_within : (left : ℕ) {n n' : IrNode} → NodeExtended (Found old) n n' → (p q : ℕ) (γ : ParamMap) → Stand old new p q n n'
        → Agree old new (eval_within left old p γ n) (eval_within left new q γ n')
    unfolding eval_within
    agree_within zero x p q γ s =
        agree_node _ _ (agree_call _ _ (λ p q a b i j δ n n' e t y. Agree.refusal _ _ refl refl e)) (λ p q γ a b x y t f e h. Agree.refusal _ _ refl refl e) γ p q x s
    agree_within (suc left) x p q γ s =
        agree_node _ _ (agree_call _ _ (λ p q a b i j δ n n' e t y. agree_within left y i j δ t)) (λ p q γ a b x y t f e h. Agree.refusal _ _ refl refl e) γ p q x s

-- For every type that the old layout has, all values and every buffer length.
pub evaluated : (old new : List TypeIr) → LayoutExtended old new → (n : Name) → Found old n → (len : ℕ) (values : ParamMap)
    → Agree old new (validate_type old n len values) (validate_type new n len values)
unfolding validate_type
evaluated old new e n f len values =
    agree_looked old new e n f _ _
    (λ i j t t' c s x. agree_then old new _ _ (agree_within old new e 16 x i j (with_buffer_size len values) s)
    (λ count. agree_fits old new len count (same_place s)))
