-- interpreter.rs, `eval_node`, `eval_switch`, `eval_call`. "Left before right, arguments before the type lookup."
use Rattle.std.specs.Prelude.{ℕ, zero, suc, true, false, List, [], ◌∷◌, ◌++◌, eqb}
use Rattle.std.proofs.Math.Option.{Option, some, none}
use Rattle.errors.specs.Refusal.{Outcome, done, refused, ◌>>=◌, Refusal, plain, UnknownType, MissingIrParameter, InvalidTagValue, UnsupportedOperation}
use Rattle.blocks.specs.Name.{Name, same}
use Rattle.ir.specs.Ir.{IrParameter, IrArgument, IrNode, SwitchCases, DefaultNode, TypeIr}
use Rattle.interpreter.specs.Arithmetic.{Result, value, fault, bits, operate, align_up}

-- `ParamMap`: names and values; the first of a name counts
pub record Binding : Type 0 where
  pub name : Name
  pub value : ℕ

abbrev pub ParamMap : Type 0
ParamMap = List Binding

unfoldable pub find : Name → ParamMap → Option ℕ
find n [] = none
find n (b ∷ bs) = elim (same n b.name) [ true ↦ some b.value | false ↦ find n bs ]

-- "for 21 to 24, 26 and 27, the type whose tree holds the node"; "the node's, or the missing argument's" offset; "Value is
-- the tag for 22"
abbrev pub refusal_at : ℕ → ℕ → ℕ → ℕ → Refusal
refusal_at place offset q v = record { number = q; place = place; offset = offset; value = v }

-- a value, or the refusal where there is none
unfoldable pub value_or : Refusal → Option ℕ → Outcome ℕ
value_or r none = refused r
value_or r (some v) = done v

-- a result of arithmetic, at a node
unfoldable pub lift : ℕ → ℕ → Result → Outcome ℕ
lift place offset (value n) = done n
lift place offset (fault q) = refused (refusal_at place offset q 0)

-- `field.parameter.as_ref().unwrap_or(&field.path)`
abbrev pub chosen : Name → Option Name → Name
chosen path none = path
chosen path (some n) = n

-- What a node leaves to its handlers, each given the place of the type whose tree holds the node, the context and the node's offset.
pub record Handlers : Type 0 where
  -- a call: the type's name and the arguments
  pub call : ℕ → ParamMap → ℕ → Name → List IrArgument → Outcome ℕ
  -- a sum over an array: its evaluated count, the element's type name and the field's name
  pub sum : ℕ → ParamMap → ℕ → Outcome ℕ → Name → Name → Outcome ℕ

-- p: the place of the type whose tree holds the node; γ: its context
unfoldable mutual
  pub eval_node : Handlers → ℕ → ParamMap → IrNode → Outcome ℕ
  eval_node h p γ (IrNode.ZeroSize a m) = done 0
  eval_node h p γ (IrNode.Const a m v) = done v
  eval_node h p γ (IrNode.FieldRef a m path parameter) = value_or (refusal_at p a MissingIrParameter 0) (find (chosen path parameter) γ)
  eval_node h p γ (IrNode.AlignUp a m alignment n) = do
    v ← eval_node h p γ n
    lift p a (align_up bits v alignment)
  eval_node h p γ (IrNode.Switch a m tag cases d) = do
    v ← value_or (refusal_at p a MissingIrParameter 0) (find tag γ)
    eval_cases h p γ v cases (eval_default h p γ a v d)
  eval_node h p γ (IrNode.CallNested a m type xs) = h.call p γ a type xs
  eval_node h p γ (IrNode.Binary a m op l r) = do
    x ← eval_node h p γ l
    y ← eval_node h p γ r
    lift p a (operate bits op x y)
  eval_node h p γ (IrNode.SumOverArray a m c type field) = h.sum p γ a (eval_node h p γ c) type field

  -- the first case of the tag's value; M8
  pub eval_cases : Handlers → ℕ → ParamMap → ℕ → SwitchCases → Outcome ℕ → Outcome ℕ
  eval_cases h p γ v SwitchCases.no_case o = o
  eval_cases h p γ v (SwitchCases.case t n ps cs) o = elim (eqb t v) [ true ↦ eval_node h p γ n | false ↦ eval_cases h p γ v cs o ]

  pub eval_default : Handlers → ℕ → ParamMap → ℕ → ℕ → DefaultNode → Outcome ℕ
  eval_default h p γ a v DefaultNode.no_default = refused (refusal_at p a InvalidTagValue v)
  eval_default h p γ a v (DefaultNode.or_else n) = eval_node h p γ n

-- `collect_arguments`: "A later argument of the same name wins."
unfoldable pub collect_arguments : ℕ → ParamMap → List IrArgument → ParamMap → Outcome ParamMap
collect_arguments p γ [] δ = done δ
collect_arguments p γ (x ∷ xs) δ = do
  v ← value_or (refusal_at p x.at MissingIrParameter 0) (find x.value γ)
  collect_arguments p γ xs (record { name = x.name; value = v } ∷ δ)

-- what the caller's context has of the callee's listed parameters
abbrev pub bind_found : Name → Option ℕ → ParamMap → ParamMap
bind_found n none δ = δ
bind_found n (some v) δ = record { name = n; value = v } ∷ δ

unfoldable pub inherited : ParamMap → List IrParameter → ParamMap
inherited γ [] = []
inherited γ (p ∷ ps) = bind_found p.name (find p.name γ) (inherited γ ps)

-- `lookup_type`: the type of a name, with its place. "20 is the type there, the asked one or a called one?"
unfoldable pub lookup_type : ℕ → Name → List TypeIr → Outcome (ℕ × TypeIr)
lookup_type i n [] = refused (plain UnknownType)
lookup_type i n (t ∷ ts) = elim (same n t.type_name) [ true ↦ done (i, t) | false ↦ lookup_type (suc i) n ts ]

-- what a call does once its arguments and its type are there: the caller's place and offset, then the callee's place, context and root
abbrev pub Enter : Type 0
Enter = ℕ → ℕ → ℕ → ParamMap → IrNode → Outcome ℕ

-- `eval_call`
unfoldable pub eval_call : Enter → List TypeIr → ℕ → ParamMap → ℕ → Name → List IrArgument → Outcome ℕ
eval_call enter types p γ a name xs = do
  δ ← collect_arguments p γ xs []
  t ← lookup_type 0 name types
  enter p a t.0 (δ ++ inherited γ t.1.parameters) t.1.root

-- "`SumOverArray` gives 24 always."
abbrev pub sum_unsupported : ℕ → ParamMap → ℕ → Outcome ℕ → Name → Name → Outcome ℕ
sum_unsupported p γ a count type field = refused (refusal_at p a UnsupportedOperation 0)

abbrev pub handlers : Enter → List TypeIr → Handlers
handlers enter types = record { call = eval_call enter types; sum = sum_unsupported }

-- 27: "is it at most the 16th call open? (put after arguments and type lookup)"
abbrev pub no_more_calls : Enter
no_more_calls p a i δ root = refused (refusal_at p a 27 0)

-- left: how many calls may still open
unfoldable pub eval_within : ℕ → List TypeIr → ℕ → ParamMap → IrNode → Outcome ℕ
eval_within zero types = eval_node (handlers no_more_calls types)
eval_within (suc left) types = eval_node (handlers (λ p a i δ root. eval_within left types i δ root) types)
