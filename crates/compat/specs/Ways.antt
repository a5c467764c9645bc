-- "The switch of a 22 is the node at its offset. The same switch is the one reached the same way from the same-named
-- type's root, list entries counted by place": ways from a root to the nodes inside it.
use Rattle.std.specs.Prelude.{ℕ, zero, suc, ◌≤◌, ◌≡◌, List, [], ◌∷◌}
use Rattle.errors.specs.Refusal.{Refusal}
use Rattle.blocks.specs.Name.{Name}
use Rattle.ir.specs.Ir.{NodeMetadata, IrParameter, BinaryOp, IrNode, SwitchCases, DefaultNode, TypeIr}
use Rattle.ir.specs.Layout.{case_count}

-- the case at a place, with its tag value and node
pub data CaseAt : ℕ → SwitchCases → ℕ → IrNode → Type 0 where
  here : (v : ℕ) (n : IrNode) (ps : List IrParameter) (cs : SwitchCases) → CaseAt zero (SwitchCases.case v n ps cs) v n
  there : {i v : ℕ} {n : IrNode} {cs : SwitchCases} (u : ℕ) (m : IrNode) (ps : List IrParameter) → CaseAt i cs v n → CaseAt (suc i) (SwitchCases.case u m ps cs) v n

-- one step, from a node to one inside it
pub data Step : Type 0 where
  node left right default count : Step
  case : ℕ → Step

-- Reached n w x: from n the way w leads to x
pub data Reached : IrNode → List Step → IrNode → Type 0 where
  here : (n : IrNode) → Reached n [] n
  node : {n x : IrNode} {w : List Step} (a : ℕ) (m : NodeMetadata) (b : ℕ) → Reached n w x → Reached (IrNode.AlignUp a m b n) (Step.node ∷ w) x
  left : {l r x : IrNode} {w : List Step} (a : ℕ) (m : NodeMetadata) (o : BinaryOp) → Reached l w x → Reached (IrNode.Binary a m o l r) (Step.left ∷ w) x
  right : {l r x : IrNode} {w : List Step} (a : ℕ) (m : NodeMetadata) (o : BinaryOp) → Reached r w x → Reached (IrNode.Binary a m o l r) (Step.right ∷ w) x
  case : {i v : ℕ} {n x : IrNode} {w : List Step} {cs : SwitchCases} (a : ℕ) (m : NodeMetadata) (t : Name) (d : DefaultNode) → CaseAt i cs v n → Reached n w x → Reached (IrNode.Switch a m t cs d) (Step.case i ∷ w) x
  default : {n x : IrNode} {w : List Step} (a : ℕ) (m : NodeMetadata) (t : Name) (cs : SwitchCases) → Reached n w x → Reached (IrNode.Switch a m t cs (DefaultNode.or_else n)) (Step.default ∷ w) x
  count : {c x : IrNode} {w : List Step} (a : ℕ) (m : NodeMetadata) (t f : Name) → Reached c w x → Reached (IrNode.SumOverArray a m c t f) (Step.count ∷ w) x

-- the entry of a list at a place
pub data At {A : Type 0} : ℕ → A → List A → Type 0 where
  here : {x : A} {xs : List A} → At zero x (x ∷ xs)
  there : {i : ℕ} {x y : A} {xs : List A} → At i x xs → At (suc i) x (y ∷ xs)

-- the new layout has an added case for a 22 of the old one
pub record AddedCase (old new : List TypeIr) (r : Refusal) : Type 0 where
  -- "the same-named type"
  pub place : ℕ
  pub old_type : TypeIr
  pub new_type : TypeIr
  pub old_there : At r.place old_type old
  pub new_there : At place new_type new
  pub named : old_type.type_name ≡ new_type.type_name
  -- "The switch of a 22 is the node at its offset." "reached the same way"
  pub way : List Step
  pub tag : Name
  pub old_meta : NodeMetadata
  pub old_cases : SwitchCases
  pub old_default : DefaultNode
  pub old_switch : Reached old_type.root way (IrNode.Switch r.offset old_meta tag old_cases old_default)
  pub new_offset : ℕ
  pub new_meta : NodeMetadata
  pub new_cases : SwitchCases
  pub new_default : DefaultNode
  pub new_switch : Reached new_type.root way (IrNode.Switch new_offset new_meta tag new_cases new_default)
  -- "an added case stands there behind as many cases as the old one has, with that tag value"
  pub case : ℕ
  pub case_node : IrNode
  pub behind : case_count old_cases ≤ case
  pub added : CaseAt case new_cases r.value case_node
