-- A node in which nothing may grow is extended by itself; a switch is extended by one over more alternatives.
use mathlib.Core.Bool.{Bool, true, false, cond}
use mathlib.Core.List.{List, [], ◌∷◌, ◌++◌}
use mathlib.Core.Option.{Option, some, none}
use Prim.Native.Nat.{ℕ, ◌-◌}
use lib.Dec.{ltb, eqb}
use Rattle.blocks.specs.Name.{Name, same}
use Rattle.expr.specs.Expr.{ExprKind}
use Rattle.resolved.specs.Resolved.{Owner, Size, Head, get}
use Rattle.ir.specs.Ir.{IrArgument, IrNode, unplaced, aligned}
use Rattle.builder.specs.Names.{join, apply_path_prefix}
use Rattle.builder.specs.Registry.{Build}
use Rattle.builder.specs.Nodes.{Alternative, align_node, const_or_zero, add_all, combine_checked_add, build_field_ref_nodes}
use Rattle.builder.specs.Nodes.{build_path, build_expr_ir, buffer_size, build_alternative, build_cases, build_switch, sum_refs, padding}
use Rattle.compat.specs.Nodes.{SameArguments, NodeExtended, CasesExtended}
use Rattle.compat.proofs.Keeps.{Keeps, gives, refuses, binds, first}
use Rattle.compat.proofs.Keeps.{Still, still_give, still_refuse, still_need, still_reads, still_require, still_binds, beside}

-- arguments are the same as themselves
pub same_arguments : (xs : List IrArgument) → SameArguments xs xs
same_arguments [] = SameArguments.none
same_arguments (x ∷ xs) = SameArguments.more x.at x.at x.name x.value (same_arguments xs)

-- two choices by one test
either : {A A' : Type 0} (R : A → A' → Type 0) (b : Bool) {x y : A} {x' y' : A'}
    → R x x' → R y y' → R (cond b x y) (cond b x' y')
either R true h g = h
either R false h g = g

-- ---- building the cases of a switch leaves the registry as it is

-- the sum of nodes
still_combine : (ns : List IrNode) → Still (combine_checked_add ns)
unfolding combine_checked_add
still_combine [] = still_refuse _
still_combine (n ∷ ns) = still_give _

-- the references of an owner
still_refs : (owner : Name) (paths : List Name) → Still (build_field_ref_nodes owner paths)
unfolding build_field_ref_nodes
still_refs owner [] = still_give _
still_refs owner (p ∷ ps) =
    still_binds (still_reads _) (λ found.
    still_binds (still_need found _) (λ parameter.
    still_binds (still_require _ _) (λ _.
    still_binds (still_refs owner ps) (λ nodes. still_give _))))

-- their sum
still_sum : (owner : Name) (paths : List Name) → Still (sum_refs owner paths)
unfolding sum_refs
still_sum owner paths = still_binds (still_refs owner paths) (λ nodes. still_combine nodes)

-- one alternative
still_alternative : (refs : List Owner) (n : Name) (s : Size) (a : ℕ) → Still (build_alternative refs n s a)
unfolding build_alternative
still_alternative refs n (Size.Const v) a = still_give _
still_alternative refs n Size.Variable a =
    still_binds (still_need (get n refs) _) (λ paths.
    still_binds (still_sum n paths) (λ sum. still_give _))

-- all alternatives
still_cases : (refs : List Owner) (xs : List Alternative) → Still (build_cases refs xs)
unfolding build_cases
still_cases refs [] = still_give _
still_cases refs (x ∷ xs) =
    still_binds (still_alternative refs x.name x.size x.alignment) (λ node.
    still_binds (still_reads _) (λ parameters.
    still_binds (still_cases refs xs) (λ cases. still_give _)))

-- alternatives, and the same with more behind
pub data Added : List Alternative → List Alternative → Type 0 where
  last : (xs : List Alternative) → Added [] xs
  more : {xs ys : List Alternative} (x : Alternative) → Added xs ys → Added (x ∷ xs) (x ∷ ys)

-- ---- what is extended

module _ (Known : Name → Type 0) where
  -- two actions that give a node and its extension
  abbrev pub Extends : Build IrNode → Build IrNode → Type 0
  Extends = Keeps (NodeExtended Known)

  -- nodes, each with its extension
  pub data NodesExtended : List IrNode → List IrNode → Type 0 where
    no_node : NodesExtended [] []
    node : {n n' : IrNode} {ns ns' : List IrNode}
        → NodeExtended Known n n' → NodesExtended ns ns' → NodesExtended (n ∷ ns) (n' ∷ ns')

module _ {Known : Name → Type 0} where
  -- ---- small nodes

  -- an AlignUp over a node
  pub align_extends : {n n' : IrNode} (a : ℕ) → NodeExtended Known n n' → NodeExtended Known (align_node n a) (align_node n' a)
  align_extends a x = NodeExtended.AlignUp unplaced unplaced (aligned a) a x

  -- a constant or ZeroSize is its own extension
  pub const_or_zero_extends : (v a : ℕ) → NodeExtended Known (const_or_zero v a) (const_or_zero v a)
  const_or_zero_extends v a =
      either (NodeExtended Known) (eqb v 0)
      (NodeExtended.ZeroSize unplaced unplaced (aligned a))
      (align_extends a (NodeExtended.Const unplaced unplaced (aligned a) v))

  -- a sum from the left
  add_all_extends : {n n' : IrNode} {ns ns' : List IrNode} → NodeExtended Known n n' → NodesExtended Known ns ns'
      → NodeExtended Known (add_all n ns) (add_all n' ns')
  unfolding add_all
  add_all_extends x NodesExtended.no_node = x
  add_all_extends x (NodesExtended.node y ys) = add_all_extends (NodeExtended.Binary _ _ _ _ x y) ys

  -- a sum of nodes, as it is built
  pub combine_extends : {ns ns' : List IrNode} → NodesExtended Known ns ns'
      → Extends Known (combine_checked_add ns) (combine_checked_add ns')
  unfolding combine_checked_add
  combine_extends NodesExtended.no_node = refuses _ _
  combine_extends (NodesExtended.node x xs) = gives _ _ (add_all_extends x xs)

  -- the references of an owner are built alike
  refs_extend : (owner : Name) (paths : List Name)
      → Keeps (NodesExtended Known) (build_field_ref_nodes owner paths) (build_field_ref_nodes owner paths)
  unfolding build_field_ref_nodes
  refs_extend owner [] = gives _ _ NodesExtended.no_node
  refs_extend owner (p ∷ ps) =
      first _ (λ found.
      first _ (λ parameter.
      first _ (λ _.
      binds (refs_extend owner ps) (λ ns ns' xs.
      gives _ _ (NodesExtended.node (NodeExtended.FieldRef _ _ _ _ _) xs)))))

  -- so is their sum
  pub sum_extends : (owner : Name) (paths : List Name) → Extends Known (sum_refs owner paths) (sum_refs owner paths)
  unfolding sum_refs
  sum_extends owner paths = binds (refs_extend owner paths) (λ ns ns' xs. combine_extends xs)

  -- ---- size expressions

  -- a field reference of an expression
  path_extends : (owner path : Name) → Extends Known (build_path owner path) (build_path owner path)
  unfolding build_path
  path_extends owner path =
      first _ (λ found.
      first _ (λ parameter.
      first _ (λ _.
      gives _ _ (NodeExtended.FieldRef _ _ _ _ _))))

  -- an expression is built alike
  pub expr_extends : (owner prefix : Name) (e : ExprKind)
      → Extends Known (build_expr_ir owner prefix e) (build_expr_ir owner prefix e)
  unfolding build_expr_ir
  expr_extends owner prefix (ExprKind.Literal l) = first _ (λ v. gives _ _ (NodeExtended.Const _ _ _ v))
  expr_extends owner prefix (ExprKind.FieldRef path) =
      either (Extends Known) (same (join path) buffer_size)
      (gives _ _ (NodeExtended.FieldRef _ _ _ _ _))
      (path_extends owner (apply_path_prefix prefix (join path)))
  expr_extends owner prefix (ExprKind.Sizeof n) = refuses _ _
  expr_extends owner prefix (ExprKind.Alignof n) = refuses _ _
  expr_extends owner prefix (ExprKind.Binary k l r) =
      first _ (λ op.
      binds (expr_extends owner prefix l) (λ n n' x.
      binds (expr_extends owner prefix r) (λ m m' y.
      gives _ _ (NodeExtended.Binary _ _ _ op x y))))
  expr_extends owner prefix (ExprKind.Unary k x) = refuses _ _

  -- ---- switches

  -- the node of an alternative is built alike
  alternative_extends : (refs : List Owner) (n : Name) (s : Size) (a : ℕ)
      → Extends Known (build_alternative refs n s a) (build_alternative refs n s a)
  unfolding build_alternative
  alternative_extends refs n (Size.Const v) a = gives _ _ (const_or_zero_extends v a)
  alternative_extends refs n Size.Variable a =
      first _ (λ paths.
      binds (sum_extends n paths) (λ m m' x.
      gives _ _ (align_extends a x)))

  -- the cases of alternatives, with more behind
  cases_extend : (refs : List Owner) {xs ys : List Alternative} → Added xs ys
      → Keeps (CasesExtended Known) (build_cases refs xs) (build_cases refs ys)
  unfolding build_cases
  cases_extend refs (Added.last xs) = beside _ _ (λ cs. CasesExtended.added_cases cs) (still_cases refs xs)
  cases_extend refs (Added.more x xs) =
      binds (alternative_extends refs x.name x.size x.alignment) (λ n n' y.
      first _ (λ parameters.
      binds (cases_extend refs xs) (λ cs cs' z.
      gives _ _ (CasesExtended.case _ parameters y z))))

  -- so a switch is built to its extension
  pub switch_extends : (h : Head) (tag : Name) {xs ys : List Alternative} → Added xs ys
      → Extends Known (build_switch h tag xs) (build_switch h tag ys)
  unfolding build_switch
  switch_extends h tag xs = binds (cases_extend h.dynamic_params xs) (λ cs cs' y. gives _ _ (NodeExtended.Switch _ _ _ tag y))

  -- ---- a struct's padding

  -- two lists of nodes, one behind the other
  append_extends : {ms ms' ns ns' : List IrNode} → NodesExtended Known ms ms' → NodesExtended Known ns ns'
      → NodesExtended Known (ms ++ ns) (ms' ++ ns')
  append_extends NodesExtended.no_node ys = ys
  append_extends (NodesExtended.node x xs) ys = NodesExtended.node x (append_extends xs ys)

  -- the padding before a field is built alike
  padding_itself : (end : ℕ) (o : Option ℕ) → NodesExtended Known (padding end o) (padding end o)
  unfolding padding
  padding_itself end none = NodesExtended.no_node
  padding_itself end (some o) =
      either (NodesExtended Known) (ltb end o)
      (NodesExtended.node (const_or_zero_extends (o - end) 1) NodesExtended.no_node)
      NodesExtended.no_node

  -- padding in front of a struct's other nodes
  pub padding_extends : (end : ℕ) (o : Option ℕ) {ns ns' : List IrNode} → NodesExtended Known ns ns'
      → NodesExtended Known (padding end o ++ ns) (padding end o ++ ns')
  padding_extends end o xs = append_extends (padding_itself end o) xs
