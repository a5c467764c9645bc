-- A layout extended by another: so are the two layouts that are read back from what is written of them.
use Prim.Native.Nat.{ℕ, suc, ◌≤◌}
use mathlib.Core.Path.{◌≡◌, refl, sym, ap, ◌∙◌}
use mathlib.Core.Bool.{Bool, true, false}
use mathlib.Core.List.{List}
use lib.ListN.{length}
use Rattle.errors.specs.Refusal.{Outcome, Refusal, done, refused, plain, UnknownType}
use Rattle.errors.proofs.Laws.{done_one, not_done}
use Rattle.blocks.specs.Name.{Name, same}
use Rattle.blocks.specs.Tree.{Tree}
use Rattle.blocks.specs.Read.{read_layout}
use Rattle.blocks.specs.Write.{write}
use Rattle.ir.specs.Ir.{IrArgument, IrNode, SwitchCases, TypeIr}
use Rattle.ir.specs.Layout.{layout_of, layout_tree}
use Rattle.interpreter.specs.Eval.{lookup_type}
use Rattle.compat.specs.Nodes.{Found, SameArguments, NodeExtended, CasesExtended, LayoutExtended}
use Rattle.compat.proofs.Reread.{held, held_meta, NodeReread, CasesReread, DefaultReread, TypeReread, LayoutReread, layout_read}

-- ---- nodes

-- arguments stay the same when both lists are read back
arguments_follow : {xs ys us vs : List IrArgument} → SameArguments xs ys → SameArguments xs us → SameArguments ys vs → SameArguments us vs
arguments_follow SameArguments.none SameArguments.none SameArguments.none = SameArguments.none
arguments_follow (SameArguments.more a b n v s) (SameArguments.more _ c _ _ p) (SameArguments.more _ d _ _ q) = SameArguments.more c d n v (arguments_follow s p q)

-- K, J: which names are known to the old layout as it was built, and as it is read
module _ {K J : Name → Type 0} (know : (n : Name) → K n → J n) where
  mutual
    -- a node and its extension, both read back, are a node and its extension
    node_follows : {n n' m m' : IrNode} → NodeExtended K n n' → NodeReread n m → NodeReread n' m' → NodeExtended J m m'
    node_follows (NodeExtended.ZeroSize _ _ _) (NodeReread.ZeroSize _ a m) (NodeReread.ZeroSize _ b _) = NodeExtended.ZeroSize a b (held_meta m)
    node_follows (NodeExtended.Const _ _ _ _) (NodeReread.Const _ a m v) (NodeReread.Const _ b _ _) = NodeExtended.Const a b (held_meta m) (held v)
    node_follows (NodeExtended.FieldRef _ _ _ _ _) (NodeReread.FieldRef _ a m p x) (NodeReread.FieldRef _ b _ _ _) = NodeExtended.FieldRef a b (held_meta m) p x
    node_follows (NodeExtended.AlignUp _ _ _ _ e) (NodeReread.AlignUp _ a m v p) (NodeReread.AlignUp _ b _ _ q) = NodeExtended.AlignUp a b (held_meta m) (held v) (node_follows e p q)
    node_follows (NodeExtended.Switch _ _ _ _ e) (NodeReread.Switch _ a m t p DefaultReread.no_default) (NodeReread.Switch _ b _ _ q DefaultReread.no_default) =
        NodeExtended.Switch a b (held_meta m) t (cases_follow e p q)
    node_follows (NodeExtended.CallNested _ _ _ _ k e) (NodeReread.CallNested _ a m n p) (NodeReread.CallNested _ b _ _ q) =
        NodeExtended.CallNested a b (held_meta m) n (know n k) (arguments_follow e p q)
    node_follows (NodeExtended.Binary _ _ _ _ e f) (NodeReread.Binary _ a m o p r) (NodeReread.Binary _ b _ _ q s) = NodeExtended.Binary a b (held_meta m) o (node_follows e p q) (node_follows f r s)
    node_follows (NodeExtended.SumOverArray _ _ _ _ _ e) (NodeReread.SumOverArray _ a m t f p) (NodeReread.SumOverArray _ b _ _ _ q) =
        NodeExtended.SumOverArray a b (held_meta m) t f (node_follows e p q)

    -- the same of the cases of a switch
    cases_follow : {cs cs' ds ds' : SwitchCases} → CasesExtended K cs cs' → CasesReread cs ds → CasesReread cs' ds' → CasesExtended J ds ds'
    cases_follow {ds'} (CasesExtended.added_cases _) CasesReread.no_case q = CasesExtended.added_cases ds'
    cases_follow (CasesExtended.case _ _ e es) (CasesReread.case v xs p ps) (CasesReread.case _ _ q qs) = CasesExtended.case (held v) xs (node_follows e p q) (cases_follow es ps qs)

-- ---- the types of a layout

-- the same place, and the type that is read for the one that was written; or none
data Looked : Outcome (ℕ × TypeIr) → Outcome (ℕ × TypeIr) → Type 0 where
  found : {t u : TypeIr} (i : ℕ) → TypeReread t u → Looked (done (i, t)) (done (i, u))
  missing : (r : Refusal) → Looked (refused r) (refused r)

-- a name is looked up in a layout before and after it is written: the same place, or neither has it
looked : {ts us : List TypeIr} → LayoutReread ts us → (i : ℕ) (n : Name) → Looked (lookup_type i n ts) (lookup_type i n us)
unfolding lookup_type
looked LayoutReread.empty i n = Looked.missing (plain UnknownType)
looked (LayoutReread.more {t} {u} r rs) i n = first (same n t.type_name) (same n u.type_name) (ap (same n) r.named) (looked rs (suc i) n)
  where
    first : (b c : Bool) {o p : Outcome (ℕ × TypeIr)} → c ≡ b → Looked o p → Looked (elim b [ true ↦ done (i, t) | false ↦ o ]) (elim c [ true ↦ done (i, u) | false ↦ p ])
    first true c e l = rw e (Looked.found i r)
    first false c e l = rw e l

-- the type that is read for one that was written
forth : {o p : Outcome (ℕ × TypeIr)} (x : ℕ × TypeIr) → Looked o p → o ≡ done x → (u : TypeIr) × (p ≡ done (x.0, u)) × TypeReread x.1 u
forth x (Looked.found {t} {u} i r) e = rw (← done_one e) (u, refl, r)
forth x (Looked.missing r) e = absurd (not_done e)

-- and the other way round
back : {o p : Outcome (ℕ × TypeIr)} (x : ℕ × TypeIr) → Looked o p → p ≡ done x → (t : TypeIr) × (o ≡ done (x.0, t)) × TypeReread t x.1
back x (Looked.found {t} {u} i r) e = rw (← done_one e) (t, refl, r)
back x (Looked.missing r) e = absurd (not_done e)

-- a name that a layout has, it has when it is read
pub found_read : {ts us : List TypeIr} → LayoutReread ts us → (n : Name) → Found ts n → Found us n
found_read p n k = let g = forth (k.place, k.type) (looked p 0 n) k.found in record { place = k.place; type = g.0; found = g.1 }

-- names are equal in the same order, so a name that one of two layouts has, the other has at the same place
pub follows : {xs ys us vs : List TypeIr} → LayoutExtended xs ys → LayoutReread xs us → LayoutReread ys vs → LayoutExtended us vs
follows e p q n i u h =
    let b = back (i, u) (looked p 0 n) h in
    let x = e n i b.0 b.1 in
    let f = forth (x.place, x.type) (looked q 0 n) x.found in
    record {
      place = x.place;
      type = f.0;
      found = f.1;
      named = b.2.named ∙ x.named ∙ sym f.2.named;
      parameters = b.2.parameters ∙ x.parameters ∙ sym f.2.parameters;
      root = node_follows (found_read p) x.root b.2.root f.2.root;
    }

-- A layout is read as it was written, so what extends it when built extends it when read.
pub reread : (xs ys : List TypeIr) → LayoutExtended xs ys → length (write (layout_tree xs)) ≤ 65536 → length (write (layout_tree ys)) ≤ 65536
    → (l l' : Tree) → read_layout (write (layout_tree xs)) ≡ done l → read_layout (write (layout_tree ys)) ≡ done l' → LayoutExtended (layout_of l) (layout_of l')
reread xs ys e a b l l' f g = follows e (layout_read xs l a f) (layout_read ys l' b g)
