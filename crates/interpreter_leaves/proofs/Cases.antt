-- The cases of a Switch, front to back, then its default.
use mathlib.Core.Path.{◌≡◌, refl, sym, ◌∙◌, ap, subst}
use mathlib.Core.Bool.{Bool, cond}
use mathlib.Core.List.{List, [], ◌∷◌}
use mathlib.Core.Option.{some, none}
use Rattle.std.specs.Prelude.{Option}
use Prim.Native.Nat.{ℕ, ◌+◌, ◌-◌, ◌≤◌, ◌<◌}
use native.Mathlib.Omega.{arith}
use lib.Dec.{eqb}
use lib.ListN.{length, get_or}
use borrow.Author.Tests.{eq-eqb, ne_eqb}
use Rattle.blocks.specs.declared.Part.TheVariants.{Block, OptBlock, Blocks}
use Rattle.blocks.specs.Bytes.{le2, le4, le8}
use Rattle.blocks.specs.Grammar.{parts_of, node_table, find_row, grammar}
use Rattle.blocks.specs.Tree.{Tree, num, block, nil, cons, first, rest, number, part, listed, view, item_or}
use Rattle.ir.specs.Ir.{IrNode, IrParameter, SwitchCases, DefaultNode}
use Rattle.ir.specs.Layout.{Thing, form_of, make_thing, thing_of, node_of, cases_in, with_case, parameter_of}
use Rattle.accepted.specs.Accepted.{Accepted, tree, Parts, Listed, Optional, Counted}
use Rattle.accepted.proofs.Laws.{opened, sole_kind, number_part, block_part, optional_part, list_part, block_entry, none_left}
use Rattle.interpreter_context.specs.Located.{Located}
use Rattle.interpreter_context.proofs.Laws.{Standing}
use Rattle.interpreter_context.proofs.Shape.{body_of, part_rests, located, node_in_lem}
use Rattle.interpreter_leaves.specs.Steps.{pick, cases_of, default_of, Picked, PickedAt}

-- ---- a case

-- a case: its node lies inside it, and it stands for its value, that node and its parameters
pub record IsCase {s : List ℕ} {at : ℕ} (c : Accepted s 163 163 at) : Type 0 where
  pub inside : at + 14 ≤ length s
  pub node : Accepted s 128 144 (at + 14)
  pub short : at + 14 + 4 + le4 s (at + 14) ≤ at + 4 + le4 s at
  pub next : at + 4 + le4 s at ≤ length s
  pub parameters : List IrParameter
  pub is : item_or Thing.nothing (view thing_of (tree c)) ≡ Thing.case (le8 s (at + 6)) (node_of (tree node)) parameters

-- what a block 163 stands for, by its parts
case_thing : (at : ℕ) (t : Tree) → item_or Thing.nothing (view thing_of (block at 163 t)) ≡ Thing.case (number (part 0 t)) (node_of (part 1 t)) (listed parameter_of (part 2 t))
unfolding view thing_of form_of make_thing
case_thing at t = ap (λ (n : IrNode). Thing.case (number (part 0 t)) n (listed parameter_of (part 2 t))) (node_in_lem 1 t)

-- the parts of a case behind its value begin at q
abbrev BehindValue : {s : List ℕ} {at : ℕ} → Accepted s 163 163 at → ℕ → Type 0
BehindValue {s} {at} c q =
    (d : Parts s (Block 128 144 ∷ Blocks 162 162 512 ∷ []) q) × (tree c ≡ block at 163 (cons (num 8 (le8 s (at + 6))) d.got.0))
    × (d.end ≡ at + 4 + le4 s at) × (at + 4 + le4 s at ≤ length s) × (q ≤ at + 4 + le4 s at)

-- they stand behind the eight bytes of the value
case_parts : {s : List ℕ} {at q : ℕ} (c : Accepted s 163 163 at) → q ≡ at + 6 + 8 → BehindValue c q
unfolding parts_of find_row grammar
case_parts {s} {at} {q} c e =
    let o = opened c (sole_kind c) refl in
    let b = number_part o.parts in
    subst (BehindValue c) (sym e)
    (b.rest, o.tree ∙ ap (block at 163) b.tree, b.end ∙ o.end, omega (arith, o.high, c.fits), omega (arith, b.inside, o.end))

-- every accepted block 163 is a case
pub case_at : {s : List ℕ} {at : ℕ} (c : Accepted s 163 163 at) → IsCase c
unfolding part
case_at {s} {at} c =
    let e : at + 14 ≡ at + 6 + 8 = omega arith in
    let x = case_parts c e in
    let b = block_part x.0 in
    record {
      inside = omega (arith, x.3, x.4);
      node = b.child;
      short = omega (arith, b.behind.inside, x.2);
      next = x.3;
      parameters = listed parameter_of (part 1 x.0.got.0);
      is = ap (λ (t : Tree). item_or Thing.nothing (view thing_of t)) x.1 ∙ case_thing at (cons (num 8 (le8 s (at + 6))) x.0.got.0)
          ∙ ap (λ (t : Tree). Thing.case (le8 s (at + 6)) (node_of t) (listed parameter_of (part 1 x.0.got.0))) (ap first b.behind.tree);
    }

-- the first case of a list
first_case : (a u : Tree) {v : ℕ} {n : IrNode} {ps : List IrParameter} → item_or Thing.nothing (view thing_of a) ≡ Thing.case v n ps →
    cases_in (view thing_of (cons a u)) ≡ SwitchCases.case v n ps (cases_in (view thing_of u))
unfolding cases_in view
first_case a u e = ap (λ (t : Thing). with_case t (cases_in (view thing_of u))) e

-- ---- the list

-- the cases of a Switch begin at q
pub record SwitchAt {s : List ℕ} {at : ℕ} (a : Accepted s 128 144 at) (q : ℕ) : Type 0 where
  pub inside : q + 2 ≤ length s
  pub list : Listed s 163 163 (le2 s q) (q + 2)
  pub is : rest (part 3 (body_of a)) ≡ list.got.0
  pub end : list.end ≡ at + 4 + le4 s at
  pub low : at + 6 ≤ q

-- what a Switch's part 3 says
switch_parts : {s : List ℕ} {at q : ℕ} {a : Accepted s 128 144 at} → Located a (Blocks 163 163 64 ∷ OptBlock 128 144 ∷ []) 3 q → SwitchAt a q
switch_parts {a} l =
    let e = list_part Counted.any l.parts in
    record {
      inside = omega (arith, e.inside, l.parts.fits);
      list = e.list;
      is = ap rest (part_rests 3 (body_of a) ∙ ap first (l.tree ∙ e.behind.tree));
      end = e.end ∙ l.end;
      low = l.low;
    }

-- they stand where part 3 was found
pub switch_at : {s : List ℕ} {at q : ℕ} → Standing s at 3 q → (a : Accepted s 128 144 at) → le2 s (at + 4) ≡ 132 → SwitchAt a q
unfolding parts_of node_table
switch_at st a k = switch_parts (located 3 st a k refl)

-- what is picked for a number is picked for one that is equal
pub same_tag : {s : List ℕ} {at v w : ℕ} (a : Accepted s 128 144 at) (r : Option ℕ) → v ≡ w → Picked a v r → Picked a w r
same_tag a r e p = subst (λ (v : ℕ). Picked a v r) e p

-- a node that is picked
picked_at : {s : List ℕ} {at v q : ℕ} {a : Accepted s 128 144 at} (c : Accepted s 128 144 q) → le4 s q < le4 s at →
    pick v (cases_of (body_of a)) (default_of (body_of a)) ≡ some (node_of (tree c)) → PickedAt a v q
picked_at c h e = record { node = c; short = h; is = e }

-- ---- the loop: the cases before p have other values

-- Of every list that is accepted there: what is left of it picks the same node.
pub record Tried (s : List ℕ) (v m from left p : ℕ) : Type 0 where
  pub low : from ≤ p
  pub on : (l : Listed s 163 163 m from) → (r : Listed s 163 163 left p) × ((d : DefaultNode) →
      pick v (cases_in (view thing_of l.got.0)) d ≡ pick v (cases_in (view thing_of r.got.0)) d) × (r.end ≡ l.end)

-- the loop begins with all of them
pub begin : {s : List ℕ} {m from left : ℕ} (v : ℕ) → left ≡ m → Tried s v m from left from
begin {s} {m} {from} v e = subst (λ (k : ℕ). Tried s v m from k from) (sym e) (record { low = omega arith; on = λ l. (l, (λ d. refl), refl) })

-- a case of another value is passed over
pick_not : (v t : ℕ) (n : IrNode) (ps : List IrParameter) (cs : SwitchCases) (d : DefaultNode) → (t ≡ v → ⊥) → pick v (SwitchCases.case t n ps cs) d ≡ pick v cs d
unfolding pick
pick_not v t n ps cs d h = rw (ne_eqb t v h)

-- one of the value is picked
pick_this : (v t : ℕ) (n : IrNode) (ps : List IrParameter) (cs : SwitchCases) (d : DefaultNode) → t ≡ v → pick v (SwitchCases.case t n ps cs) d ≡ some n
unfolding pick
pick_this v t n ps cs d h = rw (eq-eqb t v h)

module _ {s : List ℕ} {v m from left p : ℕ} where
  -- the next case
  pub next_case : 0 < left → Tried s v m from left p → Listed s 163 163 m from → (c : Accepted s 163 163 p) × IsCase c
  next_case h t l = let b = block_entry (t.on l).0 h in (b.child, case_at b.child)

  -- it has another value: the loop goes on behind it
  pub another : {u w : ℕ} → 0 < left → u ≡ le8 s (p + 6) → (u ≡ v → ⊥) → w ≡ le4 s p → Tried s v m from left p → Tried s v m from (left - 1) (p + 4 + w)
  another h eu n ew t = subst (λ (w : ℕ). Tried s v m from (left - 1) (p + 4 + w)) (sym ew) (record {
    low = omega (arith, t.low);
    on = λ l.
        let x = t.on l in
        let b = block_entry x.0 h in
        let i = case_at b.child in (
          b.after.rest,
          (λ d. x.1 d ∙ ap (λ (z : Tree). pick v (cases_in (view thing_of z)) d) b.after.tree
              ∙ ap (λ (cs : SwitchCases). pick v cs d) (first_case (tree b.child) b.after.rest.got.0 i.is)
              ∙ pick_not v (le8 s (p + 6)) (node_of (tree i.node)) i.parameters (cases_in (view thing_of b.after.rest.got.0)) d (λ e. n (eu ∙ e))),
          b.after.end ∙ x.2,
        );
  })

  -- it has the value: its node is picked
  pub hit : {at q u : ℕ} → m ≡ le2 s q → from ≡ q + 2 → 0 < left → u ≡ le8 s (p + 6) → u ≡ v → Tried s v m from left p → (a : Accepted s 128 144 at) → SwitchAt a q → PickedAt a v (p + 14)
  hit {at} {q} em ef h eu ev t a w = go m from em ef t
    where
      go : (m from : ℕ) → m ≡ le2 s q → from ≡ q + 2 → Tried s v m from left p → PickedAt a v (p + 14)
      go m from em ef t =
          let t' : Tried s v (le2 s q) (q + 2) left p = subst (λ (f : ℕ). Tried s v (le2 s q) f left p) ef (subst (λ (m : ℕ). Tried s v m from left p) em t) in
          let x = t'.on w.list in
          let b = block_entry x.0 h in
          let i = case_at b.child in
          picked_at i.node (omega (arith, i.short, b.after.inside, x.2, w.end, w.low, t'.low))
          (ap (λ (z : Tree). pick v (cases_in (view thing_of z)) (default_of (body_of a))) w.is ∙ x.1 (default_of (body_of a))
          ∙ ap (λ (z : Tree). pick v (cases_in (view thing_of z)) (default_of (body_of a))) b.after.tree
          ∙ ap (λ (cs : SwitchCases). pick v cs (default_of (body_of a))) (first_case (tree b.child) b.after.rest.got.0 i.is)
          ∙ pick_this v (le8 s (p + 6)) (node_of (tree i.node)) i.parameters (cases_in (view thing_of b.after.rest.got.0)) (default_of (body_of a)) (sym eu ∙ ev))

-- the cases pick nothing
abbrev Unpicked : {s : List ℕ} {at : ℕ} → Accepted s 128 144 at → ℕ → Type 0
Unpicked a v = pick v (cases_of (body_of a)) (default_of (body_of a)) ≡ pick v SwitchCases.no_case (default_of (body_of a))

-- none is left: the default decides
pub ended : {s : List ℕ} {v left p at q : ℕ} → left ≤ 0 → Tried s v (le2 s q) (q + 2) left p → (a : Accepted s 128 144 at) → SwitchAt a q → Unpicked a v
unfolding cases_in view
ended {v} h t a w =
    let x = t.on w.list in
    ap (λ (z : Tree). pick v (cases_in (view thing_of z)) (default_of (body_of a))) w.is ∙ x.1 (default_of (body_of a))
    ∙ ap (λ (z : Tree × ℕ). pick v (cases_in (view thing_of z.0)) (default_of (body_of a))) (none_left x.0 h)

-- ---- the default

-- a Switch has five parts
pub switch_long : {k : ℕ} → k ≡ 132 → 4 ≤ length (parts_of k)
unfolding parts_of node_table
switch_long e = rw e (omega arith)

-- where the cases pick nothing, the default stands at p
pub record Default {s : List ℕ} {at : ℕ} (a : Accepted s 128 144 at) (v p : ℕ) : Type 0 where
  pub parts : Parts s (OptBlock 128 144 ∷ []) p
  pub default : part 4 (body_of a) ≡ first parts.got.0
  pub stop : parts.end ≡ at + 4 + le4 s at
  pub low : at + 6 ≤ p
  pub picks : Unpicked a v

-- it stands where part 4 was found
pub default_at : {s : List ℕ} {at v p : ℕ} → Standing s at 4 p → (a : Accepted s 128 144 at) → le2 s (at + 4) ≡ 132 → Unpicked a v → Default a v p
unfolding parts_of node_table
default_at st a k e =
    let l = located 4 st a k refl in
    record { parts = l.parts; default = part_rests 4 (body_of a) ∙ ap first l.tree; stop = l.end; low = l.low; picks = e }

-- behind the last case the default's flag decides
default_by : (t u : Tree) (f v : ℕ) {b : Bool} → part 4 t ≡ cons (num 1 f) u → eqb f 1 ≡ b →
    pick v SwitchCases.no_case (default_of t) ≡ pick v SwitchCases.no_case (cond b (DefaultNode.or_else (node_of u)) DefaultNode.no_default)
default_by t u f v e h =
    ap (λ (z : Tree). pick v SwitchCases.no_case (cond (eqb (number (first z)) 1) (DefaultNode.or_else (node_of (rest z))) DefaultNode.no_default)) e
    ∙ ap (λ (b : Bool). pick v SwitchCases.no_case (cond b (DefaultNode.or_else (node_of u)) DefaultNode.no_default)) h

module _ {s : List ℕ} {at v p : ℕ} {a : Accepted s 128 144 at} (b : Default a v p) where
  -- the default's flag lies in the bytes
  pub flag_in : p + 1 ≤ length s
  flag_in = let o = optional_part Optional.block b.parts in omega (arith, o.inside, b.parts.fits)

  -- there is a default: it is picked
  pub default_given : get_or s p 0 ≡ 1 → PickedAt a v (p + 1)
  unfolding pick
  default_given h =
      let o = (optional_part Optional.block b.parts).there h in
      let k = block_part o.parts in
      picked_at k.child (omega (arith, k.behind.inside, o.end, b.stop, b.low))
      (b.picks ∙ default_by (body_of a) (first o.parts.got.0) (get_or s p 0) v (b.default ∙ ap first o.tree) (eq-eqb _ _ h)
      ∙ ap (λ (z : Tree). some (node_of (first z))) k.behind.tree)

  -- there is none: nothing is picked
  pub default_absent : (get_or s p 0 ≡ 1 → ⊥) → pick v (cases_of (body_of a)) (default_of (body_of a)) ≡ none
  unfolding pick
  default_absent h =
      let o = (optional_part Optional.block b.parts).absent h in
      b.picks ∙ default_by (body_of a) nil (get_or s p 0) v (b.default ∙ ap first o.tree) (ne_eqb _ _ h)
