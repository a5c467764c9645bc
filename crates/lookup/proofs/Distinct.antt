-- The type trees of an accepted layout have distinct names: the block of a name is the first of it, wherever the search began.
use mathlib.Core.Path.{◌≡◌, refl, sym, ◌∙◌, ap, subst}
use mathlib.Core.Bool.{Bool, true, false, not, ◌||◌}
use mathlib.Core.List.{List, [], ◌∷◌}
use mathlib.Core.Option.{some, none}
use Prim.Native.Nat.{ℕ, zero, suc, ◌+◌, ◌≤◌, ◌<◌}
use native.Mathlib.Omega.{arith}
use lib.ListN.{length}
use Rattle.errors.specs.Refusal.{done}
use Rattle.errors.proofs.Laws.{done_one}
use Rattle.blocks.specs.declared.Part.TheVariants.{Distinct}
use Rattle.blocks.specs.Bytes.{le2, le4}
use Rattle.blocks.specs.Name.{Name, same, among}
use Rattle.blocks.specs.Blocks.{block_at}
use Rattle.blocks.specs.Grammar.{parts_of, find_row, grammar, node_table}
use Rattle.blocks.specs.Tree.{Tree, nil, cons, body, part, rest, entries}
use Rattle.blocks.specs.Read.{Earlier, in_order, name_of, read_entries, read_block, read_layout}
use Rattle.blocks.proofs.Name.{false_true, same_eq}
use Rattle.blocks.proofs.Blocks.{behind_first}
use Rattle.accepted.specs.Accepted.{Accepted, tree, Item, name_at, Counted}
use Rattle.accepted.proofs.Read.{both}
use Rattle.accepted.proofs.Laws.{Opened, opened, key_part, Enlisted, list_part, input}
use Rattle.accepted.proofs.Named.{headed, first_named, other, met}
use Rattle.ir.specs.Layout.{type_ir_of, layout_of}
use Rattle.lookup.proofs.Types.{tree_keyed}

-- ---- the list

-- n type trees from an offset on, none with a name of ms, or with one of those before it
pub data Trees (s : List ℕ) : List Name → ℕ → ℕ → Tree → Type 0 where
  no_more : {ms : List Name} {at : ℕ} → Trees s ms zero at nil
  more : {ms : List Name} {n at : ℕ} {u : Tree} (a : Accepted s 161 161 at) → among (name_at s (at + 6)) ms ≡ false →
      Trees s (name_at s (at + 6) ∷ ms) n (at + 4 + le4 s at) u → Trees s ms (suc n) at (cons (tree a) u)

-- what is not so is false; question 6 asks that a name is not among the earlier ones
not_true : (b : Bool) → not b ≡ true → b ≡ false
not_true true e = sym e
not_true false e = refl

-- the name of a type tree, and that question 6 was asked
asked_name : {s : List ℕ} {at : ℕ} (a : Accepted s 161 161 at) {ms : List Name} → a.earlier ≡ Earlier.distinct ms → (name_of (tree a) ≡ name_at s (at + 6)) × (among (name_at s (at + 6)) ms ≡ false)
unfolding parts_of find_row grammar node_table name_of in_order
asked_name {s} {at} a {ms} e =
    let w = opened {k = le2 s (at + 4)} a refl refl in
    let o = opened {k = 161} a (omega (arith, w.least, w.most)) refl in
    let k = key_part o.parts in
    (ap name_of o.tree ∙ ap name_of k.2.tree, not_true _ (ap (λ (f : Earlier). in_order f (name_at s (at + 6))) (sym (o.earlier ∙ e)) ∙ k.1))

-- the type trees that reading a list accepted, front to back
trees_read : (room : ℕ) (s : List ℕ) (end : ℕ) → end ≤ length s → (n : ℕ) (ms : List Name) (at : ℕ) {x : Tree × ℕ} →
    read_entries (λ f q. read_block room s f 161 161 q end) (Earlier.distinct ms) n at ≡ done x → Trees s ms n at x.0
unfolding read_entries
trees_read room s end h zero ms at e = subst (λ (z : Tree × ℕ). Trees s ms zero at z.0) (done_one e) Trees.no_more
trees_read room s end h (suc n) ms at e =
    let b = both (read_block room s (Earlier.distinct ms) 161 161 at end) (λ x. read_entries (λ f q. read_block room s f 161 161 q end) (Earlier.distinct (name_of x.0 ∷ ms)) n x.1) e in
    let a : Accepted s 161 161 at = record { room = room; earlier = Earlier.distinct ms; end = end; got = b.one; fits = h; read = b.one_read } in
    let q = asked_name a refl in
    let r = trees_read room s end h n (name_at s (at + 6) ∷ ms) (at + 4 + le4 s at) (rw (q.0, (opened a refl refl).stop) at b.more_read) in
    subst (λ (z : Tree × ℕ). Trees s ms (suc n) at z.0) (sym b.is) (Trees.more a q.1 r)

-- the type trees of an accepted layout
pub record Whole (s : List ℕ) (t : Tree) : Type 0 where
  pub inside : 8 ≤ length s
  pub few : le2 s 6 ≤ 256
  pub list : Tree
  pub trees : Trees s [] (le2 s 6) 8 list
  pub is : layout_of t ≡ entries type_ir_of list

-- an accepted layout's type trees, with the bounds of its count
pub whole : {s : List ℕ} {t : Tree} → read_layout s ≡ done t → Whole s t
unfolding layout_of part parts_of find_row grammar node_table
whole {s} e =
    let a = input 256 160 s e in
    let w = opened {k = le2 s 4} a.0 refl refl in
    let b = opened {k = 160} a.0 (omega (arith, w.least, w.most)) refl in
    subst (λ (z : Tree × ℕ). Whole s z.0) a.1 (go a.0 b (list_part Counted.distinct b.parts))
  where
    go : (a : Accepted s 160 160 0) (b : Opened 160 (Distinct 161 161 256 ∷ []) a) → Enlisted b.parts (Item.blocks 161 161) 256 (Earlier.distinct []) → Whole s (tree a)
    go a b l = record {
      inside = omega (arith, l.inside, b.parts.fits);
      few = l.few;
      list = l.list.got.0;
      trees = trees_read l.list.room s l.list.end l.list.fits (le2 s 6) [] 8 (rw l.earlier at l.list.read);
      is = ap (λ (z : Tree). entries type_ir_of (rest (part 0 (body z)))) b.tree ∙ ap (λ (z : Tree). entries type_ir_of (rest (part 0 z))) l.behind.tree;
    }

-- ---- the block of a place

-- the block of place i, where it has the name: it is the first of it
pub record Sole (s : List ℕ) (m : Name) (ms : List Name) (i j o : ℕ) (u : Tree) : Type 0 where
  pub new : among m ms ≡ false
  pub child : Accepted s 161 161 o
  pub first : first_named m j u ≡ some (i, tree child)

-- of two that are not so together, neither is
not_either : {a b : Bool} → (a || b) ≡ false → (a ≡ false) × (b ≡ false)
not_either {a = true} e = false_true (sym e)
not_either {a = false} e = (refl, e)

-- a block of the name is the first of it, because no earlier one has the same name
pub only : {s : List ℕ} {ms : List Name} {n at : ℕ} {u : Tree} (m : Name) → Trees s ms n at u → (j k i o : ℕ) →
    i ≡ j + k → o ≡ block_at s at k → k < n → same m (name_at s (o + 6)) ≡ true → Sole s m ms i j o u
unfolding block_at among
only m Trees.no_more j k i o z e h f = absurd (omega arith)
only {s} {ms} {at} m (Trees.more {u} a q r) j zero i o z e h f = subst (λ (p : ℕ). same m (name_at s (p + 6)) ≡ true → Sole s m ms i j p (cons (tree a) u)) (sym e) go f
  where
    go : same m (name_at s (at + 6)) ≡ true → Sole s m ms i j at (cons (tree a) u)
    go g =
        let y : j ≡ i = omega (arith, z) in
        record {
          new = ap (λ (l : Name). among l ms) (same_eq m (name_at s (at + 6)) g) ∙ q;
          child = a;
          first = met m (name_at s (at + 6)) j (tree a) u (headed a tree_keyed).named g ∙ ap (λ (p : ℕ). some (p, tree a)) y;
        }
only {s} {ms} {at} m (Trees.more {u} a q r) j (suc k) i o z e h f =
    let c = only m r (j + 1) k i o (omega (arith, z)) (e ∙ behind_first s at k) (omega arith) f in
    let d = not_either c.new in
    record { new = d.1; child = c.child; first = other m (name_at s (at + 6)) j (tree a) u (headed a tree_keyed).named d.0 ∙ c.first }

-- if no block has the name, none is found
pub absent : {s : List ℕ} {ms : List Name} {n at : ℕ} {u : Tree} (m : Name) → Trees s ms n at u → (j : ℕ) → ((k : ℕ) → k < n → same m (name_at s (block_at s at k + 6)) ≡ false) → first_named m j u ≡ none
unfolding block_at first_named
absent m Trees.no_more j h = refl
absent {s} {at} m (Trees.more {u} a q r) j h =
    other m (name_at s (at + 6)) j (tree a) u (headed a tree_keyed).named (h 0 (omega arith))
    ∙ absent m r (j + 1) (λ k l. ap (λ (o : ℕ). same m (name_at s (o + 6))) (sym (behind_first s at k)) ∙ h (suc k) (omega arith))
