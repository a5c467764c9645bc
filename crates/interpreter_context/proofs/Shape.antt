-- What a located part of a node says of the node.
use mathlib.Core.Path.{◌≡◌, refl, sym, ◌∙◌, ap}
use mathlib.Core.Bool.{cond}
use mathlib.Core.List.{List, ◌∷◌}
use mathlib.Core.Option.{some, none}
use Prim.Native.Nat.{ℕ, zero, suc, ◌+◌, ◌≤◌, ◌<◌}
use native.Mathlib.Omega.{arith}
use lib.Dec.{eqb}
use lib.ListN.{length, get_or, drop}
use borrow.Author.Tests.{ne_eqb}
use Rattle.blocks.specs.declared.Part.{Part}
use Rattle.blocks.specs.declared.Part.TheVariants.{Text, Number, OptText, Block, Blocks}
use Rattle.blocks.specs.Bytes.{le2, le4, le8}
use Rattle.blocks.specs.Grammar.{parts_of}
use Rattle.blocks.specs.Tree.{Tree, name, num, block, nil, cons, View, first, rest, body, number, text, part, optional, view, first_view, rest_view, item_or, part_or, part_view}
use Rattle.ir.specs.Ir.{DefaultNode}
use Rattle.ir.specs.Layout.{Thing, Form, form_of, as_node, make_thing, thing_of, node_of, node_in, default_in, cases_in}
use Rattle.accepted.specs.Accepted.{Accepted, tree, Listed, name_at, Optional, Counted}
use Rattle.accepted.proofs.Laws.{opened, text_part, number_part, optional_part, block_part, list_part}
use Rattle.interpreter_context.specs.Located.{rests, Located}
use Rattle.interpreter_context.proofs.Laws.{Standing}

-- ---- a part

-- a part is the first of what is behind those before it
pub part_rests : (i : ℕ) (t : Tree) → part i t ≡ first (rests i t)
unfolding part rests
part_rests zero t = refl
part_rests (suc i) t = part_rests i (rest t)

-- the parts of a node that was accepted
abbrev pub body_of : {s : List ℕ} {at : ℕ} → Accepted s 128 144 at → Tree
body_of a = body (tree a)

module _ {s : List ℕ} {at : ℕ} {a : Accepted s 128 144 at} {ps : List Part} {i q : ℕ} where
  -- so a located part is the first of the parts there
  part_is : {p : Part} {t u : Tree} (l : Located a (p ∷ ps) i q) → l.parts.got.0 ≡ cons t u → part i (body_of a) ≡ t
  part_is l e = part_rests i (body_of a) ∙ ap first (l.tree ∙ e)

  -- a text: its bytes, and that it is the name there
  pub text_at : Located a (Text ∷ ps) i q → (q + 2 + le2 s q ≤ length s) × (text (part i (body_of a)) ≡ name_at s q)
  text_at l = let b = (text_part l.parts).1 in (omega (arith, b.inside, l.parts.fits), ap text (part_is l b.tree))

  -- a number: its bytes, and its value
  pub number_at : Located a (Number ∷ ps) i q → (q + 8 ≤ length s) × (number (part i (body_of a)) ≡ le8 s q)
  number_at l = let b = number_part l.parts in (omega (arith, b.inside, l.parts.fits), ap number (part_is l b.tree))

  -- a node inside, which is shorter
  pub child_at : Located a (Block 128 144 ∷ ps) i q → (c : Accepted s 128 144 q) × (node_of (part i (body_of a)) ≡ node_of (tree c)) × (le4 s q < le4 s at) × (q + 4 + le4 s q ≤ length s)
  child_at l = let b = block_part l.parts in (b.child, ap node_of (part_is l b.behind.tree), omega (arith, b.behind.inside, l.end, l.low), omega (arith, b.behind.inside, l.parts.fits))

-- an optional text
pub record MaybeText {s : List ℕ} {at : ℕ} (a : Accepted s 128 144 at) (i q : ℕ) : Type 0 where
  pub flag : q + 1 ≤ length s
  pub given : get_or s q 0 ≡ 1 → (q + 1 + 2 + le2 s (q + 1) ≤ length s) × (optional text (part i (body_of a)) ≡ some (name_at s (q + 1)))
  pub plain : (get_or s q 0 ≡ 1 → ⊥) → optional text (part i (body_of a)) ≡ none

-- a flag of 1 announces the text
some_text : (v : ℕ) (t : Tree) → v ≡ 1 → optional text (cons (num 1 v) t) ≡ some (text t)
some_text v t e = rw e

-- another does not
no_text : (v : ℕ) (t : Tree) → (v ≡ 1 → ⊥) → optional text (cons (num 1 v) t) ≡ none
no_text v t e = rw (ne_eqb v 1 e)

-- a located optional text is one
pub maybe_text : {s : List ℕ} {at : ℕ} {a : Accepted s 128 144 at} {ps : List Part} {i q : ℕ} → Located a (OptText ∷ ps) i q → MaybeText a i q
maybe_text {s} {q} l =
    let o = optional_part Optional.text l.parts in
    record {
      flag = omega (arith, o.inside, l.parts.fits);
      given = λ h. let t = o.there h in
          let b = (text_part t.parts).1 in (
            omega (arith, b.inside, t.parts.fits),
            ap (optional text) (part_is l t.tree) ∙ some_text (get_or s q 0) (first t.parts.got.0) h
                ∙ ap (λ (z : Tree). some (text (first z))) b.tree,
          );
      plain = λ h. ap (optional text) (part_is l (o.absent h).tree) ∙ no_text (get_or s q 0) nil h;
    }

-- a list of blocks, and where it stops
pub record ListAt {s : List ℕ} {at : ℕ} (a : Accepted s 128 144 at) (lo hi i q : ℕ) : Type 0 where
  pub inside : q + 2 ≤ length s
  pub list : Listed s lo hi (le2 s q) (q + 2)
  pub is : rest (part i (body_of a)) ≡ list.got.0
  pub end : list.end ≡ at + 4 + le4 s at
  pub low : at + 6 ≤ q

-- a located list is one
pub list_at : {s : List ℕ} {at : ℕ} {a : Accepted s 128 144 at} {ps : List Part} {lo hi limit i q : ℕ} → Located a (Blocks lo hi limit ∷ ps) i q → ListAt a lo hi i q
list_at l =
    let e = list_part Counted.any l.parts in
    record {
      inside = omega (arith, e.inside, l.parts.fits);
      list = e.list;
      is = ap rest (part_is l e.behind.tree);
      end = e.end ∙ l.end;
      low = l.low;
    }

-- ---- a node

-- what a tree's blocks stand for, its first part
view_first : {A : Type 0} (m : Tree → View A → A) (t : Tree) → first_view (view m t) ≡ view m (first t)
unfolding view
view_first m (name n) = refl
view_first m (num w v) = refl
view_first m (block at k t) = refl
view_first m nil = refl
view_first m (cons a b) = refl

-- and the parts behind it
view_rest : {A : Type 0} (m : Tree → View A → A) (t : Tree) → rest_view (view m t) ≡ view m (rest t)
unfolding view
view_rest m (name n) = refl
view_rest m (num w v) = refl
view_rest m (block at k t) = refl
view_rest m nil = refl
view_rest m (cons a b) = refl

-- and any of its parts
view_part : {A : Type 0} (m : Tree → View A → A) (i : ℕ) (t : Tree) → part_view i (view m t) ≡ view m (part i t)
unfolding part_view part
view_part m zero t = view_first m t
view_part m (suc i) t = ap (part_view i) (view_rest m t) ∙ view_part m i (rest t)

-- the block in a part
part_or_lem : {A : Type 0} (d : A) (m : Tree → View A → A) (i : ℕ) (t : Tree) → part_or d i (view m t) ≡ item_or d (view m (part i t))
unfolding part_or part
part_or_lem d m zero t = ap (item_or d) (view_first m t)
part_or_lem d m (suc i) t = ap (part_or d i) (view_rest m t) ∙ part_or_lem d m i (rest t)

-- the node in a part
pub node_in_lem : (i : ℕ) (t : Tree) → node_in i (view thing_of t) ≡ node_of (part i t)
unfolding node_of
node_in_lem i t = ap as_node (part_or_lem Thing.nothing thing_of i t)

-- the cases in a part
pub cases_in_lem : (i : ℕ) (t : Tree) → cases_in (rest_view (part_view i (view thing_of t))) ≡ cases_in (view thing_of (rest (part i t)))
cases_in_lem i t = ap (λ (v : View Thing). cases_in (rest_view v)) (view_part thing_of i t) ∙ ap cases_in (view_rest thing_of (part i t))

-- the default node in a part
pub default_in_lem : (i : ℕ) (t : Tree) →
    default_in (part i t) (part_view i (view thing_of t)) ≡ cond (eqb (number (first (part i t))) 1) (DefaultNode.or_else (node_of (rest (part i t)))) DefaultNode.no_default
unfolding node_of
default_in_lem i t = ap (λ (v : View Thing). default_in (part i t) v) (view_part thing_of i t)
    ∙ ap (λ (v : View Thing). cond (eqb (number (first (part i t))) 1) (DefaultNode.or_else (as_node (item_or Thing.nothing v))) DefaultNode.no_default) (view_rest thing_of (part i t))

-- a node by its form
pub node_is : {s : List ℕ} {at k : ℕ} {f : Form} (a : Accepted s 128 144 at) → le2 s (at + 4) ≡ k → form_of k ≡ f → node_of (tree a) ≡ as_node (make_thing f at (body_of a) (view thing_of (body_of a)))
unfolding node_of view thing_of
node_is {at} {f} a ek ef =
    let o = opened a ek refl in
    ap node_of o.tree ∙ ap (λ (g : Form). as_node (make_thing g at o.parts.got.0 (view thing_of o.parts.got.0))) ef
    ∙ ap (λ (t : Tree). as_node (make_thing f at (body t) (view thing_of (body t)))) (sym o.tree)

-- a part of a node of a known kind
pub located : {s : List ℕ} {at q k : ℕ} {ps : List Part} (i : ℕ) → Standing s at i q → (a : Accepted s 128 144 at) → le2 s (at + 4) ≡ k → drop i (parts_of k) ≡ ps → Located a ps i q
located i st a ek e = st a _ (ap (λ (k : ℕ). drop i (parts_of k)) ek ∙ e)
