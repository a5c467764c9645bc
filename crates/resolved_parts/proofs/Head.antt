-- What every type begins with, and where it stands.
use mathlib.Core.Path.{◌≡◌, refl, sym, ◌∙◌, ap, subst}
use mathlib.Core.Bool.{Bool, true, false, cond}
use mathlib.Core.List.{List, ◌∷◌}
use Prim.Native.Nat.{ℕ, ◌+◌, ◌≤◌}
use Rattle.std.specs.Prelude.{Option, Some, None}
use native.Mathlib.Omega.{arith}
use lib.Dec.{eqb}
use lib.ListN.{length, get_or}
use borrow.Author.Tests.{eq-eqb, ne_eqb}
use Rattle.blocks.specs.declared.Part.{Part}
use Rattle.blocks.specs.declared.Part.TheVariants.{Key, Number, Size, Block}
use Rattle.blocks.specs.Bytes.{le2, le4, le8}
use Rattle.blocks.specs.Grammar.{parts_of, find_row, grammar, node_table}
use Rattle.blocks.specs.Tree.{Tree, name, num, block, nil, cons, part, view}
use Rattle.resolved.specs.Resolved.{Size as ResolvedSize, Head, head}
use Rattle.resolved.specs.Set.{size_of, head_of, type_of, thing_of, make_thing, form_of}
use Rattle.accepted.specs.Accepted.{Accepted, tree, Parts, name_at, Optional}
use Rattle.accepted.proofs.Laws.{opened, each, optional_tree, optional_part, key_part, size_part, number_part, block_part}
use Rattle.resolved_parts.specs.Places.{name_end, alignment_at, head_end}
use Rattle.resolved_parts.specs.Types.{Named, HeadAt, sized}
use Rattle.resolved_parts.proofs.Laws.{long, kind_of_lem, named}

-- the size of a type, as it was read
abbrev pub size_tree : List ℕ → ℕ → Tree
size_tree s at = optional_tree s (name_end s at) 0 (num 8 (le8 s (name_end s at + 1)))

-- ---- the name and the size

-- a type's name and size, and where the parts behind them begin
pub record Begun {s : List ℕ} {ps : List Part} (at : ℕ) (c : Parts s (Key ∷ Size ∷ ps) (at + 6)) : Type 0 where
  pub named : Named s (at + 6)
  pub flag : name_end s at + 1 ≤ c.end
  pub small : get_or s (name_end s at) 0 ≤ 1
  pub rest : Parts s ps (alignment_at s at)
  pub end : rest.end ≡ c.end
  pub is : c.got.0 ≡ cons (name (name_at s (at + 6))) (cons (size_tree s at) rest.got.0)

-- every accepted row that begins with a name and a size is such
begun : {s : List ℕ} {ps : List Part} (at : ℕ) (c : Parts s (Key ∷ Size ∷ ps) (at + 6)) → Begun at c
unfolding alignment_at
begun {s} at c =
    let k = key_part c in
    let o = optional_part Optional.size k.2.rest in
    let z = size_part k.2.rest in
    record {
      named = named (omega (arith, k.2.inside, c.fits)) k.0;
      flag = omega (arith, o.inside, k.2.end);
      small = o.small;
      rest = z.rest;
      end = z.end ∙ k.2.end;
      is = k.2.tree ∙ ap (λ (t : Tree). cons (name (name_at s (at + 6))) t) z.tree;
    }

-- the alignment stands behind the size's flag
pub alignment_low : (s : List ℕ) (at : ℕ) → name_end s at + 1 ≤ alignment_at s at
unfolding alignment_at
alignment_low s at = go (eqb (get_or s (name_end s at) 0) 0) (name_end s at + 1)
  where
    go : (b : Bool) (p : ℕ) → p ≤ cond b (p + 8) p
    go true p = omega arith
    go false p = omega arith

-- where the flag says that a number is there, and where it says that none is
pub alignment_far : (s : List ℕ) (at : ℕ) → get_or s (name_end s at) 0 ≡ 0 → alignment_at s at ≡ name_end s at + 1 + 8
unfolding alignment_at
alignment_far s at e = ap (λ (b : Bool). cond b (name_end s at + 1 + 8) (name_end s at + 1)) (eq-eqb _ 0 e)

-- without a number the alignment stands right behind the flag
pub alignment_near : (s : List ℕ) (at : ℕ) → (get_or s (name_end s at) 0 ≡ 0 → ⊥) → alignment_at s at ≡ name_end s at + 1
unfolding alignment_at
alignment_near s at e = ap (λ (b : Bool). cond b (name_end s at + 1 + 8) (name_end s at + 1)) (ne_eqb _ 0 e)

-- the answer of `alignment_at` where the size is constant
pub alignment_is_far : (s : List ℕ) (at : ℕ) {p : ℕ} → p ≡ name_end s at → get_or s p 0 ≡ 0 → p + 1 + 8 ≡ alignment_at s at
alignment_is_far s at e f = omega (arith, e, alignment_far s at (ap (λ (n : ℕ). get_or s n 0) (sym e) ∙ f))

-- the answer of `alignment_at` where the size is variable
pub alignment_is_near : (s : List ℕ) (at : ℕ) {p : ℕ} → p ≡ name_end s at → (get_or s p 0 ≡ 0 → ⊥) → p + 1 ≡ alignment_at s at
alignment_is_near s at e f = omega (arith, e, alignment_near s at (λ g. f (ap (λ (n : ℕ). get_or s n 0) e ∙ g)))

-- the answer of `behind_head`
pub head_end_lem : (s : List ℕ) (at : ℕ) {v u : ℕ} → v ≡ alignment_at s at → u ≡ le4 s (v + 8) → v + 8 + 4 + u ≡ head_end s at
unfolding head_end
head_end_lem s at {v} e f = ap (λ (u : ℕ). v + 8 + 4 + u) f ∙ ap (λ (n : ℕ). n + 8 + 4 + le4 s (n + 8)) e

-- ---- the alignment and the references

-- the alignment and the references block, and where the parts behind them begin
record Ends {s : List ℕ} {ps : List Part} {v : ℕ} (c : Parts s (Number ∷ Block 32 32 ∷ ps) v) : Type 0 where
  references : Accepted s 32 32 (v + 8)
  rest : Parts s ps (v + 8 + 4 + le4 s (v + 8))
  inside : v + 8 + 4 + le4 s (v + 8) ≤ c.end
  end : rest.end ≡ c.end
  is : c.got.0 ≡ cons (num 8 (le8 s v)) (cons references.got.0 rest.got.0)

-- every accepted row that begins with a number and a references block is such
ends : {s : List ℕ} {ps : List Part} {v : ℕ} (c : Parts s (Number ∷ Block 32 32 ∷ ps) v) → Ends c
ends {s} {v} c =
    let n = number_part c in
    let b = block_part n.rest in
    record {
      references = b.child;
      rest = b.behind.rest;
      inside = omega (arith, b.behind.inside, n.end);
      end = b.behind.end ∙ n.end;
      is = n.tree ∙ ap (λ (t : Tree). cons (num 8 (le8 s v)) t) b.behind.tree;
    }

-- ---- a type

-- the parts of a type, t behind its head
abbrev pub head_tree : List ℕ → ℕ → Tree → Tree → Tree
head_tree s at r t = cons (name (name_at s (at + 6))) (cons (size_tree s at) (cons (num 8 (le8 s (alignment_at s at))) (cons r t)))

-- A type of kind k, whose parts behind its head are ps.
pub record Headed {s : List ℕ} {at : ℕ} (k : ℕ) (ps : List Part) (a : Accepted s 1 7 at) : Type 0 where
  pub named : Named s (at + 6)
  pub flag : name_end s at + 1 ≤ length s
  pub small : get_or s (name_end s at) 0 ≤ 1
  pub references : Accepted s 32 32 (alignment_at s at + 8)
  pub rest : Parts s ps (head_end s at)
  pub low : at + 23 ≤ head_end s at
  pub inside : head_end s at ≤ rest.end
  pub end : rest.end ≡ at + 4 + le4 s at
  pub is : a.got.0 ≡ block at k (head_tree s at references.got.0 rest.got.0)

module _ {s : List ℕ} {at k : ℕ} {ps : List Part} (a : Accepted s 1 7 at) where
  -- both halves of the head make the head
  joined : (c : Parts s (Key ∷ Size ∷ Number ∷ Block 32 32 ∷ ps) (at + 6)) → c.end ≡ at + 4 + le4 s at →
      a.got.0 ≡ block at k c.got.0 → (b : Begun at c) → Ends b.rest → Headed k ps a
  unfolding head_end
  joined c e i b d = record {
    named = b.named;
    flag = omega (arith, b.flag, c.fits);
    small = b.small;
    references = d.references;
    rest = d.rest;
    low = omega (arith, alignment_low s at, long d.references);
    inside = omega (arith, d.inside, d.end);
    end = d.end ∙ b.end ∙ e;
    is = i ∙ ap (block at k) (b.is ∙ ap (λ (t : Tree). cons (name (name_at s (at + 6))) (cons (size_tree s at) t)) d.is);
  }

  -- an accepted type whose kind has these parts has a head and they stand behind it
  pub headed : le2 s (at + 4) ≡ k → parts_of k ≡ Key ∷ Size ∷ Number ∷ Block 32 32 ∷ ps → Headed k ps a
  headed ek ep = let o = opened a ek ep in go o.parts o.end o.tree
    where
      go : (c : Parts s (Key ∷ Size ∷ Number ∷ Block 32 32 ∷ ps) (at + 6)) → c.end ≡ at + 4 + le4 s at → a.got.0 ≡ block at k c.got.0 → Headed k ps a
      go c e i = let b = begun at c in joined c e i b (ends b.rest)

-- every type is
pub type_headed : {s : List ℕ} {at : ℕ} (a : Accepted s 1 7 at) → (ps : List Part) × Headed (le2 s (at + 4)) ps a
unfolding parts_of find_row grammar node_table
type_headed {s} {at} a =
    let k = kind_of_lem a in
    let p : (ps : List Part) × (parts_of (le2 s (at + 4)) ≡ Key ∷ Size ∷ Number ∷ Block 32 32 ∷ ps) =
    each (λ k. (ps : List Part) × (parts_of k ≡ Key ∷ Size ∷ Number ∷ Block 32 32 ∷ ps))
    7 1 ((_, refl), ((_, refl), ((_, refl), ((_, refl), ((_, refl), ((_, refl), ((_, refl), tt))))))) (le2 s (at + 4)) k.0 (omega (arith, k.1)) in
    (p.0, headed a refl p.1)

-- the typed view takes the head from the first parts, whatever the kind of the type
head_is : (at : ℕ) (t : Tree) (k : ℕ) → 1 ≤ k → k ≤ 7 → head (type_of (block at k t)) ≡ head_of t
unfolding type_of view thing_of make_thing form_of
head_is at t k a b = each (λ k. head (type_of (block at k t)) ≡ head_of t) 7 1 (refl, (refl, (refl, (refl, (refl, (refl, (refl, tt))))))) k a (omega arith)

-- its head, as the typed view has it
head_got : {s : List ℕ} {at : ℕ} {ps : List Part} (a : Accepted s 1 7 at) (h : Headed (le2 s (at + 4)) ps a) →
    head (type_of (tree a)) ≡ head_of (head_tree s at h.references.got.0 h.rest.got.0)
head_got {s} {at} a h =
    let k = kind_of_lem a in ap (λ (z : Tree). head (type_of z)) h.is ∙
    head_is at (head_tree s at h.references.got.0 h.rest.got.0) (le2 s (at + 4)) k.0 k.1

-- ---- the parts of an accepted type's head lie inside the bytes

module _ {s : List ℕ} {at : ℕ} (a : Accepted s 1 7 at) where
  -- all of them
  pub head_inside : head_end s at ≤ length s
  head_inside = let h = (type_headed a).1 in omega (arith, h.inside, h.rest.fits)

  -- the alignment, and behind it the references block, which has six bytes or more
  pub alignment_inside : alignment_at s at + 14 ≤ length s
  unfolding head_end
  alignment_inside = omega (arith, head_inside, long (type_headed a).1.references)

  -- the size's flag, before them
  pub flag_inside : name_end s at + 1 + 14 ≤ length s
  flag_inside = omega (arith, alignment_inside, alignment_low s at)

pub ruleset insides = (head_inside, alignment_inside, flag_inside)

-- ---- the answers of `type_head`

module _ {s : List ℕ} {at : ℕ} where
  -- the answer of `type_head`, given what the size block means
  pub head_at : {z : Option ℕ} {al q : ℕ} → q ≡ alignment_at s at → al ≡ le8 s q → size_of (size_tree s at) ≡ sized z →
      (a : Accepted s 1 7 at) →
      HeadAt a (record { size = z; alignment = al; references = q + 8 })
  unfolding part
  head_at {z} {al} {q} eq ea ez a =
      let h = (type_headed a).1 in
      let g = head_got a h in
      subst (λ (n : ℕ). HeadAt a (record { size = z; alignment = al; references = n + 8 })) (sym eq) (record {
        named = h.named;
        name = ap (λ (z : Head). z.name) g;
        size = ap (λ (z : Head). z.size) g ∙ ez;
        alignment = ap (λ (z : Head). z.alignment) g ∙ ap (le8 s) (sym eq) ∙ sym ea;
        references = h.references;
        owners = ap (λ (z : Head). z.dynamic_params) g;
        references_at = refl;
      })

-- a size flag of 0 means the number behind it
const_size : (b w : ℕ) → b ≡ 0 → size_of (cons (num 1 b) (cond (eqb b 0) (num 8 w) nil)) ≡ ResolvedSize.Const w
const_size b w e = rw e

-- a size flag of 1 means a variable size
variable_size : (b w : ℕ) → b ≡ 1 → size_of (cons (num 1 b) (cond (eqb b 0) (num 8 w) nil)) ≡ ResolvedSize.Variable
variable_size b w e = rw e

module _ {s : List ℕ} {at q al p : ℕ} (eq : q ≡ alignment_at s at) (ea : al ≡ le8 s q) (ep : p ≡ name_end s at) where
  -- a constant size
  pub head_const : {z : ℕ} → get_or s p 0 ≡ 0 → z ≡ le8 s (p + 1) → (a : Accepted s 1 7 at) →
      HeadAt a (record { size = Some z; alignment = al; references = q + 8 })
  head_const {z} f ez = head_at eq ea
      (const_size (get_or s (name_end s at) 0) (le8 s (name_end s at + 1)) (ap (λ (n : ℕ). get_or s n 0) (sym ep) ∙ f) ∙ ap ResolvedSize.Const (ap (λ (n : ℕ). le8 s (n + 1)) (sym ep) ∙ sym ez))

  -- a variable size
  pub head_variable : (get_or s p 0 ≡ 0 → ⊥) → (a : Accepted s 1 7 at) →
      HeadAt a (record { size = None; alignment = al; references = q + 8 })
  head_variable f a =
      let e : get_or s p 0 ≡ get_or s (name_end s at) 0 = ap (λ (n : ℕ). get_or s n 0) ep in
      let l = (type_headed a).1.small in
      let one : get_or s (name_end s at) 0 ≡ 1 = omega (arith, e, l, f) in
      head_at eq ea (variable_size (get_or s (name_end s at) 0) (le8 s (name_end s at + 1)) one) a
