-- Lists of blocks that begin with a name each: the first entry of a name.
use mathlib.Core.Path.{◌≡◌, refl, sym, ◌∙◌, ap, subst}
use mathlib.Core.Bool.{true, false, cond}
use mathlib.Core.List.{List, ◌∷◌}
use mathlib.Core.Option.{Option, some, none}
use Prim.Native.Nat.{ℕ, zero, suc, ◌+◌, ◌-◌, ◌≤◌, ◌<◌}
use native.Mathlib.Omega.{arith}
use lib.ListN.{length}
use Rattle.blocks.specs.declared.Part.{Part}
use Rattle.blocks.specs.declared.Part.TheVariants.{Key}
use Rattle.blocks.specs.Bytes.{le2, le4, name_at}
use Rattle.blocks.specs.Name.{Name, same}
use Rattle.blocks.specs.Blocks.{NameIn, block_at, Stand, Passed}
use Rattle.blocks.specs.Grammar.{parts_of}
use Rattle.blocks.specs.Tree.{Tree, name, num, block, nil, cons, body, part, text}
use Rattle.blocks.proofs.Blocks.{behind_first}
use Rattle.accepted.specs.Accepted.{Accepted, tree, Listed}
use Rattle.accepted.proofs.Laws.{opened, key_part, block_entry, none_left}

-- ---- a block that begins with a name

-- every kind from lo to hi begins with a name
abbrev pub Keys : ℕ → ℕ → Type 0
Keys lo hi = (k : ℕ) → lo ≤ k → k ≤ hi → (ps : List Part) × (parts_of k ≡ Key ∷ ps)

-- Such a block: its name and the block behind it lie in the bytes, and the tree has the name that stands there.
pub record Headed {s : List ℕ} {lo hi at : ℕ} (a : Accepted s lo hi at) : Type 0 where
  pub inside : at + 6 + 2 + le2 s (at + 6) ≤ length s
  pub next : at + 4 + le4 s at ≤ length s
  pub named : text (part 0 (body (tree a))) ≡ name_at s (at + 6)

-- every accepted block of such kinds is one
pub headed : {s : List ℕ} {lo hi at : ℕ} (a : Accepted s lo hi at) → Keys lo hi → Headed a
unfolding part
headed {s} {at} a h =
    let o = opened a refl refl in
    let p = h (le2 s (at + 4)) o.least o.most in
    let q = opened a refl p.1 in
    let b = (key_part q.parts).2 in
    record {
      inside = omega (arith, b.inside, q.end, q.high, a.fits);
      next = omega (arith, q.high, a.fits);
      named = ap (λ (z : Tree). text (part 0 (body z))) q.tree ∙ ap (λ (z : Tree). text (part 0 z)) b.tree;
    }

-- the names of an accepted list of such blocks lie inside the bytes
pub stand : {s : List ℕ} {lo hi n at : ℕ} → Keys lo hi → Listed s lo hi n at → Stand s at n
unfolding Stand block_at
stand h l zero k = (headed (block_entry l k).child h).inside
stand {s} {n = n} {at = at} h l (suc j) k =
    subst (λ (o : ℕ). NameIn s (o + 6)) (sym (behind_first s at j)) (stand {n = n - 1} h (block_entry l (omega arith)).after.rest j (omega arith))

-- ---- the first entry of a name

-- the first entry of a name, with its place; i is the place of the first
unfoldable pub first_named : Name → ℕ → Tree → Option (ℕ × Tree)
first_named n i (name m) = none
first_named n i (num w v) = none
first_named n i (block at k t) = none
first_named n i nil = none
first_named n i (cons a b) = cond (same n (text (part 0 (body a)))) (some (i, a)) (first_named n (i + 1) b)

module _ (n m : Name) (i : ℕ) (a u : Tree) (e : text (part 0 (body a)) ≡ m) where
  -- an entry of another name is passed over
  pub other : same n m ≡ false → first_named n i (cons a u) ≡ first_named n (i + 1) u
  unfolding first_named
  other h = rw (e, h)

  -- an entry of the name is the first of it
  pub met : same n m ≡ true → first_named n i (cons a u) ≡ some (i, a)
  unfolding first_named
  met h = rw (e, h)

module _ {s : List ℕ} {lo hi : ℕ} {n : Name} (h : Keys lo hi) where
  -- behind k entries of another name, those that are left decide
  pub behind_passed : {at k q : ℕ} → Passed s n at k q → (m left i j : ℕ) → m ≡ k + left → j ≡ i + k → (l : Listed s lo hi m at) →
      (r : Listed s lo hi left q) × (first_named n i l.got.0 ≡ first_named n j r.got.0)
  behind_passed {at} Passed.none m left i j e f l =
      let z : m ≡ left = omega arith in
      let y : i ≡ j = omega arith in
      subst (λ (c : ℕ). (r : Listed s lo hi c at) × (first_named n i l.got.0 ≡ first_named n j r.got.0)) z (l, ap (λ (c : ℕ). first_named n c l.got.0) y)
  behind_passed {at} (Passed.one t p) m left i j e f l =
      let b = block_entry l (omega arith) in
      let w = behind_passed p (m - 1) left (i + 1) j (omega arith) (omega arith) b.after.rest in
      (w.0, ap (first_named n i) b.after.tree ∙ other n (name_at s (at + 6)) i (tree b.child) b.after.rest.got.0 (headed b.child h).named t ∙ w.1)

  -- where the block behind them has the name, it is the first of it
  pub named_first : {at k q m : ℕ} → Passed s n at k q → k < m → same n (name_at s (q + 6)) ≡ true → (l : Listed s lo hi m at) →
      (a : Accepted s lo hi q) × (first_named n 0 l.got.0 ≡ some (k, tree a))
  named_first {k} {q} {m} p g t l =
      let w = behind_passed p m (m - k) 0 k (omega arith) (omega arith) l in
      let b = block_entry w.0 (omega arith) in
      (b.child, w.1 ∙ ap (first_named n k) b.after.tree ∙ met n (name_at s (q + 6)) k (tree b.child) b.after.rest.got.0 (headed b.child h).named t)

  -- where all have another name, there is none
  pub named_none : {at q m : ℕ} → Passed s n at m q → (l : Listed s lo hi m at) → first_named n 0 l.got.0 ≡ none
  unfolding first_named
  named_none {m} p l =
      let w = behind_passed p m 0 0 m (omega arith) (omega arith) l in
      w.1 ∙ ap (λ (x : Tree × ℕ). first_named n m x.0) (none_left w.0 (omega arith))
