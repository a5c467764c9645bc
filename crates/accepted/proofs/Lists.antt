-- A loop over an accepted list. The list begins at `at` and has n entries; `left` of them are left, from q on.
use mathlib.Core.Path.{◌≡◌, refl, ◌∙◌, ap, subst}
use mathlib.Core.List.{List}
use Prim.Native.Nat.{ℕ, ◌-◌, ◌≤◌}
use Rattle.blocks.specs.Tree.{Tree, nil, cons}
use Rattle.accepted.specs.Accepted.{Item, Entries}
use Rattle.accepted.proofs.Laws.{After, none_left}

-- Of every list that is accepted there: what is left of it is accepted at q, ends where it ends, and R says of the two
-- what the loop has done.
pub record Left (R : Tree → Tree → Type 0) (s : List ℕ) (i : Item) (n at left q : ℕ) : Type 0 where
  pub here : Entries s i left q
  pub whole : (l : Entries s i n at) → (r : Entries s i left q) × R l.got.0 r.got.0 × (l.got.1 ≡ r.got.1)

-- before the first entry all are left
pub starts : {R : Tree → Tree → Type 0} {s : List ℕ} {i : Item} {n at : ℕ} → ((t : Tree) → R t t) → Entries s i n at → Left R s i n at n at
starts h l = record { here = l; whole = λ w. (w, h w.got.0, refl) }

-- one entry t, after which the next begins at r
pub steps : {R Q : Tree → Tree → Type 0} {s : List ℕ} {i : Item} {n at left q r : ℕ} (t : Entries s i left q → Tree) → ((l : Entries s i left q) → After l (t l) r) →
    ((l : Entries s i left q) (w u : Tree) → R w (cons (t l) u) → Q w u) → Left R s i n at left q → Left Q s i n at (left - 1) r
steps {R} t h g l = record {
  here = (h l.here).rest;
  whole = λ w. let m = l.whole w in
      let a = h m.0 in
      (a.rest, g m.0 w.got.0 a.rest.got.0 (subst (λ (z : Tree). R w.got.0 z) a.tree m.1), m.2 ∙ a.stop);
}

-- after the last entry nothing is left, and the list ends there
pub ended : {R : Tree → Tree → Type 0} {s : List ℕ} {i : Item} {n at left q : ℕ} → left ≤ 0 → Left R s i n at left q → (l : Entries s i n at) → R l.got.0 nil × (l.got.1 ≡ q)
ended {R} h l w =
    let m = l.whole w in
    let e = none_left m.0 h in
    (subst (λ (z : Tree). R w.got.0 z) (ap (λ (z : Tree × ℕ). z.0) e) m.1, m.2 ∙ ap (λ (z : Tree × ℕ). z.1) e)
