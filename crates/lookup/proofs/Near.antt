-- The search for a name among an accepted layout's type trees from a place on, and then from the first on.
use mathlib.Core.Path.{◌≡◌, refl, sym, ◌∙◌, ap, subst}
use mathlib.Core.Bool.{Bool, true, false}
use mathlib.Core.List.{List}
use Prim.Native.Nat.{ℕ, ◌+◌, ◌-◌, ◌≤◌, ◌<◌}
use native.Mathlib.Omega.{arith}
use lib.Dec.{ltb}
use borrow.Author.Tests.{ltb-true, ltb-false}
use Rattle.errors.specs.Refusal.{done}
use Rattle.blocks.specs.Bytes.{le2, name_at}
use Rattle.blocks.specs.Name.{Name, same}
use Rattle.blocks.specs.Blocks.{block_at, Stand}
use Rattle.blocks.specs.Tree.{Tree}
use Rattle.blocks.specs.Read.{read_layout}
use Rattle.blocks.proofs.Blocks.{passed_at, passed_not, block_behind, stand_part}
use Rattle.std.specs.Prelude.{Option, Some, None}
use Rattle.wire.specs.declared.Position.{Position}
use Rattle.wire.specs.Named.{BlockNamed}
use Rattle.ir.specs.Ir.{TypeIr}
use Rattle.ir.specs.Layout.{layout_of}
use Rattle.lookup.specs.Named.{Placed}
use Rattle.lookup.specs.Found.{TreeFound}
use Rattle.lookup.proofs.Types.{layout_stands, looked, trees_same}
use Rattle.lookup.proofs.Distinct.{whole, only, absent}

-- the block of a place has another name
abbrev Other : List ℕ → Name → ℕ → Type 0
Other s n k = same n (name_at s (block_at s 8 k + 6)) ≡ false

-- the blocks from a place on are those of the places behind it
shifted : (s : List ℕ) (place from k : ℕ) → from ≡ block_at s 8 place → block_at s from k ≡ block_at s 8 (place + k)
shifted s place from k e = ap (λ (o : ℕ). block_at s o k) e ∙ block_behind s 8 place k

module _ (s : List ℕ) (place from : ℕ) {t : Tree} (e : read_layout s ≡ done t) (h : Placed s place from) where
  -- the names of the type trees from the place on lie inside
  pub stands_behind : (u : ℕ) → u ≡ le2 s 6 → Stand s from (u - place)
  stands_behind u g = stand_part s 8 place (le2 s 6) (u - place) from (layout_stands s (le2 s 6) e refl) h.1 (omega (arith, h.0))

  -- and so do those before it
  pub stands_before : Stand s 8 place
  unfolding block_at
  stands_before = stand_part s 8 0 (le2 s 6) place 8 (layout_stands s (le2 s 6) e refl) refl (omega (arith, h.0))

-- what is promised of an answer
abbrev Answers : List ℕ → Name → Option Position → Type 0
Answers s n r = (t : Tree) → read_layout s ≡ done t → TreeFound s n (layout_of t) r

module _ {s : List ℕ} {n : Name} where
  -- a block that was found is one of those that were searched
  pub found_below : {from m : ℕ} {x : Position} {r : Option Position} → BlockNamed s n from m r → r ≡ Some x → x.place < m
  found_below {from} {m} a g = go (subst (BlockNamed s n from m) g a)
    where
      go : {x : Position} → BlockNamed s n from m (Some x) → x.place < m
      go (BlockNamed.at l p f) = l

  -- a block of the name
  there : {i o : ℕ} → o ≡ block_at s 8 i → i < le2 s 6 → same n (name_at s (o + 6)) ≡ true → Answers s n (Some (record { place = i; at = o }))
  there {i} {o} e h f t d =
      let w = whole d in
      let c = only n w.trees 0 i i o (omega arith) e h f in
      subst (λ (ts : List TypeIr). TreeFound s n ts (Some (record { place = i; at = o }))) (sym w.is) (TreeFound.at {i = i} {o = o} c.child (h, e) (trees_same n 0 w.list ∙ ap looked c.first))

  -- no block of the name
  nowhere : ((k : ℕ) → k < le2 s 6 → Other s n k) → Answers s n None
  nowhere h t d =
      let w = whole d in
      subst (λ (ts : List TypeIr). TreeFound s n ts None) (sym w.is) (TreeFound.missing (trees_same n 0 w.list ∙ ap looked (absent n w.trees 0 h)))

  module _ {place u from : ℕ} (e : u ≡ le2 s 6) (h : Placed s place from) where
    -- the search from the place on has found a block
    pub found_behind : {x : Position} {r : Option Position} → BlockNamed s n from (u - place) r → r ≡ Some x → Answers s n (Some (record { place = place + x.place; at = x.at }))
    found_behind a g = go (subst (BlockNamed s n from (u - place)) g a)
      where
        go : {x : Position} → BlockNamed s n from (u - place) (Some x) → Answers s n (Some (record { place = place + x.place; at = x.at }))
        go (BlockNamed.at {i} l p f) = there (passed_at p ∙ shifted s place from i h.1) (omega (arith, h.0)) f

    -- it has found none: the search from the first on decides
    pub found_before : {r q : Option Position} → BlockNamed s n from (u - place) r → r ≡ None → BlockNamed s n 8 place q → Answers s n q
    found_before a g b = go (behind (subst (BlockNamed s n from (u - place)) g a)) b
      where
        behind : BlockNamed s n from (u - place) None → (k : ℕ) → place ≤ k → k < le2 s 6 → Other s n k
        behind (BlockNamed.missing p) k l x =
            let z : place + (k - place) ≡ k = omega arith in
            rw z at (ap (λ (o : ℕ). same n (name_at s (o + 6))) (sym (shifted s place from (k - place) h.1)) ∙ passed_not p (k - place) (omega arith))

        go : {q : Option Position} → ((k : ℕ) → place ≤ k → k < le2 s 6 → Other s n k) → BlockNamed s n 8 place q → Answers s n q
        go m (BlockNamed.at l p f) = there (passed_at p) (omega (arith, h.0)) f
        go m (BlockNamed.missing p) = nowhere (λ k x. either k x (ltb k place) refl)
          where
            either : (k : ℕ) → k < le2 s 6 → (b : Bool) → ltb k place ≡ b → Other s n k
            either k x true q = passed_not p k (ltb-true k place q)
            either k x false q = m k (ltb-false k place q) x
