-- The search for a block of a name, as the code has it: m is the name that was read, r whether it is the one that is looked for.
use mathlib.Core.Path.{◌≡◌, sym, ◌∙◌, ap, subst}
use mathlib.Core.Bool.{Bool, true, false}
use mathlib.Core.List.{List}
use Prim.Native.Nat.{ℕ, ◌+◌, ◌≤◌, ◌<◌}
use native.Mathlib.Numerals.{add-one}
use native.Mathlib.Omega.{arith}
use Rattle.blocks.specs.Bytes.{le4, name_at}
use Rattle.blocks.specs.Name.{Name, same}
use Rattle.blocks.specs.Blocks.{NameIn, Stand, Passed}
use Rattle.blocks.proofs.Blocks.{passed_at, passed_more}
use Rattle.std.specs.Prelude.{Some, None}
use Rattle.wire.specs.Named.{BlockNamed}

module _ {s : List ℕ} {n : Name} {from i at : ℕ} (p : Passed s n from i at) where
  -- the name of the next block lies inside
  pub next_in : {count : ℕ} → Stand s from count → i < count → NameIn s (at + 6)
  unfolding Stand
  next_in st h = subst (λ (q : ℕ). NameIn s (q + 6)) (sym (passed_at p)) (st i h)

  -- all have another name
  pub never : {count : ℕ} → i ≤ count → count ≤ i → BlockNamed s n from count None
  never {count} h k = let z : i ≡ count = omega arith in BlockNamed.missing (subst (λ (c : ℕ). Passed s n from c at) z p)

  module _ {m : Name} {r : Bool} (f : r ≡ same n m) (e : m ≡ name_at s (at + 6)) where
    -- the next block has the name
    pub hit : {count : ℕ} → i < count → r ≡ true → BlockNamed s n from count (Some (record { place = i; at = at }))
    hit h t = BlockNamed.at h p (ap (same n) (sym e) ∙ sym f ∙ t)

    -- it has another: it is passed
    pub more : {u : ℕ} → r ≡ false → u ≡ le4 s at → Passed s n from (i + 1) (at + 4 + u)
    more t g = rw (add-one i, g) (passed_more p (ap (same n) (sym e) ∙ sym f ∙ t))

pub ruleset searches = (next_in, never, hit, more)
