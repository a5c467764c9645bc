-- Where a part of an accepted node stands.
use Rattle.std.specs.Prelude.{ℕ, zero, suc, ◌+◌, ◌≤◌, ◌≡◌, List, ◌∷◌}
use Rattle.blocks.specs.declared.Part.{Part}
use Rattle.blocks.specs.declared.Part.TheVariants.{Text, Number, OptText, Block, Blocks}
use Rattle.blocks.specs.Bytes.{le4}
use Rattle.blocks.specs.Tree.{Tree, cons, rest, body}
use Rattle.accepted.specs.Accepted.{Accepted, tree, Parts}

-- the parts that stand among the first three of a node
pub data Simple : Part → Type 0 where
  text : Simple Text
  number : Simple Number
  opt_text : Simple OptText
  node : Simple (Block 128 144)

-- the lists that a node has
pub data Listing : Part → Type 0 where
  cases : Listing (Blocks 163 163 64)
  arguments : Listing (Blocks 164 164 512)

-- the parts behind the first begin at q
pub record Next {s : List ℕ} {p : Part} {ps : List Part} {at : ℕ} (c : Parts s (p ∷ ps) at) (q : ℕ) : Type 0 where
  pub rest : Parts s ps q
  pub low : at ≤ q
  pub inside : q ≤ c.end
  pub first : Tree
  pub tree : c.got.0 ≡ cons first rest.got.0
  pub stop : c.got.1 ≡ rest.got.1
  pub room : rest.room ≡ c.room
  pub end : rest.end ≡ c.end

-- what is behind the first i parts
unfoldable pub rests : ℕ → Tree → Tree
rests zero t = t
rests (suc i) t = rests i (rest t)

-- from part i on, the parts of a node are ps, begin at q, and end where the node ends
pub record Located {s : List ℕ} {at : ℕ} (a : Accepted s 128 144 at) (ps : List Part) (i q : ℕ) : Type 0 where
  pub parts : Parts s ps q
  pub tree : rests i (body (tree a)) ≡ parts.got.0
  pub low : at + 6 ≤ q
  pub inside : q ≤ parts.end
  pub room : a.room ≡ suc parts.room
  pub end : parts.end ≡ at + 4 + le4 s at
  pub ended : parts.got.1 ≡ at + 4 + le4 s at
