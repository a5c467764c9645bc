-- The questions with which a call begins: 19, 1 for each input, then the reading of each. What the code answers of them.
use Rattle.std.specs.Prelude.{ℕ, ◌<◌, ◌≤◌, ◌≡◌, List}
use Rattle.errors.specs.Refusal.{Outcome, done, refused, ◌>>=◌, enough}
use Rattle.blocks.specs.Tree.{Tree}
use Rattle.blocks.specs.Read.{small, read_input, read_layout}

-- with so many working words: before an input is read
unfoldable pub asks : ℕ → List ℕ → Outcome Unit
asks words s = do
  _ ← enough words
  small s

-- one input
unfoldable pub read_call : (List ℕ → Outcome Tree) → ℕ → List ℕ → Outcome Tree
read_call read words s = do
  _ ← enough words
  _ ← small s
  read s

-- a layout, and an input of this kind
unfoldable pub judge : ℕ → List ℕ → List ℕ → ℕ → Outcome (Tree × Tree)
judge words layout input kind = do
  _ ← enough words
  _ ← small layout
  _ ← small input
  l ← read_layout layout
  v ← read_input 2 kind input
  done (l, v)

-- whether the questions were passed: what was read is forgotten
unfoldable pub passed : {A : Type 0} → Outcome A → Outcome Unit
passed (done a) = done tt
passed (refused r) = refused r

-- "The first "no" decides": a reading behind questions
abbrev pub behind : Outcome Unit → Outcome Tree → Outcome Unit
behind asked o = asked >>= (λ _. passed o)

-- the smaller of two numbers
pub record Least (n m r : ℕ) : Type 0 where
  pub fewer : n < m → r ≡ n
  pub enough : m ≤ n → r ≡ m
