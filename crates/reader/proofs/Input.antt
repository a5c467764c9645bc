-- A whole input, as the code sees it.
use mathlib.Core.Path.{◌≡◌, ◌∙◌}
use mathlib.Core.List.{List}
use Prim.Native.Nat.{ℕ}
use native.Mathlib.Omega.{arith}
use lib.Dec.{eqb}
use lib.ListN.{length}
use borrow.Author.Tests.{eq-eqb, ne_eqb}
use Rattle.errors.specs.Refusal.{Refusal, Outcome, done, refused, ◌>>=◌, ask, unread}
use Rattle.blocks.specs.Tree.{Tree}
use Rattle.blocks.specs.Read.{Step, Earlier, read_block, read_input}
use Rattle.reader_leaf.specs.Answer.{forget}
use Rattle.reader.specs.Input.{input_of}
use Rattle.reader.proofs.Lists.{nothing_valid, nothing_here}

-- behind the outermost block
ended : ℕ → Step → Outcome Tree
ended n x = x >>= (λ y. ask (eqb y.1 n) (unread 2 0) >>= (λ u. done y.0))

-- a refused block refuses the input
ended_stop : (n : ℕ) {r : Refusal} (x : Step) → forget x ≡ refused r → input_of n (ended n x) ≡ refused r
unfolding ended forget input_of ◌>>=◌
ended_stop n (done y) e = let z : ◌≡◌ {A = ℕ} 0 1 = cc in absurd (omega arith)
ended_stop n (refused r) e = e

-- a block that ends where the input ends: it is read
ended_ok : (n : ℕ) {m : ℕ} (x : Step) → forget x ≡ done m → m ≡ n → input_of n (ended n x) ≡ done n
unfolding ended forget input_of ◌>>=◌ ask
ended_ok n (done y) e h = let g : y.1 ≡ n = cc in rw (eq-eqb y.1 n g)
ended_ok n (refused r) e h = let z : ◌≡◌ {A = ℕ} 0 1 = cc in absurd (omega arith)

-- a block that ends before it: question 2 refuses the input
ended_rest : (n : ℕ) {m : ℕ} (x : Step) → forget x ≡ done m → (m ≡ n → ⊥) → input_of n (ended n x) ≡ refused (unread 2 0)
unfolding ended forget input_of ◌>>=◌ ask
ended_rest n {m} (done y) e h = let g : m ≡ y.1 = cc in rw (ne_eqb y.1 n (λ k. h (g ∙ k)))
ended_rest n (refused r) e h = let z : ◌≡◌ {A = ℕ} 0 1 = cc in absurd (omega arith)

module _ (room k : ℕ) (s : List ℕ) where
  -- so the outermost block decides: where it is refused
  pub input_stop : {r : Refusal} → forget (read_block room s Earlier.any k k 0 (length s)) ≡ refused r → input_of (length s) (read_input room k s) ≡ refused r
  unfolding read_input ended
  input_stop e = ended_stop (length s) (read_block room s Earlier.any k k 0 (length s)) e

  -- where it is the whole input
  pub input_ok : {m : ℕ} → forget (read_block room s Earlier.any k k 0 (length s)) ≡ done m → m ≡ length s → input_of (length s) (read_input room k s) ≡ done (length s)
  unfolding read_input ended
  input_ok e h = ended_ok (length s) (read_block room s Earlier.any k k 0 (length s)) e h

  -- where bytes stand behind it
  pub input_rest : {m : ℕ} → forget (read_block room s Earlier.any k k 0 (length s)) ≡ done m → (m ≡ length s → ⊥) → input_of (length s) (read_input room k s) ≡ refused (unread 2 0)
  unfolding read_input ended
  input_rest e h = ended_rest (length s) (read_block room s Earlier.any k k 0 (length s)) e h

-- all that an input needs behind its outermost block
pub ruleset steps = (input_stop, input_ok, input_rest, nothing_valid, nothing_here)
