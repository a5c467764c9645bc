-- The mark of a name, byte by byte. Assumes nothing.
use Prim.Native.Nat.{ℕ, ◌+◌, ◌*◌, ◌%◌, ◌≤◌, ◌<◌}
use native.Mathlib.Nat.{mul-le-mul}
use native.Mathlib.Omega.{arith}
use mathlib.Core.Path.{◌≡◌, refl}
use mathlib.Core.List.{List, [], ◌∷◌, ◌++◌}
use Rattle.marks.specs.Mark.{step, mark_of}

-- a name in two parts: the mark of the second part, behind the first
pub mark_append : (h : ℕ) (a b : List ℕ) → mark_of h (a ++ b) ≡ mark_of (mark_of h a) b
unfolding mark_of
mark_append h [] b = refl
mark_append h (x ∷ a) b = mark_append (step h x) a b

-- a step does not pass 2 ^ 64: the product in it
pub step_product : (h b : ℕ) → b < 256 → h % 4294967296 * (2654435769 + b) ≤ 11400715909749835080
step_product h b l =
    let x : h % 4294967296 ≤ 4294967295 = omega arith in
    let y : 2654435769 + b ≤ 2654436024 = omega arith in
    let z : h % 4294967296 * (2654435769 + b) ≤ 4294967295 * 2654436024 = mul-le-mul x y in
    omega arith
