-- The mark of a name: a number below 2 ^ 64. The same bytes have the same mark; other bytes seldom do.
use Rattle.std.specs.Prelude.{ℕ, ◌+◌, ◌*◌, ◌/◌, ◌%◌, List, [], ◌∷◌}

-- the mark with a byte more: a product with the byte in the factor, so that the mark is not linear in the bytes
unfoldable pub step : ℕ → ℕ → ℕ
step h b = h % 4294967296 * (2654435769 + b) + h / 4294967296 + b

-- the mark of a name that stands behind bytes whose mark is h
unfoldable pub mark_of : ℕ → List ℕ → ℕ
mark_of h [] = h
mark_of h (b ∷ bs) = mark_of (step h b) bs
