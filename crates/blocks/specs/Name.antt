-- Names and texts: what question 3 asks of one, and how two are compared.
use Rattle.std.specs.Prelude.{ℕ, Bool, true, false, not, ◌&&◌, ◌||◌, List, [], ◌∷◌, leb, ltb, eqb, length}
use Prim.Native.String.{String, [] as empty, ◌∷◌ as ◌then◌}
use Prim.Native.Char.{code}
use Rattle.blocks.specs.Utf8.{utf8_octets}

-- "A name or a text is a 2-byte length and its bytes": here, its bytes
abbrev pub Name : Type 0
Name = List ℕ

-- a text of these papers or of the Rust, as bytes
abbrev pub ascii : String → Name
ascii empty = []
ascii (c then s) = code c ∷ ascii s

-- "without bytes below 0x20 and without 0x7F"
abbrev pub may_stand : ℕ → Bool
may_stand b = leb 0x20 b && not (eqb b 0x7F)

unfoldable pub allowed : List ℕ → Bool
allowed [] = true
allowed (b ∷ bs) = may_stand b && allowed bs

-- "valid UTF-8 (RFC 3629), without bytes below 0x20 and without 0x7F"
unfoldable pub well_formed : Name → Bool
well_formed n = utf8_octets n && allowed n

-- 3, as document 02, wish 2, reads it; "the limit of 255 bytes is unchanged"
unfoldable pub is_text : Name → Bool
is_text n = leb (length n) 255 && well_formed n

unfoldable pub same : Name → Name → Bool
same [] [] = true
same [] (y ∷ ys) = false
same (x ∷ xs) [] = false
same (x ∷ xs) (y ∷ ys) = eqb x y && same xs ys

-- "ascend strictly in byte order"
unfoldable pub less : Name → Name → Bool
less [] [] = false
less [] (y ∷ ys) = true
less (x ∷ xs) [] = false
less (x ∷ xs) (y ∷ ys) = ltb x y || (eqb x y && less xs ys)

-- whether a name is among others
unfoldable pub among : Name → List Name → Bool
among n [] = false
among n (m ∷ ms) = same n m || among n ms
