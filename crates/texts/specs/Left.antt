-- What is left of a character that was begun, as the code keeps it.
use Rattle.std.specs.Prelude.{ℕ, zero, suc, Bool, false, ◌&&◌, List, [], ◌∷◌, replicate, Option, Some, None}
use Rattle.std.proofs.Math.Option as grammar
use Rattle.blocks.specs.Utf8.{Form, range, utf8_tail, rest_of}
use Rattle.blocks.specs.Name.{allowed}
use Rattle.texts.specs.declared.Left.{Left}

-- the next byte in its range, then tails
abbrev pub ranges_of : ℕ → ℕ → ℕ → Form
ranges_of zero lo hi = []
ranges_of (suc n) lo hi = range lo hi ∷ replicate n utf8_tail

abbrev pub ranges : Left → Form
ranges l = ranges_of l.count l.low l.high

abbrev pub form : Option Left → grammar.Option Form
form (Some l) = grammar.some (ranges l)
form None = grammar.none

-- whether bytes go on as a form that is left, and are well-formed behind it
abbrev pub well : Form → List ℕ → Bool
well f bs = rest_of f bs && allowed bs

abbrev pub well_behind : grammar.Option Form → List ℕ → Bool
well_behind (grammar.some f) bs = well f bs
well_behind grammar.none bs = false

abbrev pub goes : Option Left → List ℕ → Bool
goes l bs = well_behind (form l) bs
