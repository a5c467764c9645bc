-- The section "Questions in order": reading goes front to back; 2, 4, 3, 5, 6 are put at each block as its parts are met.
use Rattle.std.specs.Prelude.{ℕ, zero, suc, ◌+◌, ◌-◌, ◌^◌, Bool, true, false, ◌||◌, not, cond, List, [], ◌∷◌, leb, ltb, eqb, length, get_or}
use Rattle.errors.specs.Refusal.{Outcome, done, refused, ◌>>=◌, ask, unread}
use Rattle.blocks.specs.declared.Part.{Part}
use Rattle.blocks.specs.declared.Part.TheVariants.{Text, Key, Number, Flag, Size, OptNumber, OptText, Literal, Block, OptBlock, Blocks, Ascending, Distinct, Names, Paths, Values}
use Rattle.blocks.specs.Bytes.{le2, le4, le8, name_at}
use Rattle.blocks.specs.Name.{Name, is_text, less, among}
use Rattle.blocks.specs.Grammar.{parts_of, within}
use Rattle.blocks.specs.Tree.{Tree, name, num, block, nil, cons, first, body, number, part, kind}

-- what was read, and the offset behind it
abbrev pub Step : Type 0
Step = Outcome (Tree × ℕ)

-- The entries of a list before the one that is read, as far as something is asked of them: their names, the last first,
-- and how many paths these have in all.
pub data Earlier : Type 0 where
  any : Earlier
  ascending : List Name → ℕ → Earlier
  distinct : List Name → Earlier

-- 6: "are names ascending where asked, and the names of a set's or layout's own types [..] distinct?"
unfoldable pub in_order : Earlier → Name → Bool
in_order Earlier.any n = true
in_order (Earlier.ascending [] p) n = true
in_order (Earlier.ascending (m ∷ ms) p) n = less m n
in_order (Earlier.distinct ms) n = not (among n ms)

abbrev pub paths_before : Earlier → ℕ
paths_before Earlier.any = 0
paths_before (Earlier.ascending ms p) = p
paths_before (Earlier.distinct ms) = 0

-- the name of an entry: itself, or its first part
unfoldable pub name_of : Tree → Name
name_of (name n) = n
name_of (num w v) = []
name_of (block at k t) = name_of t
name_of nil = []
name_of (cons a b) = name_of a

-- how many paths an owner (37) has
abbrev pub paths_of : Tree → ℕ
paths_of t = cond (eqb (kind t) 37) (number (first (part 1 (body t)))) 0

-- one entry more
abbrev pub met : Earlier → Tree → Earlier
met Earlier.any t = Earlier.any
met (Earlier.ascending ms p) t = Earlier.ascending (name_of t ∷ ms) (p + paths_of t)
met (Earlier.distinct ms) t = Earlier.distinct (name_of t ∷ ms)

-- ---- parts: s the input, start and end the block's, at where the part begins

-- "A name or a text is a 2-byte length and its bytes"
unfoldable pub read_text : List ℕ → ℕ → ℕ → ℕ → Step
read_text s start end at = do
  _ ← ask (leb (at + 2) end) (unread 2 start)
  _ ← ask (leb (at + 2 + le2 s at) end) (unread 2 start)
  _ ← ask (is_text (name_at s at)) (unread 3 start)
  done (name (name_at s at), at + 2 + le2 s at)

-- a name, then question 6
unfoldable pub read_key : List ℕ → ℕ → ℕ → Earlier → ℕ → Step
read_key s start end e at = do
  x ← read_text s start end at
  _ ← ask (in_order e (name_of x.0)) (unread 6 start)
  done x

-- "a number 8"
unfoldable pub read_number : List ℕ → ℕ → ℕ → ℕ → Step
read_number s start end at = do
  _ ← ask (leb (at + 8) end) (unread 2 start)
  done (num 8 (le8 s at), at + 8)

-- "a flag one byte 0 or 1"
unfoldable pub read_flag : List ℕ → ℕ → ℕ → ℕ → Step
read_flag s start end at = do
  _ ← ask (leb (at + 1) end) (unread 2 start)
  _ ← ask (leb (get_or s at 0) 1) (unread 5 start)
  done (num 1 (get_or s at 0), at + 1)

-- what a flag announces, if it does
unfoldable pub read_if : Bool → (ℕ → Step) → ℕ → Step
read_if true f at = f at
read_if false f at = done (nil, at)

-- a flag, and behind it what is there if the flag is `on`
unfoldable pub read_optional : (ℕ → Step) → ℕ → List ℕ → ℕ → ℕ → ℕ → Step
read_optional f on s start end at = do
  x ← read_flag s start end at
  y ← read_if (eqb (number x.0) on) f x.1
  done (cons x.0 y.0, y.1)

-- "number (two's complement if signed)": the number over 8 bytes, of a signed type of so many bits
abbrev pub signed_in : ℕ → ℕ → Bool
signed_in bits v = ltb v (2 ^ (bits - 1)) || leb (2 ^ 64 - 2 ^ (bits - 1)) v

-- 5: "each literal code and value inside its type": U64, U32, U16, U8, I64, I32, I16, I8
unfoldable pub in_type : ℕ → ℕ → Bool
in_type code v =
    get_or (true ∷ ltb v (2 ^ 32) ∷ ltb v (2 ^ 16) ∷ ltb v (2 ^ 8) ∷ signed_in 64 v ∷ signed_in 32 v ∷ signed_in 16 v ∷ signed_in 8 v ∷ []) code false

-- "64: code 0 to 7 in `LiteralExpr` order, number"
unfoldable pub read_literal : List ℕ → ℕ → ℕ → ℕ → Step
read_literal s start end at = do
  _ ← ask (leb (at + 1) end) (unread 2 start)
  _ ← ask (leb (get_or s at 0) 7) (unread 5 start)
  x ← read_number s start end (at + 1)
  _ ← ask (in_type (get_or s at 0) (number x.0)) (unread 5 start)
  done (cons (num 1 (get_or s at 0)) x.0, x.1)

-- "a list stands behind its count. A count is 2 bytes"; 4: is it at most the limit?
unfoldable pub read_count : ℕ → List ℕ → ℕ → ℕ → ℕ → Step
read_count limit s start end at = do
  _ ← ask (leb (at + 2) end) (unread 2 start)
  _ ← ask (leb (le2 s at) limit) (unread 4 start)
  done (num 2 (le2 s at), at + 2)

-- n entries, one behind the other
unfoldable pub read_entries : (Earlier → ℕ → Step) → Earlier → ℕ → ℕ → Step
read_entries f e zero at = done (nil, at)
read_entries f e (suc n) at = do
  x ← f e at
  y ← read_entries f (met e x.0) n x.1
  done (cons x.0 y.0, y.1)

unfoldable pub read_list : (Earlier → ℕ → Step) → Earlier → ℕ → List ℕ → ℕ → ℕ → ℕ → Step
read_list f e limit s start end at = do
  n ← read_count limit s start end at
  x ← read_entries f e (number n.0) n.1
  done (cons n.0 x.0, x.1)

-- "then name and number each"
unfoldable pub read_value : List ℕ → ℕ → ℕ → Earlier → ℕ → Step
read_value s start end e at = do
  x ← read_key s start end e at
  y ← read_number s start end x.1
  done (cons x.0 y.0, y.1)

-- reads a block of a kind from lo to hi: the entries before it, lo, hi, its offset, its parent's end
abbrev pub Reader : Type 0
Reader = Earlier → ℕ → ℕ → ℕ → ℕ → Step

unfoldable pub read_part : Reader → List ℕ → Earlier → ℕ → ℕ → Part → ℕ → Step
read_part rb s e start end Text at = read_text s start end at
read_part rb s e start end Key at = read_key s start end e at
read_part rb s e start end Number at = read_number s start end at
read_part rb s e start end Flag at = read_flag s start end at
read_part rb s e start end Size at = read_optional (read_number s start end) 0 s start end at
read_part rb s e start end OptNumber at = read_optional (read_number s start end) 1 s start end at
read_part rb s e start end OptText at = read_optional (read_text s start end) 1 s start end at
read_part rb s e start end Literal at = read_literal s start end at
read_part rb s e start end (Block lo hi) at = rb Earlier.any lo hi at end
read_part rb s e start end (OptBlock lo hi) at = read_optional (λ a. rb Earlier.any lo hi a end) 1 s start end at
read_part rb s e start end (Blocks lo hi limit) at = read_list (λ f a. rb f lo hi a end) Earlier.any limit s start end at
read_part rb s e start end (Ascending lo hi limit) at = read_list (λ f a. rb f lo hi a end) (Earlier.ascending [] 0) limit s start end at
read_part rb s e start end (Distinct lo hi limit) at = read_list (λ f a. rb f lo hi a end) (Earlier.distinct []) limit s start end at
read_part rb s e start end (Names limit) at = read_list (read_key s start end) Earlier.any limit s start end at
read_part rb s e start end (Paths limit) at = read_list (read_key s start end) (Earlier.ascending [] 0) (limit - paths_before e) s start end at
read_part rb s e start end (Values limit) at = read_list (read_value s start end) (Earlier.ascending [] 0) limit s start end at

unfoldable pub read_parts : Reader → List ℕ → Earlier → ℕ → ℕ → List Part → ℕ → Step
read_parts rb s e start end [] at = done (nil, at)
read_parts rb s e start end (p ∷ ps) at = do
  x ← read_part rb s e start end p at
  y ← read_parts rb s e start end ps x.1
  done (cons x.0 y.0, y.1)

-- ---- blocks

-- "A block is a 4-byte length that counts what follows it, a 2-byte kind, a body." 2: "does the block lie inside its
-- parent, with a kind that may stand here": the kind, and the offset behind the block
unfoldable pub read_header : List ℕ → ℕ → ℕ → ℕ → ℕ → Outcome (ℕ × ℕ)
read_header s lo hi at end = do
  _ ← ask (leb (at + 6) end) (unread 2 at)
  _ ← ask (leb 2 (le4 s at)) (unread 2 at)
  _ ← ask (leb (at + 4 + le4 s at) end) (unread 2 at)
  _ ← ask (within lo hi (le2 s (at + 4))) (unread 2 at)
  done (le2 s (at + 4), at + 4 + le4 s at)

-- 4: "32 blocks open together in a type set, 256 in a layout": room is how many more may be open. 2: "is its body used up
-- exactly?"
unfoldable pub read_block : ℕ → List ℕ → Reader
read_block zero s e lo hi at end = do
  h ← read_header s lo hi at end
  refused (unread 4 at)
read_block (suc room) s e lo hi at end = do
  h ← read_header s lo hi at end
  x ← read_parts (read_block room s) s e at h.1 (parts_of h.0) (at + 6)
  _ ← ask (eqb x.1 h.1) (unread 2 at)
  done (block at h.0 x.0, h.1)

-- ---- inputs

-- 1: "is each input at most 65,536 bytes?"
unfoldable pub small : List ℕ → Outcome Unit
small s = ask (leb (length s) 65536) (unread 1 0)

-- An outermost block of one kind. "A part beyond its block's end gives 2, and so do bytes behind the outermost block of an
-- input."
unfoldable pub read_input : ℕ → ℕ → List ℕ → Outcome Tree
read_input room k s = do
  x ← read_block room s Earlier.any k k 0 (length s)
  _ ← ask (eqb x.1 (length s)) (unread 2 0)
  done x.0

abbrev pub read_set : List ℕ → Outcome Tree
read_set = read_input 32 36

abbrev pub read_layout : List ℕ → Outcome Tree
read_layout = read_input 256 160

-- "192 values", "193 run": one and two blocks deep, so their room is never used up
abbrev pub read_values : List ℕ → Outcome Tree
read_values = read_input 2 192

abbrev pub read_run : List ℕ → Outcome Tree
read_run = read_input 2 193
