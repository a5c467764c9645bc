-- What the quick reader finds, as the definition reads it. Assumes nothing.
use mathlib.Core.Path.{◌≡◌, refl, sym, ◌∙◌, ap}
use mathlib.Core.Bool.{true}
use mathlib.Core.List.{List, [], ◌∷◌}
use Prim.Native.Nat.{ℕ, ◌+◌, ◌-◌, ◌/◌, ◌%◌, ◌<◌, ◌≤◌}
use native.Mathlib.Omega.{arith}
use lib.Dec.{eqb}
use lib.ListN.{get_or}
use borrow.Author.Tests.{le-leb, eqb-true}
use Rattle.errors.specs.Refusal.{Outcome, done, ◌>>=◌, ask}
use Rattle.blocks.specs.declared.Part.{Part}
use Rattle.blocks.specs.declared.Part.TheVariants.{Text, Number, Flag, OptText, Block, Blocks, Values}
use Rattle.blocks.specs.Bytes.{le2, le4}
use Rattle.blocks.specs.Grammar.{parts_of, find_row, grammar, node}
use Rattle.blocks.specs.Read.{Step, Earlier, Reader, read_text, read_number, read_flag, read_optional, read_count, read_entries, read_list, read_part, read_parts, read_header, read_block}
use Rattle.reader_leaf.specs.Answer.{read_of, forget, read_entry, head_of, count_of}
use Rattle.reader_leaf.proofs.Laws.{optional_on, optional_off}
use Rattle.reader_leaf.proofs.Lists.{list_of, entries_none, any_go}
use Rattle.reader.proofs.Blocks.{parts_none, parts_go, block_ok}
use Rattle.ir_nodes.specs.Codes.{part_of, row_of}
use Rattle.ir_nodes.proofs.Rows.{digit as first_digit, no_digit, behind}
use Rattle.std.specs.Prelude.{Option, Some, None, IfSome, Result, Ok, Err}
use Rattle.std.specs.Result.{result_ok}
use Rattle.errors.specs.declared.Unread.{Unread}
use Rattle.std.proofs.lemmas.Option.{IfSome_then}
use Rattle.reader_quick.specs.Quick.{Reads, Sized, Begun, Body, Counted}

-- ---- parts

module _ (rb : Reader) (s : List ℕ) (e : Earlier) (start end : ℕ) where
  -- a part that was read, and then the others
  pub part_then : (p : Part) (ps : List Part) (at : ℕ) {m n : ℕ} → forget (read_part rb s e start end p at) ≡ done m
      → forget (read_parts rb s e start end ps m) ≡ done n → forget (read_parts rb s e start end (p ∷ ps) at) ≡ done n
  part_then p ps at d h = parts_go rb s e start end refl at d ∙ h

  -- the last part
  pub part_last : (p : Part) (at : ℕ) {n : ℕ} → forget (read_part rb s e start end p at) ≡ done n → forget (read_parts rb s e start end (p ∷ []) at) ≡ done n
  part_last p at d = part_then p [] at d (parts_none rb s e start end _ refl)

-- what was read ends where its block does
pub ended : {o : Outcome ℕ} {i stop : ℕ} → o ≡ done i → eqb i stop ≡ true → o ≡ done stop
ended {i = i} {stop} e q = e ∙ ap done (eqb-true i stop q)

-- what reads alike is read alike
pub reads_as : (r : Option ℕ) (x y : Step) → forget x ≡ forget y → Reads r y → Reads r x
reads_as r x y e h = IfSome_then r h (λ n p. e ∙ p)

-- a number that lies inside is read
number_yes : (s : List ℕ) (start end at : ℕ) → at + 8 ≤ end → forget (read_number s start end at) ≡ done (at + 8)
unfolding read_number forget ◌>>=◌ ask
number_yes s start end at h = rw (le-leb _ _ h)

-- ---- blocks

module _ {s : List ℕ} {at end stop : ℕ} (g : Sized s at end stop) where
  -- a length that ends inside, and a kind that may stand there: the header is read
  header_yes : (lo hi k : ℕ) → k ≡ le2 s (at + 4) → lo ≤ k → k ≤ hi → head_of (read_header s lo hi at end) ≡ done (record { kind = k; end = stop })
  unfolding read_header head_of ◌>>=◌ ask
  header_yes lo hi k q l h =
      let u : at + 4 + le4 s at ≤ end = omega arith in
      rw (le-leb _ _ g.head, le-leb _ _ g.least, le-leb _ _ u, ← q, le-leb _ _ l, le-leb _ _ h, g.is)

  -- a block whose parts are read up to its end is read
  pub block_yes : (room : ℕ) (e : Earlier) (lo hi k : ℕ) → k ≡ le2 s (at + 4) → lo ≤ k → k ≤ hi → 0 < room
      → forget (read_parts (read_block (room - 1) s) s e at stop (parts_of k) (at + 6)) ≡ done stop → forget (read_block room s e lo hi at end) ≡ done stop
  block_yes room e lo hi k q l h r d = block_ok s e lo hi at end (header_yes lo hi k q l h) room r d refl

-- ---- lists

module _ {s : List ℕ} {limit at end n : ℕ} (c : Counted s limit at end n) where
  -- a count within its limit is read
  count_yes : (start : ℕ) → count_of (read_count limit s start end at) ≡ done n
  unfolding read_count count_of ◌>>=◌ ask
  count_yes start = rw (← c.is, le-leb _ _ c.inside, le-leb _ _ c.most)

  -- so the list reads as its entries
  pub list_yes : (F : Earlier → ℕ → Step) (e : Earlier) (start : ℕ) → forget (read_list F e limit s start end at) ≡ forget (read_entries F e n (at + 2))
  list_yes F e start = list_of limit s start end at F e (count_yes start)

module _ (room : ℕ) (s : List ℕ) (kind limit end at : ℕ) where
  -- a list of blocks of one kind, of which nothing is asked together
  abbrev blocks : ℕ → Step
  blocks start = read_list (λ f a. read_block room s f kind kind a end) Earlier.any limit s start end at

  -- it reads as those that are left, from i on
  pub record Rest (left i : ℕ) : Type 0 where
    pub same : (start : ℕ) → forget (blocks start) ≡ forget (read_entries (λ f a. read_block room s f kind kind a end) Earlier.any left i)

  -- at first all are left, behind their count
  pub rest_all : {left n : ℕ} → left ≡ n → Counted s limit at end n → Rest left (at + 2)
  rest_all e c = record { same = λ start. rw e (list_yes c (λ f a. read_block room s f kind kind a end) Earlier.any start) }

  module _ {left i : ℕ} (r : Rest left i) where
    -- one is read: the others are left
    pub rest_next : (more : ℕ) {next : ℕ} → left ≡ more + 1 → forget (read_block room s Earlier.any kind kind i end) ≡ done next → Rest more next
    rest_next more h d = record { same = λ start. r.same start ∙ any_go (λ f a. read_block room s f kind kind a end) more i h d }

    -- none is left: the list ends here
    pub rest_none : left ≤ 0 → (start : ℕ) → forget (blocks start) ≡ done i
    rest_none h start = r.same start ∙ entries_none (λ f a. read_block room s f kind kind a end) Earlier.any left i h

-- ---- parameters and arguments

-- the parts of a parameter, from the grammar
parameter_parts : parts_of 162 ≡ Text ∷ OptText ∷ Flag ∷ []
unfolding parts_of find_row grammar
parameter_parts = refl

-- the parts of an argument
argument_parts : parts_of 164 ≡ Text ∷ Text ∷ []
unfolding parts_of find_row grammar
argument_parts = refl

-- a parameter's description and flag are read
pub described_yes : (s : List ℕ) (at end : ℕ) (r : Option ℕ) {i : ℕ} → ((start : ℕ) → forget (read_optional (read_text s start end) 1 s start end at) ≡ done i)
    → ((start : ℕ) → Reads r (read_flag s start end i))
    → (rb : Reader) (e : Earlier) (start : ℕ) → Reads r (read_parts rb s e start end (OptText ∷ Flag ∷ []) at)
unfolding read_part
described_yes s at end r {i} d h rb e start =
    IfSome_then r (h start) (λ n p. part_then rb s e start end OptText (Flag ∷ []) at (d start) (part_last rb s e start end Flag i p))

module _ {s : List ℕ} {kind at end stop i : ℕ} (b : Sized s at end stop × (le2 s (at + 4) ≡ kind)) (d : (start : ℕ) → forget (read_text s start stop (at + 6)) ≡ done i) where
  -- a block that begins with a text, which was read: the other parts decide
  begun : (room : ℕ) (e : Earlier) (ps : List Part) → parts_of kind ≡ Text ∷ ps → 0 < room
      → forget (read_parts (read_block (room - 1) s) s e at stop ps i) ≡ done stop → forget (read_block room s e kind kind at end) ≡ done stop
  unfolding read_part
  begun room e ps h l f = block_yes b.0 room e kind kind kind (sym b.1) (omega arith) (omega arith) l (rw h (part_then _ s e at stop Text ps (at + 6) (d at) f))

  -- a parameter is read
  pub parameter_yes : {j : ℕ} → kind ≡ 162 → ((rb : Reader) (e : Earlier) (start : ℕ) → forget (read_parts rb s e start stop (OptText ∷ Flag ∷ []) i) ≡ done j) → eqb j stop ≡ true
      → (room : ℕ) (e : Earlier) → 0 < room → forget (read_block room s e kind kind at end) ≡ done stop
  parameter_yes k f q room e l = begun room e (OptText ∷ Flag ∷ []) (rw k parameter_parts) l (ended (f (read_block (room - 1) s) e at) q)

  -- an argument is read
  pub argument_yes : {j : ℕ} → kind ≡ 164 → ((start : ℕ) → forget (read_text s start stop i) ≡ done j) → eqb j stop ≡ true
      → (room : ℕ) (e : Earlier) → 0 < room → forget (read_block room s e kind kind at end) ≡ done stop
  unfolding read_part
  argument_yes k f q room e l = begun room e (Text ∷ []) (rw k argument_parts) l (part_last _ s e at stop Text i (ended (f at) q))

-- ---- values and runs

-- the parts of a block of values
values_parts : parts_of 192 ≡ Values 512 ∷ []
unfolding parts_of find_row grammar
values_parts = refl

-- the parts of a run
run_parts : parts_of 193 ≡ Text ∷ Number ∷ Block 192 192 ∷ []
unfolding parts_of find_row grammar
run_parts = refl

-- what the reader has read
pub read_ok : (r : Result ℕ Unread) {o : Outcome ℕ} {i : ℕ} → read_of r ≡ o → Some i ≡ result_ok r → done i ≡ o
read_ok (Ok n) e h = cc
read_ok (Err u) e h = cc

module _ {s : List ℕ} {at end stop : ℕ} (room : ℕ) where
  -- a block of values is read
  pub values_yes : Sized s at end stop × (le2 s (at + 4) ≡ 192) → 0 < room
      → {i : ℕ} → done i ≡ forget (read_list (read_entry true s at stop) (Earlier.ascending [] 0) 512 s at stop (at + 6)) → eqb i stop ≡ true
      → (e : Earlier) → forget (read_block room s e 192 192 at end) ≡ done stop
  unfolding read_part read_entry
  values_yes b l f q e =
      block_yes b.0 room e 192 192 192 (sym b.1) (omega arith) (omega arith) l
      (rw values_parts (part_last (read_block (room - 1) s) s e at stop (Values 512) (at + 6) (ended (sym f) q)))

  -- a run is read
  pub run_yes : Sized s at end stop × (le2 s (at + 4) ≡ 193) → 2 ≤ room → {i j k : ℕ} → ((start : ℕ) → forget (read_text s start stop (at + 6)) ≡ done i)
      → ((start : ℕ) → forget (read_number s start stop i) ≡ done j) → ((e : Earlier) → forget (read_block (room - 1) s e 192 192 j stop) ≡ done k) → eqb k stop ≡ true
      → (e : Earlier) → forget (read_block room s e 193 193 at end) ≡ done stop
  unfolding read_part
  run_yes b l {i} {j} d h v q e =
      let rb = read_block (room - 1) s in
      let last = part_last rb s e at stop (Block 192 192) j (ended (v Earlier.any) q) in
      begun b d room e (Number ∷ Block 192 192 ∷ []) run_parts (omega arith) (part_then rb s e at stop Number (Block 192 192 ∷ []) i (h at) last)

-- ---- cases

-- the parts of a case
case_parts : parts_of 163 ≡ Number ∷ node ∷ Blocks 162 162 512 ∷ []
unfolding parts_of find_row grammar
case_parts = refl

-- a number at the start of a block's parts
number_first : (s : List ℕ) (at stop start : ℕ) → at + 14 ≤ stop → forget (read_number s start stop (at + 6)) ≡ done (at + 14)
number_first s at stop start h = let e : at + 6 + 8 ≡ at + 14 = omega arith in rw e at (number_yes s start stop (at + 6) (omega arith))

-- a case is read
pub case_yes : {s : List ℕ} {at end stop : ℕ} (room : ℕ) → Sized s at end stop × (le2 s (at + 4) ≡ 163) → at + 14 ≤ stop → 2 ≤ room
    → {i j : ℕ} → ((e : Earlier) → forget (read_block (room - 1) s e 128 144 (at + 14) stop) ≡ done i)
    → ((most start : ℕ) → 0 < most → forget (read_list (λ f a. read_block most s f 162 162 a stop) Earlier.any 512 s start stop i) ≡ done j) → eqb j stop ≡ true
    → (e : Earlier) → forget (read_block room s e 163 163 at end) ≡ done stop
unfolding read_part
case_yes {s} {at} {end} {stop} room b h l {i} n p q e =
    let rb = read_block (room - 1) s in
    let last = part_last rb s e at stop (Blocks 162 162 512) i (ended (p (room - 1) at (omega arith)) q) in
    let behind = part_then rb s e at stop node (Blocks 162 162 512 ∷ []) (at + 14) (n Earlier.any) last in
    block_yes b.0 room e 163 163 163 (sym b.1) (omega arith) (omega arith) (omega arith)
    (rw case_parts (part_then rb s e at stop Number (node ∷ Blocks 162 162 512 ∷ []) (at + 6) (number_first s at stop at h) behind))

-- ---- the part of a digit

module _ (room : ℕ) (s : List ℕ) (digit at end : ℕ) where
  -- the part that this digit of a row stands for is read
  abbrev Piece : Option ℕ → Type 0
  Piece r = (e : Earlier) (start : ℕ) → Reads r (read_part (read_block room s) s e start end (part_of digit) at)

  module _ (r : Option ℕ) where
    -- digit 3: a number
    pub number_part : digit ≡ 3 → ((start : ℕ) → Reads r (read_number s start end at)) → Piece r
    unfolding read_part part_of
    number_part k d e start = rw k (d start)

    -- digit 1: a name
    pub text_part : digit ≡ 1 → ((start : ℕ) → Reads r (read_text s start end at)) → Piece r
    unfolding read_part part_of
    text_part k d e start = rw k (d start)

    -- digit 7: an optional name
    pub optional_part : digit ≡ 7 → ((start : ℕ) → Reads r (read_optional (read_text s start end) 1 s start end at)) → Piece r
    unfolding read_part part_of
    optional_part k d e start = rw k (d start)

    -- digit 12: a node
    pub node_part : digit ≡ 12 → ((e : Earlier) → Reads r (read_block room s e 128 144 at end)) → Piece r
    unfolding read_part part_of
    node_part k d e start = rw k (d Earlier.any)

    -- digit 19: cases
    pub cases_part : digit ≡ 19 → ((start : ℕ) → Reads r (read_list (λ f a. read_block room s f 163 163 a end) Earlier.any 64 s start end at)) → Piece r
    unfolding read_part part_of
    cases_part k d e start = rw k (d start)

    -- digit 20: arguments
    pub arguments_part : digit ≡ 20 → 0 < room → ((most start : ℕ) → 0 < most → Reads r (read_list (λ f a. read_block most s f 164 164 a end) Earlier.any 512 s start end at)) → Piece r
    unfolding read_part part_of
    arguments_part k h d e start = rw k (d room start h)

  module _ (k : digit ≡ 14) {i : ℕ} (d : (start : ℕ) → forget (read_flag s start end at) ≡ done i) where
    -- digit 14: a default node that is not there
    pub default_off : get_or s at 0 ≡ 0 → Piece (Some i)
    unfolding read_part part_of
    default_off g e start = rw k (optional_off s start end at _ 1 (d start) (λ o. omega arith))

    -- digit 14: one that is
    pub default_on : get_or s at 0 ≡ 1 → (r : Option ℕ) → ((e : Earlier) → Reads r (read_block room s e 128 144 i end)) → Piece r
    unfolding read_part part_of
    default_on g r h e start = rw k (reads_as r _ _ (optional_on s start end at _ 1 (d start) g) (h Earlier.any))

-- ---- rows

module _ (room : ℕ) (s : List ℕ) (stop : ℕ) where
  -- no part is left: the body ends here
  pub row_none : {row : ℕ} (at : ℕ) → row ≡ 0 → at ≡ stop → Body room s row at stop
  row_none {row} at h q ps r e start = parts_none (read_block room s) s e start stop at (no_digit row ps r h) ∙ ap done q

  module _ {row : ℕ} (at : ℕ) {i : ℕ} (h : row ≡ 0 → ⊥) (d : Piece room s (row % 32) at stop (Some i)) where
    -- a part that was read, and those of the digits behind it
    pub row_go : Body room s (row / 32) i stop → Body room s row at stop
    row_go b ps r e start = let w = first_digit row ps r h in parts_go (read_block room s) s e start stop w.1 at (d e start) ∙ b w.0 w.2 e start

    -- the last part, where it ends the body
    row_last : row / 32 ≡ 0 → i ≡ stop → Body room s row at stop
    row_last k q = row_go (row_none i k q)

  -- two parts, the last of them a node
  pub row_child : {row : ℕ} (at : ℕ) {i : ℕ} → row / 32 ≡ 12 → Piece room s (row % 32) at stop (Some i)
      → ((e : Earlier) → forget (read_block room s e 128 144 i stop) ≡ done stop) → Body room s row at stop
  row_child {row} at {i} k d n =
      row_go at (λ h. omega arith) d (row_last {row = row / 32} i (λ h. omega arith) (node_part room s (row / 32 % 32) i stop (Some stop) (rw k) n) (rw k) refl)

  -- two parts, the first of them a name
  row_named : {row : ℕ} (at : ℕ) {i j : ℕ} → row % 32 ≡ 1 → row / 32 / 32 ≡ 0 → (row / 32 ≡ 0 → ⊥) → ((start : ℕ) → forget (read_text s start stop at) ≡ done i)
      → Piece room s (row / 32 % 32) i stop (Some j) → j ≡ stop → Body room s row at stop
  row_named {row} at {i} k l n d p q = row_go at (λ h. n (rw h)) (text_part room s (row % 32) at stop (Some i) k d) (row_last {row = row / 32} i n p l q)

  -- the rows that are met most
  module _ {row : ℕ} (at : ℕ) where
    -- the row of a constant
    pub const_row : row ≡ 3 → eqb (at + 8) stop ≡ true → Body room s row at stop
    const_row k q =
        let e = eqb-true (at + 8) stop q in
        row_last at (λ y. omega arith) (number_part room s (row % 32) at stop (Some (at + 8)) (rw k) (λ start. number_yes s start stop at (omega arith))) (rw k) e

    module _ {i j : ℕ} (d : (start : ℕ) → forget (read_text s start stop at) ≡ done i) (q : eqb j stop ≡ true) where
      -- the row of a call
      pub call_row : row ≡ 641 → 0 < room
          → ((most start : ℕ) → 0 < most → forget (read_list (λ f a. read_block most s f 164 164 a stop) Earlier.any 512 s start stop i) ≡ done j) → Body room s row at stop
      call_row k h f = row_named at (rw k) (rw k) (λ y. omega arith) d (arguments_part room s (row / 32 % 32) i stop (Some j) (rw k) h f) (eqb-true j stop q)

      -- the row of a field reference
      pub field_row : row ≡ 225 → ((start : ℕ) → forget (read_optional (read_text s start stop) 1 s start stop i) ≡ done j) → Body room s row at stop
      field_row k f = row_named at (rw k) (rw k) (λ y. omega arith) d (optional_part room s (row / 32 % 32) i stop (Some j) (rw k) f) (eqb-true j stop q)

-- ---- nodes

-- a node is read: its head and metadata, then its row
pub node_yes : {s : List ℕ} {at end stop room k c i : ℕ} → Sized s at end stop → Begun s room at stop i → k ≡ le2 s (at + 4) → c ≡ row_of (parts_of k)
    → Body (room - 1) s (c / 1024) i stop → (e : Earlier) → forget (read_block room s e 128 144 at end) ≡ done stop
unfolding read_part
node_yes {s} {at} {end} {stop} {room} {k} g h q r b e =
    let w = behind (omega (arith, q, h.least)) (omega (arith, q, h.most)) r in
    let rb = read_block (room - 1) s in
    let rest = part_then rb s e at stop OptText w.0 (at + 14) (h.read at) (b w.0 w.2 e at) in
    let all = part_then rb s e at stop Number (OptText ∷ w.0) (at + 6) (number_first s at stop at h.inside) rest in
    block_yes g room e 128 144 k q (omega (arith, h.least)) (omega (arith, h.most)) h.allowed (rw w.1 all)

-- the head of a node and its metadata are read
pub begun_yes : (s : List ℕ) (room at stop : ℕ) (r : Option ℕ) → at + 14 ≤ stop → 128 ≤ le2 s (at + 4) → le2 s (at + 4) ≤ 144 → 0 < room
    → ((start : ℕ) → Reads r (read_optional (read_text s start stop) 1 s start stop (at + 14))) → IfSome r (λ next. Begun s room at stop next)
begun_yes s room at stop None h l m z d = tt
begun_yes s room at stop (Some n) h l m z d = record { inside = h; least = l; most = m; allowed = z; read = d }
