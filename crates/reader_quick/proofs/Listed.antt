-- Type trees and the list of them. Assumes nothing.
use mathlib.Core.Path.{◌≡◌, refl, sym, ◌∙◌}
use mathlib.Core.Bool.{true}
use mathlib.Core.List.{List, [], ◌∷◌}
use mathlib.Core.Logic.{inr}
use Prim.Native.Nat.{ℕ, ◌+◌, ◌-◌, ◌<◌, ◌≤◌}
use native.Mathlib.Omega.{arith}
use lib.Dec.{eqb}
use lib.ListN.{length}
use Rattle.errors.specs.Refusal.{done}
use Rattle.blocks.specs.declared.Part.TheVariants.{Key, Number, Blocks, Distinct}
use Rattle.blocks.specs.Bytes.{le2}
use Rattle.blocks.specs.Grammar.{parts_of, find_row, grammar, node}
use Rattle.blocks.specs.Read.{Step, Earlier, in_order, read_text, read_number, read_list, read_entries, read_part, read_block, read_input}
use Rattle.reader_leaf.specs.declared.Seen.TheVariants.{Types}
use Rattle.reader_leaf.specs.Answer.{forget}
use Rattle.reader_leaf.specs.Seen.{name_at, names_before, Fresh, Valid, Here, earlier_of, grown_of}
use Rattle.reader_leaf.proofs.Laws.{key_yes}
use Rattle.reader_leaf.proofs.Lists.{entries_none}
use Rattle.reader_leaf.proofs.Distinct.{fresh_order}
use Rattle.reader.specs.Before.{Before}
use Rattle.reader.specs.Input.{input_of}
use Rattle.reader.proofs.Input.{input_ok}
use Rattle.reader.proofs.Lists.{list_go, types_before}
use Rattle.std.specs.Prelude.{Option, Some, None}
use Rattle.std.specs.Option.{option_eq}
use borrow.Author.Tests.{eqb-true}
use Rattle.reader_quick.specs.Quick.{Reads, Sized, Counted}
use Rattle.reader_quick.proofs.Laws.{ended, part_then, part_last, block_yes, list_yes}

-- ---- a tree

-- the parts of a type tree
tree_parts : parts_of 161 ≡ Key ∷ Number ∷ node ∷ Blocks 162 162 512 ∷ []
unfolding parts_of find_row grammar
tree_parts = refl

-- a type tree is read, if its name is in order
pub tree_yes : {s : List ℕ} {at end stop : ℕ} (room : ℕ) → Sized s at end stop × (le2 s (at + 4) ≡ 161) → 2 ≤ room
    → {h i j k : ℕ} → ((start : ℕ) → forget (read_text s start stop (at + 6)) ≡ done h) → ((start : ℕ) → forget (read_number s start stop h) ≡ done i)
    → ((e : Earlier) → forget (read_block (room - 1) s e 128 144 i stop) ≡ done j)
    → ((most start : ℕ) → 0 < most → forget (read_list (λ f a. read_block most s f 162 162 a stop) Earlier.any 512 s start stop j) ≡ done k) → eqb k stop ≡ true
    → (e : Earlier) → in_order e (name_at s (at + 6)) ≡ true → forget (read_block room s e 161 161 at end) ≡ done stop
unfolding read_part
tree_yes {s} {at} {end} {stop} room b l {h} {i} {j} d a n p q e o =
    let rb = read_block (room - 1) s in
    let params = part_last rb s e at stop (Blocks 162 162 512) j (ended (p (room - 1) at (omega arith)) q) in
    let root = part_then rb s e at stop node (Blocks 162 162 512 ∷ []) i (n Earlier.any) params in
    let align = part_then rb s e at stop Number (node ∷ Blocks 162 162 512 ∷ []) h (a at) root in
    let all = part_then rb s e at stop Key (Number ∷ node ∷ Blocks 162 162 512 ∷ []) (at + 6) (key_yes s at stop (at + 6) e (d at) o) align in
    block_yes b.0 room e 161 161 161 (sym b.1) (omega arith) (omega arith) (omega arith) (rw tree_parts all)

-- ---- the list of trees

module _ (room : ℕ) (s : List ℕ) (end : ℕ) where
  -- reads one type tree of the list
  abbrev pub entry : Earlier → ℕ → Step
  entry f a = read_block room s f 161 161 a end

  -- what is left of the list of n trees, whose names are distinct, behind `count` of them
  pub record Going (at n count i : ℕ) : Type 0 where
    pub before : Before s (Types (at + 2) count n) 161 161 i
    pub same : (start : ℕ) → forget (read_list entry (Earlier.distinct []) 256 s start end at) ≡ forget (read_entries entry (earlier_of s (Types (at + 2) count n)) (n - count) i)

  -- before the first tree the whole list is left
  pub going_first : {at n : ℕ} → Counted s 256 at end n → Fresh s (at + 2) n → Going at n 0 (at + 2)
  unfolding earlier_of names_before
  going_first {at} {n} c f = record {
    before = types_before s 161 161 (at + 2) f (inr (refl, refl));
    same = λ start. let z : n - 0 ≡ n = omega arith in rw z (list_yes c entry (Earlier.distinct []) start);
  }

  module _ (fits : end ≤ length s) {at n count i : ℕ} (g : Going at n count i) where
    -- the next name is in order
    going_order : count < n → in_order (earlier_of s (Types (at + 2) count n)) (name_at s (i + 6)) ≡ true
    unfolding earlier_of Valid Here
    going_order l = sym (fresh_order s (at + 2) n count (i + 6) g.before.valid.1 l g.before.here)

    -- a tree was read: what is left behind it
    pub going_next : {next : ℕ} → count < n → ((e : Earlier) → in_order e (name_at s (i + 6)) ≡ true → forget (read_block room s e 161 161 i end) ≡ done next)
        → Going at n (count + 1) next
    unfolding grown_of
    going_next l d =
        let b = d (earlier_of s (Types (at + 2) count n)) (going_order l) in
        let w = list_go room s 161 161 end fits g.before b (n - (count + 1)) {r = Types (at + 2) (count + 1) n} (omega arith) refl in
        record { before = w.0; same = λ start. g.same start ∙ w.1 }

    -- no tree is left: the list ends here
    pub going_last : n ≤ count → (start : ℕ) → forget (read_list entry (Earlier.distinct []) 256 s start end at) ≡ done i
    going_last l start = g.same start ∙ entries_none entry (earlier_of s (Types (at + 2) count n)) (n - count) i (omega arith)

-- names of which more are known to be distinct
pub fresh_part : (s : List ℕ) (first : ℕ) {m n : ℕ} → n ≤ m → Fresh s first m → Fresh s first n
unfolding Fresh
fresh_part s first h f k l = f k (omega arith)

-- ---- the whole

-- the parts of a layout
layout_parts : parts_of 160 ≡ Distinct 161 161 256 ∷ []
unfolding parts_of find_row grammar
layout_parts = refl

-- a layout is read
pub layout_yes : {s : List ℕ} {at end stop : ℕ} (room : ℕ) → Sized s at end stop × (le2 s (at + 4) ≡ 160) → 0 < room
    → {i : ℕ} → ((start : ℕ) → forget (read_list (λ f a. read_block (room - 1) s f 161 161 a stop) (Earlier.distinct []) 256 s start stop (at + 6)) ≡ done i) → eqb i stop ≡ true
    → (e : Earlier) → forget (read_block room s e 160 160 at end) ≡ done stop
unfolding read_part
layout_yes {s} {at} {end} {stop} room b l d q e =
    block_yes b.0 room e 160 160 160 (sym b.1) (omega arith) (omega arith) l
    (rw layout_parts (part_last (read_block (room - 1) s) s e at stop (Distinct 161 161 256) (at + 6) (ended (d at) q)))

-- a block that is the whole input: the input is read
pub input_yes : (room kind : ℕ) (s : List ℕ) (r : Option ℕ) → Reads r (read_block room s Earlier.any kind kind 0 (length s)) → true ≡ option_eq eqb r (Some (length s))
    → done (length s) ≡ input_of (length s) (read_input room kind s)
input_yes room kind s None d e = cc
input_yes room kind s (Some n) d e = sym (input_ok room kind s d (eqb-true n (length s) (sym e)))
