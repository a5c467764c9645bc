-- The one pass over the entries: what was written and counted, and what is left.
use mathlib.Core.Path.{◌≡◌, ◌∙◌}
use mathlib.Core.Bool.{Bool, true, false}
use mathlib.Core.List.{List}
use Prim.Native.Nat.{ℕ, ◌+◌, ◌*◌, ◌≤◌, ◌<◌}
use native.Mathlib.Omega.{arith}
use lib.ListN.{length, get_or, replicate, length-replicate, get_or-replicate}
use Rattle.blocks.specs.Bytes.{bytes}
use Rattle.blocks.specs.Write.{write}
use Rattle.accepted.specs.Accepted.{Accepted, tree}
use Rattle.resolved.specs.Set.{type_of}
use Rattle.ir.specs.Layout.{parameter_tree, list_tree}
use Rattle.wire.specs.Poke.{Wrote}
use Rattle.builder.specs.Registry.{into_parameters}
use Rattle.builder.specs.BuildType.{filter_jagged_element_parameters}
use Rattle.marks.specs.Table.{Linked}
use Rattle.marks.proofs.Tables.{linked_none}
use Rattle.std.specs.Prelude.{Option, Some, IfSome}
use Rattle.builder_registry.specs.declared.NameMark.{NameMark}
use Rattle.builder_registry.specs.Words.{entry_of, entries_of}
use Rattle.builder_registry.specs.NameMarks.{OwnerMarked}
use Rattle.builder_parameters.specs.Listed.{lists, marks_of, Jagged}
use Rattle.builder_parameters.specs.Ready.{Ready, ReadyTable}
use Rattle.builder_parameters.proofs.Listed.{left, pass, put, all_put, from_first, Counts, count_pass, count_more, count_end, counted_last, all_placed}

-- i of the n entries were passed
pub record Going (s ws : List ℕ) (n type at : ℕ) (before first table out : List ℕ) (known : Option NameMark) (p count i : ℕ) : Type 0 where
  pub within : i ≤ n
  pub counted : count ≤ i
  pub low : at + 2 ≤ p
  pub high : p ≤ at + 2 + 700 * i
  pub long : length out ≡ length before
  pub room : length table ≡ length first
  pub linked : Linked table (marks_of s ws) i
  pub owner : IfSome known (OwnerMarked s)
  pub counts : (x : Accepted s 1 7 type) → Counts (type_of (tree x)) s ws n i count
  pub writes : (x : Accepted s 1 7 type) (zs : List ℕ) (r : ℕ) → Wrote out p (left (type_of (tree x)) s ws i n) zs r → Wrote before (at + 2) (left (type_of (tree x)) s ws 0 n) zs r

module _ {s ws : List ℕ} {n type at : ℕ} {before first table out : List ℕ} {known : Option NameMark} {p count i : ℕ}
    (g : Going s ws n type at before first table out known p count i) where
  module _ {r : Bool} {known' : NameMark} {table' : List ℕ} (h : i < n) (e : (x : Accepted s 1 7 type) → r ≡ lists (type_of (tree x)) s ws i)
      (o : OwnerMarked s known') (k : Linked table' (marks_of s ws) (i + 1)) (et : length table' ≡ length table) where
    -- an entry that is not listed
    pub going_pass : r ≡ false → Going s ws n type at before first table' out (Some known') p count (i + 1)
    going_pass f = record {
      within = omega arith;
      counted = omega (arith, g.counted);
      low = g.low;
      high = omega (arith, g.high);
      long = g.long;
      room = et ∙ g.room;
      linked = k;
      owner = o;
      counts = λ x. count_pass (type_of (tree x)) s ws count (g.counts x) h (e x) f;
      writes = λ x zs u w. g.writes x zs u (pass (type_of (tree x)) s ws h (e x) f w);
    }

    -- one that is listed
    pub going_put : {out' : List ℕ} {q : ℕ} → r ≡ true →
        Wrote out p (write (parameter_tree (entry_of s (get_or ws i 0)).parameter)) out' q → (p ≤ q) × (q ≤ p + 700) →
        length out' ≡ length out → Going s ws n type at before first table' out' (Some known') q (count + 1) (i + 1)
    going_put f v l eo = record {
      within = omega arith;
      counted = omega (arith, g.counted);
      low = omega (arith, g.low, l.0);
      high = omega (arith, g.high, l.1);
      long = eo ∙ g.long;
      room = et ∙ g.room;
      linked = k;
      owner = o;
      counts = λ x. count_more (type_of (tree x)) s ws count (g.counts x) h (e x) f;
      writes = λ x zs u w. g.writes x zs u (put (type_of (tree x)) s ws h (e x) f v w);
    }

  -- the count is written behind the last entry
  pub going_end : {zs : List ℕ} {q : ℕ} → Ready s ws n type at → n ≤ i → Wrote out at (bytes 2 count) zs q → (x : Accepted s 1 7 type) →
      Wrote before at (write (list_tree parameter_tree (filter_jagged_element_parameters (type_of (tree x)) (into_parameters (entries_of s ws n))))) zs p
  going_end c h v x =
      let t = type_of (tree x) in
      counted_last t s ws n
      (all_placed c.standing)
      (count_end t s ws count (g.counts x) h)
      (from_first t s ws n (g.writes x out p (all_put out p t s ws h))) v

  -- where the list ends
  pub going_high : Ready s ws n type at → (at ≤ p) × (p ≤ at + 400000)
  going_high c = (omega (arith, g.low), omega (arith, g.high, g.within, c.standing.count))

-- a table of zeros is an empty one, with room for the entries
pub table_ready : {s ws : List ℕ} {n type at : ℕ} {jagged : Bool} (m : ℕ) → Ready s ws n type at → Jagged s type jagged → 127 + n ≤ m →
    ReadyTable s ws (replicate m 0) n type jagged at
table_ready {s} {ws} m r h l = record {
  ready = r;
  jagged_is = h;
  empty = linked_none (marks_of s ws) (rw (length-replicate {A = ℕ} m 0) (omega arith)) (λ p b. get_or-replicate {A = ℕ} m p 0 0 (omega arith));
  room = rw (length-replicate {A = ℕ} m 0) l;
}
