-- The loop's invariant: whatever writes the parameters that are left makes the whole write, the count so far and that of those left make the
-- whole count, and `mine` says whether the name at `known` is the owner's, where one is known.
use Rattle.std.proofs.Common.{ℕ, ◌+◌, ◌*◌, ◌≤◌, ◌≡◌, List, length, drop, IfSome}
use Rattle.blocks.specs.Name.{same}
use Rattle.blocks.specs.Write.{write}
use Rattle.builder.specs.Registry.{owner_parameters}
use Rattle.builder_registry.specs.Words.{held, entries_of}
use Rattle.ir.specs.Layout.{entries_tree, parameter_tree}
use Rattle.wire.specs.Poke.{Wrote}
use Rattle.builder_registry.proofs.put_owned.Given as goal

abbrev pub invariant-loop-i : goal.invariant-loop-i
invariant-loop-i l =
    (l.listed.count ≤ l.i) ×
    (l.fn.at ≤ l.listed.end) ×
    (l.listed.end ≤ l.fn.at + 700 * l.i) ×
    (length l.out ≡ length l.fn.out) ×
    IfSome l.known (λ at. l.mine ≡ same l.owner (held l.s at)) ×
    (length (owner_parameters l.owner (entries_of l.s l.words l.n)) ≡ l.listed.count + length (owner_parameters l.owner (drop l.i (entries_of l.s l.words l.n)))) ×
    ((zs : List ℕ) (r : ℕ) →
    Wrote l.out l.listed.end (write (entries_tree parameter_tree (owner_parameters l.owner (drop l.i (entries_of l.s l.words l.n))))) zs r →
    Wrote l.fn.out l.fn.at (write (entries_tree parameter_tree (owner_parameters l.owner (entries_of l.s l.words l.n)))) zs r)
