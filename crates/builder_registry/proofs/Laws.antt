-- What callers of the registry use.
use mathlib.Core.Path.{◌≡◌, refl, sym, ap, ap₂, ◌∙◌}
use Rattle.std.specs.Prelude as std
use Rattle.std.specs.Prelude.{Some, None, Ok}
use Rattle.std.proofs.lemmas.Option.{none-some, same_Some}
use mathlib.Core.List.{List, ◌++◌}
use mathlib.Core.Option.{Option, some, none}
use Prim.Native.Nat.{ℕ, ◌+◌, ◌≤◌, ◌<◌}
use native.Mathlib.Omega.{arith}
use lib.ListN.{length, get_or, length-append}
use borrow.Author.Tests.{le-leb}
use Rattle.errors.specs.Refusal.{Outcome, done}
use Rattle.answers.proofs.Laws.{answered}
use Rattle.blocks.specs.Bytes.{le2, name_at}
use Rattle.blocks.specs.Name.{Name, ascii}
use Rattle.builder.specs.Names.{normalize_path, rsplit_once, qualified, qualify_parent_path}
use Rattle.builder.specs.Registry.{Registry, lookup_name, mark_derived}
use Rattle.builder.specs.Nodes.{lookup_qualified}
use Rattle.resolved_parts.specs.Types.{Named}
use Rattle.builder_registry.specs.declared.Tagged.{Tagged}
use Rattle.builder_registry.specs.Words.{held, entries_of, entry_name, Indexed, Standing, Kept, Tags, Looked}
use Rattle.builder_registry.proofs.Long.{find_long, mark_long, normal_long}

-- a name of an accepted set is held whole
pub held_name : {s : List ℕ} {at : ℕ} → Named s at → held s at ≡ name_at s at
unfolding held
held_name {s} {at} n = rw (le-leb (at + 2 + le2 s at) (length s) n.inside, le-leb (le2 s at) 255 n.short) refl

-- the same words with other entries, and their index
pub standing : {s ws us : List ℕ} {n m : ℕ} → Standing s ws n → length us ≡ length ws → m ≤ 512 → Indexed s us m → Standing s us m
standing a e h i = record { size = a.size; words = rw e a.words; count = h; index = i }

-- ---- what an answer says

-- a change that was not refused gives the registry that the words hold
pub kept_done : {s us : List ℕ} {n : ℕ} {o : Outcome (Unit × Registry)} → Kept s us (Ok n) o → o ≡ done (tt, entries_of s us n)
kept_done k = let a = answered k in a.1 ∙ ap (λ (g : Registry). done (tt, g)) (sym a.2.entries)

-- and leaves the index of it
pub kept_index : {s us : List ℕ} {n : ℕ} {o : Outcome (Unit × Registry)} → Kept s us (Ok n) o → Indexed s us n
kept_index k = (answered k).2.index

-- with a name: that of the entry at the place
pub tags_done : {s us : List ℕ} {r : Tagged} {o : Outcome (Name × Registry)} → Tags s us (Ok r) o →
    (r.at < r.count) × (o ≡ done (entry_name s (get_or us r.at 0), entries_of s us r.count))
tags_done t =
    let a = answered t in
    (a.2.within, a.1 ∙ ap₂ (λ (n : Name) (g : Registry). done (n, g)) a.2.named (sym a.2.entries))

-- and the index
pub tags_index : {s us : List ℕ} {r : Tagged} {o : Outcome (Name × Registry)} → Tags s us (Ok r) o → Indexed s us r.count
tags_index t = (answered t).2.index

-- a name that was found is that of the entry at the place
pub looked_entry : {s ws : List ℕ} {n i : ℕ} {f : std.Option ℕ} {o : Option Name} → f ≡ Some i → Looked s ws n f o → (i < n) × (o ≡ some (entry_name s (get_or ws i 0)))
looked_entry {i} e (Looked.at {i = j} h) = let z : j ≡ i = same_Some j i e in rw (← z) (h, refl)
looked_entry e Looked.missing = absurd (none-some _ e)

-- one that was not found is none
pub looked_missing : {s ws : List ℕ} {n : ℕ} {f : std.Option ℕ} {o : Option Name} → f ≡ None → Looked s ws n f o → o ≡ none
looked_missing e (Looked.at h) = absurd (none-some _ (sym e))
looked_missing e Looked.missing = refl

-- ---- long paths

-- A path of more than 511 bytes has no key in the registry: an owner and a key have at most 255 each.
pub long_lookup : {s ws : List ℕ} {n : ℕ} → Standing s ws n → (owner path : Name) → length owner ≤ 255 → 511 < length path →
    lookup_name owner path (entries_of s ws n) ≡ none
unfolding lookup_name
long_lookup {s} {ws} {n} a owner path h k = rw (find_long (normalize_path owner path) (normal_long owner path h k) owner s ws n)

-- the same for a path qualified by the owner's parent
pub long_qualified : {s ws : List ℕ} {n : ℕ} → Standing s ws n → (owner path : Name) → length owner ≤ 255 → 511 < length path →
    lookup_qualified owner (qualify_parent_path owner path) (entries_of s ws n) ≡ none
unfolding qualify_parent_path
long_qualified {s} {ws} {n} a owner path h k = go (rsplit_once owner)
  where
    go : (t : Option (Name × Name)) → lookup_qualified owner (qualified path t) (entries_of s ws n) ≡ none
    go none = refl
    go (some q) = long_lookup a owner (q.0 ++ (ascii "::" ++ path)) h (omega (arith, length-append q.0 (ascii "::" ++ path)))

-- such a path marks nothing
pub long_mark : {s ws : List ℕ} {n : ℕ} → Standing s ws n → (owner path : Name) → length owner ≤ 255 → 511 < length path →
    mark_derived owner path (entries_of s ws n) ≡ entries_of s ws n
unfolding mark_derived
long_mark {s} {ws} {n} a owner path h k = mark_long (normalize_path owner path) (normal_long owner path h k) owner s ws n
