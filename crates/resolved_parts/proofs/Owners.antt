-- The first owner of a name in a references block.
use mathlib.Core.Path.{◌≡◌, refl, sym, ◌∙◌, ap}
use mathlib.Core.Bool.{Bool, true, false, cond}
use mathlib.Core.List.{List, ◌∷◌}
use mathlib.Core.Option.{some, none}
use mathlib.Core.Option as math
use Rattle.std.specs.Prelude.{Option, Some, None}
use Prim.Native.Nat.{ℕ, zero, suc, ◌+◌, ◌≤◌, ◌<◌}
use native.Mathlib.Omega.{arith}
use lib.ListN.{length}
use Rattle.blocks.specs.declared.Part.{Part}
use Rattle.blocks.specs.declared.Part.TheVariants.{Key}
use Rattle.blocks.specs.Bytes.{le2, le4, name_at}
use Rattle.blocks.specs.Name.{Name, same}
use Rattle.blocks.specs.Blocks.{Stand, Passed}
use Rattle.blocks.specs.Grammar.{parts_of, find_row, grammar, node_table}
use Rattle.blocks.specs.Tree.{Tree, body, part, text, entries}
use Rattle.wire.specs.declared.Position.{Position}
use Rattle.wire.specs.Named.{BlockNamed}
use Rattle.resolved.specs.Resolved.{Owner, get}
use Rattle.resolved.specs.Set.{owner_of}
use Rattle.accepted.specs.Accepted.{Accepted, tree, Item, Counted}
use Rattle.accepted.proofs.Laws.{Sole, sole, each, All, all_entries}
use Rattle.accepted.proofs.Named.{Keys, headed, first_named, stand, named_first, named_none}
use Rattle.resolved_parts.specs.Places.{name_end}
use Rattle.resolved_parts.specs.Types.{OwnerAt, PathsAt, PathsFound, paths_from, paths_in, owners_of, texts_of}
use Rattle.resolved_parts.proofs.Fields.{owner_at}

-- ---- the owners of a references block

-- an owner begins with its name
owner_keyed : Keys 37 37
unfolding parts_of find_row grammar node_table
owner_keyed k a b = each (λ k. (ps : List Part) × (parts_of k ≡ Key ∷ ps)) 1 37 ((_, refl), tt) k a (omega arith)

-- a references block is a list of owners
pub listed : {s : List ℕ} {b : ℕ} (a : Accepted s 32 32 b) → Sole a (Item.blocks 37 37) 64
unfolding parts_of find_row grammar node_table
listed a = sole a refl Counted.ascending

-- its owners are the entries of that list
owners_are : {s : List ℕ} {b : ℕ} (a : Accepted s 32 32 b) → owners_of (tree a) ≡ entries owner_of (listed a).list.got.0
owners_are a = ap (entries owner_of) (listed a).tree

-- the count of its owners lies inside the bytes
pub references_inside : {s : List ℕ} {b : ℕ} → Accepted s 32 32 b → b + 6 + 2 ≤ length s
references_inside a = (listed a).inside

-- and so do their names; u is the count that was read, f the offset behind it
pub owners_stand : {s : List ℕ} {b u f : ℕ} → Accepted s 32 32 b → u ≡ le2 s (b + 6) → f ≡ b + 6 + 2 → Stand s f u
owners_stand {s} {b} a g e = rw (g, e) (stand owner_keyed (listed a).list)

-- ---- the paths of the first block of a name are those of the first owner of it

-- the owner that a block stands for has the block's name
abbrev Titled : Tree → Type 0
Titled u = (owner_of u).name ≡ text (part 0 (body u))

-- which holds of every accepted owner
titled : {s : List ℕ} (at : ℕ) (a : Accepted s 37 37 at) → Titled a.got.0
titled at a = ap (λ (o : Owner). o.name) (owner_at refl a).is ∙ sym (headed a owner_keyed).named

-- the paths of the block that was found
abbrev paths_of : math.Option (ℕ × Tree) → math.Option (List Name)
paths_of none = none
paths_of (some x) = some (owner_of x.1).paths

-- the first owner of a name is the one of the first block of it
owners_same : (n : Name) (i : ℕ) {u : Tree} → All Titled u → get n (entries owner_of u) ≡ paths_of (first_named n i u)
unfolding get first_named entries
owners_same n i All.none = refl
owners_same n i (All.more {a} {b} h g) = rw h (go (same n (text (part 0 (body a)))) (owners_same n (i + 1) g))
  where
    go : (t : Bool) → get n (entries owner_of b) ≡ paths_of (first_named n (i + 1) b) →
        cond t (some (owner_of a).paths) (get n (entries owner_of b)) ≡ paths_of (cond t (some (i, a)) (first_named n (i + 1) b))
    go true e = refl
    go false e = e

module _ {s : List ℕ} {n : Name} where
  -- where they stand: behind the name of the block behind those of another name
  paths_at : {at k q : ℕ} (m : ℕ) → Passed s n at k q → k < m → same n (name_at s (q + 6)) ≡ true →
      paths_from s n m at ≡ Some (name_end s q)
  unfolding paths_from
  paths_at zero p h t = absurd (omega arith)
  paths_at (suc m) Passed.none h t = rw t
  paths_at {at = at} (suc m) (Passed.one e p) h t = rw e (paths_at {at = at + 4 + le4 s at} m p (omega arith) t)

  -- or nowhere
  paths_none : {at m q : ℕ} → Passed s n at m q → paths_from s n m at ≡ None
  unfolding paths_from
  paths_none Passed.none = refl
  paths_none (Passed.one e p) = rw e (paths_none p)

-- ---- in the code's form: u is the count that was read, f the offset behind it

-- what `get` promises of its answer
abbrev Answers : List ℕ → ℕ → Name → Option ℕ → Type 0
Answers s b n r = record { paths_found : (a : Accepted s 32 32 b) → PathsFound s n (owners_of (tree a)) r; value : r ≡ paths_in s n b }

module _ {s : List ℕ} (b : ℕ) {n : Name} {u f : ℕ} (g : u ≡ le2 s (b + 6)) (e : f ≡ b + 6 + 2) where
  -- what the search among so many answered, it answered among all that there are
  all : {r : Option Position} → BlockNamed s n f u r → BlockNamed s n (b + 6 + 2) (le2 s (b + 6)) r
  all h = rw (g, e) at h

  -- a block was found: an owner
  pub owner_there : {p : Position} → BlockNamed s n f u (Some p) → Accepted s 32 32 b → Accepted s 37 37 p.at
  owner_there found a = go (all found)
    where
      go : {p : Position} → BlockNamed s n (b + 6 + 2) (le2 s (b + 6)) (Some p) → Accepted s 37 37 p.at
      go (BlockNamed.at h p t) = (named_first owner_keyed p h t (listed a).list).0

  -- and its paths stand at q
  pub paths_there : {p : Position} {q : ℕ} → BlockNamed s n f u (Some p) → ((a : Accepted s 37 37 p.at) → OwnerAt a q) →
      Accepted s 32 32 b → Answers s b n (Some q)
  paths_there {q = q} found w d = go (all found) w
    where
      go : {p : Position} → BlockNamed s n (b + 6 + 2) (le2 s (b + 6)) (Some p) → ((a : Accepted s 37 37 p.at) → OwnerAt a q) →
          Answers s b n (Some q)
      go (BlockNamed.at h p t) w = record {
        paths_found = owner;
        value = ap Some (w (named_first owner_keyed p h t (listed d).list).0).paths_at ∙ sym (paths_at _ p h t);
      }
        where
          owner : (a : Accepted s 32 32 b) → PathsFound s n (owners_of (tree a)) (Some q)
          owner a =
              let l = (listed a).list in
              let x = named_first owner_keyed p h t l in
              let y = w x.0 in
              PathsFound.at y.paths
              (ap (get n) (owners_are a) ∙ owners_same n 0 (all_entries Titled titled l) ∙ ap paths_of x.1 ∙ ap (λ (z : Owner). some z.paths) y.is)

  -- none was found
  pub paths_missing : BlockNamed s n f u None → Answers s b n None
  paths_missing found = go (all found)
    where
      go : BlockNamed s n (b + 6 + 2) (le2 s (b + 6)) None → Answers s b n None
      go (BlockNamed.missing p) = record {
        paths_found = λ a. let l = (listed a).list in
            PathsFound.missing (ap (get n) (owners_are a) ∙ owners_same n 0 (all_entries Titled titled l) ∙
            ap paths_of (named_none owner_keyed p l));
        value = sym (paths_none p);
      }

-- ---- what a search for paths answered

-- references of a name that were found are accepted, and the definition's
pub found_paths : {s : List ℕ} {n : Name} {os : List Owner} {q : ℕ} → PathsFound s n os (Some q) →
    (p : PathsAt s q) × (get n os ≡ some (texts_of p.list.got.0))
found_paths (PathsFound.at p g) = (p, g)

-- where none were found, the definition has none
pub found_none : {s : List ℕ} {n : Name} {os : List Owner} → PathsFound s n os None → get n os ≡ none
found_none (PathsFound.missing g) = g
