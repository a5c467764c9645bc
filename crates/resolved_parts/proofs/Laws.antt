-- What an accepted block says of itself: where it ends, how long it is, its kind; and of a name that it begins with.
use mathlib.Core.Path.{◌≡◌, refl, ap}
use mathlib.Core.Bool.{true}
use mathlib.Core.List.{List}
use Prim.Native.Nat.{ℕ, ◌+◌, ◌≤◌, ◌<◌}
use native.Mathlib.Omega.{arith}
use lib.ListN.{length, drop, length-drop, length-take}
use lib.Seq.{length-take-le}
use Rattle.blocks.specs.Bytes.{le2, le4}
use Rattle.blocks.specs.Name.{is_text}
use Rattle.blocks.proofs.Utf8.{text_short}
use Rattle.blocks.specs.Tree.{Tree, view}
use Rattle.resolved.specs.Resolved.{ResolvedTypeKind, kind_of}
use Rattle.resolved.specs.Set.{type_of, thing_of, make_thing, form_of}
use Rattle.accepted.specs.Accepted.{Accepted, tree, name_at, Item, Entries}
use Rattle.accepted.proofs.Laws.{opened, name_entry}
use Rattle.resolved_parts.specs.Types.{Named}

module _ {s : List ℕ} {lo hi at : ℕ} (a : Accepted s lo hi at) where
  -- an accepted block ends inside the bytes
  pub inside : at + 4 + le4 s at ≤ length s
  inside = omega (arith, (opened a refl refl).high, a.fits)

  -- its length counts at least its kind
  pub long : 2 ≤ le4 s at
  long = (opened a refl refl).long

  -- its kind is one of those that were asked for
  pub kind_of_lem : (lo ≤ le2 s (at + 4)) × (le2 s (at + 4) ≤ hi)
  kind_of_lem = let o = opened a refl refl in (o.least, o.most)

-- a type of kind 1 is a primitive
pub primitive : {s : List ℕ} {at : ℕ} (a : Accepted s 1 7 at) → le2 s (at + 4) ≡ 1 → kind_of (type_of (tree a)) ≡ ResolvedTypeKind.Primitive
unfolding type_of view thing_of make_thing form_of
primitive a e = ap (λ (z : Tree). kind_of (type_of z)) (opened a e refl).tree

-- a text that was read is a name inside the bytes
pub named : {s : List ℕ} {at : ℕ} → at + 2 + le2 s at ≤ length s → is_text (name_at s at) ≡ true → Named s at
named {s} {at} h t =
    let l : length (name_at s at) ≡ le2 s at = length-take-le (le2 s at) (drop (at + 2) s) (rw length-drop (omega arith)) in
    let b = text_short (name_at s at) t in
    record { inside = h; short = omega (arith, l, b) }

-- a name of an accepted list of names
pub entry_named : {s : List ℕ} {n at : ℕ} → Entries s Item.names n at → 0 < n → Named s at
entry_named l h = let e = name_entry l h in named (omega (arith, e.2.inside, l.fits)) e.0

-- a name of the set is short
pub named_short : {s n : List ℕ} {q : ℕ} → Named s q → n ≡ name_at s q → length n ≤ 255
named_short {s} {q} h e = rw e (simp length-take (omega (arith, h.short)))
