-- The owner of an array that is a root.
use Rattle.std.specs.Prelude.{Option, Some, None, is_some, Result, Err}
use mathlib.Core.Path.{◌≡◌, refl, sym, ap, ◌∙◌}
use mathlib.Core.Bool.{Bool, true, false, cond}
use mathlib.Core.List.{List, [], ◌∷◌}
use mathlib.Core.Option.{some}
use Prim.Native.Nat.{ℕ, ◌+◌, ◌-◌, ◌≤◌, ◌<◌}
use native.Mathlib.Omega.{arith}
use lib.ListN.{length, take, drop, length-drop}
use lib.Seq.{take_all}
use Rattle.errors.specs.Refusal.{MissingDynamicRefs}
use Rattle.errors.specs.declared.Reason.{Reason}
use Rattle.errors.specs.declared.Reason.TheVariants as reason
use Rattle.answers.proofs.Laws.{refuses}
use Rattle.blocks.specs.Bytes.{le2}
use Rattle.blocks.specs.Name.{Name, ascii}
use Rattle.blocks.specs.Grammar.{parts_of, find_row, grammar, node_table}
use Rattle.blocks.specs.Tree.{Tree, entries}
use Rattle.accepted.specs.Accepted.{Accepted, tree, name_at, Counted}
use Rattle.accepted.proofs.Laws.{sole, block_entry, none_left}
use Rattle.resolved.specs.Resolved.{Owner, Head, head}
use Rattle.resolved.specs.Set.{owner_of, type_of}
use Rattle.builder.specs.Names.{rsplit_once}
use Rattle.builder.specs.Registry.{Registry}
use Rattle.builder.specs.Nodes.{has, field_key, select_array_owner, build_array_node_with_prefix, build_array_node}
use Rattle.builder.proofs.Steps.{need_some, need_none}
use Rattle.builder_names.specs.Views.{Parts}
use Rattle.resolved_parts.specs.declared.TypeHead.{TypeHead}
use Rattle.resolved_parts.specs.Types.{Named, HeadAt, PathsFound, owners_of}
use Rattle.resolved_parts.proofs.Laws.{inside}
use Rattle.resolved_parts.proofs.Fields.{owner_named, owner_at}
use Rattle.builder_paths.specs.Joined.{prefix_of}
use Rattle.builder_nodes.specs.declared.Built.{Built}
use Rattle.builder_nodes.specs.Built.{Builds}
use Rattle.builder_arrays.specs.Ready.{Ready, ReadyInside}
use Rattle.builder_arrays.specs.Owner.{SomeOwner, first_owner, owner_under}

-- ---- what the calls stand on

-- an array that is a root is inside no other
pub inside_ready : {s ws owner : List ℕ} {n array at : ℕ} → Ready s ws n array at → length owner ≤ 255 → ReadyInside s ws n owner 0 array at
inside_ready r h = record { ready = r; owned = h; deep = omega (arith, inside r.type, r.standing.size) }

-- the first owner
pub first_is : {s : List ℕ} {b : ℕ} (g : Accepted s 32 32 b) → 0 < le2 s (b + 6) → Named s (b + 6 + 2 + 6) × (first_owner (owners_of (tree g)) ≡ name_at s (b + 6 + 2 + 6))
unfolding parts_of find_row grammar node_table entries
first_is {s} {b} g h =
    let o = sole g refl Counted.ascending in
    let e = block_entry o.list h in
    (owner_named e.child, ap (λ (u : Tree). first_owner (entries owner_of u)) (o.tree ∙ e.after.tree) ∙ ap (λ (x : Owner). x.name) (owner_at refl e.child).is)

-- ---- in the code's form

-- an owner is there where its paths are found
has_as : {s : List ℕ} {n : Name} {os : List Owner} {x : Option ℕ} → PathsFound s n os x → has n os ≡ is_some x
has_as (PathsFound.at p g) = rw g refl
has_as (PathsFound.missing g) = rw g refl

module _ {s : List ℕ} {b : ℕ} {key : Name} (name : Name) {x : Option ℕ} (f : (g : Accepted s 32 32 b) → PathsFound s key (owners_of (tree g)) x) where
  -- the key is an owner
  pub under_key : is_some x ≡ true → (g : Accepted s 32 32 b) → key ≡ owner_under key name (owners_of (tree g))
  under_key e g = rw (has_as (f g) ∙ e) refl

  module _ {y : Option ℕ} (e : is_some x ≡ false) (k : (g : Accepted s 32 32 b) → PathsFound s name (owners_of (tree g)) y) where
    -- it is none, but the type's name is one
    pub under_name : is_some y ≡ true → (g : Accepted s 32 32 b) → name ≡ owner_under key name (owners_of (tree g))
    under_name d g = rw (has_as (f g) ∙ e, has_as (k g) ∙ d) refl

    -- neither is: the first owner
    pub under_first : {o : Name} → is_some y ≡ false → 0 < le2 s (b + 6) → o ≡ name_at s (b + 6 + 2 + 6) → (g : Accepted s 32 32 b) →
        o ≡ owner_under key name (owners_of (tree g))
    under_first d p q g = q ∙ sym (first_is g p).1 ∙ rw (has_as (f g) ∙ e, has_as (k g) ∙ d) refl

-- ---- at the root

-- references without an owner, and with one
no_owners : {s : List ℕ} {b : ℕ} (g : Accepted s 32 32 b) → le2 s (b + 6) ≤ 0 → owners_of (tree g) ≡ []
unfolding parts_of find_row grammar node_table entries
no_owners g h =
    let o = sole g refl Counted.ascending in
    ap (entries owner_of) (o.tree ∙ ap (λ (z : Tree × ℕ). z.0) (none_left o.list h))

-- references that count an owner have one
an_owner : {s : List ℕ} {b : ℕ} (g : Accepted s 32 32 b) → 0 < le2 s (b + 6) → (o : Owner) × (os : List Owner) × (owners_of (tree g) ≡ o ∷ os)
unfolding parts_of find_row grammar node_table entries
an_owner g h =
    let o = sole g refl Counted.ascending in
    let e = block_entry o.list h in
    (owner_of (tree e.child), entries owner_of e.after.rest.got.0, ap (entries owner_of) (o.tree ∙ e.after.tree))

-- `select_array_owner` of references with an owner: the key, the type's name, or the first owner
selected : (h : Head) (o : Owner) (os : List Owner) → select_array_owner h (o ∷ os) ≡ some (owner_under (field_key (rsplit_once h.name)) h.name (o ∷ os))
unfolding select_array_owner
selected h o os = go (has (field_key (rsplit_once h.name)) (o ∷ os)) (has h.name (o ∷ os))
  where
    go : (a b : Bool) → cond a (some (field_key (rsplit_once h.name))) (cond b (some h.name) (some o.name)) ≡ some (cond a (field_key (rsplit_once h.name)) (cond b h.name o.name))
    go true b = refl
    go false true = refl
    go false false = refl

-- what `select_array_owner` answers, where the key in the name is known
pub selects : {s : List ℕ} {b : ℕ} {nm key r : Name} → 0 < le2 s (b + 6) → field_key (rsplit_once nm) ≡ key →
    ((g : Accepted s 32 32 b) → r ≡ owner_under key nm (owners_of (tree g))) →
    (g : Accepted s 32 32 b) (h : Head) → h.name ≡ nm → select_array_owner h (owners_of (tree g)) ≡ some r
selects {nm} {key} {r} p k f g h e =
    let (o, os, d) = an_owner g p in
    let i : r ≡ owner_under (field_key (rsplit_once h.name)) h.name (owners_of (tree g)) = rw (e, k) (f g) in
    ap (select_array_owner h) d ∙ selected h o os
    ∙ ap (λ (l : List Owner). some (owner_under (field_key (rsplit_once h.name)) h.name l)) (sym d) ∙ ap (λ (l : Name). some l) (sym i)

module _ {s : List ℕ} {array at : ℕ} {h : TypeHead} (f : (a : Accepted s 1 7 array) → HeadAt a h) where
  -- what selecting an owner stands on
  pub root_ready : {ws : List ℕ} {n c : ℕ} → Ready s ws n array at → c ≡ le2 s (h.references + 6) → (c ≡ 0 → ⊥) → SomeOwner s h.references
  root_ready r e z = record { owners = (f r.type).references; some_owner = omega arith; size = r.standing.size }

  module _ {xs us ys : List ℕ} (es : Registry) where
    -- there is no owner
    pub root_none : {c : ℕ} → c ≡ le2 s (h.references + 6) → c ≡ 0 → (a : Accepted s 1 7 array) →
        Builds s xs at us ys (Err reason.MissingDynamicRefs) (build_array_node (type_of (tree a)) es)
    unfolding build_array_node select_array_owner
    root_none e z a =
        let o : (head (type_of (tree a))).dynamic_params ≡ [] = (f a).owners ∙ no_owners (f a).references (omega (arith, e, z)) in
        refuses
        (need_none MissingDynamicRefs (λ owner. build_array_node_with_prefix owner [] (type_of (tree a))) es
        (ap (select_array_owner (head (type_of (tree a)))) o))

    -- the array is built under the owner that is selected
    pub root_is : {nm owner : Name} {r : Result Built Reason} → nm ≡ name_at s (array + 6) →
        ((g : Accepted s 32 32 h.references) (d : Head) → d.name ≡ nm → select_array_owner d (owners_of (tree g)) ≡ some owner) →
        ((a : Accepted s 1 7 array) → Builds s xs at us ys r (build_array_node_with_prefix owner (prefix_of 0) (type_of (tree a)) es)) →
        (a : Accepted s 1 7 array) → Builds s xs at us ys r (build_array_node (type_of (tree a)) es)
    unfolding build_array_node prefix_of
    root_is e k b a =
        let o = k (f a).references (head (type_of (tree a))) ((f a).name ∙ sym e) in
        rw (need_some MissingDynamicRefs (λ owner. build_array_node_with_prefix owner [] (type_of (tree a))) es
        (ap (select_array_owner (head (type_of (tree a)))) (f a).owners ∙ o)) (b a)

-- ---- the key in a name

-- what stands behind a place, as a part
behind_whole : (nm : Name) (j : ℕ) → take (length nm - j) (drop j nm) ≡ drop j nm
behind_whole nm j = take_all (length nm - j) (drop j nm) (rw length-drop (omega arith))

-- the key is what stands behind the last `::`
pub key_behind : (nm : Name) (i : ℕ) → Parts nm (Some i) → field_key (rsplit_once nm) ≡ take (length nm - (i + 2)) (drop (i + 2) nm)
key_behind nm i p = ap field_key p.1 ∙ sym (behind_whole nm (i + 2))

-- without `::` the key is `array`
pub key_array : (nm : Name) → Parts nm None → field_key (rsplit_once nm) ≡ ascii "array"
key_array nm p = ap field_key p
