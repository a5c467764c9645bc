-- Every entry of an accepted list is entered into the registry, front to back, until one is refused. Assumes nothing.
use Prim.Native.Nat.{ℕ, ◌+◌, ◌-◌, ◌≤◌, ◌<◌}
use native.Mathlib.Omega.{arith}
use mathlib.Core.Path.{◌≡◌, refl, sym, ap, ◌∙◌, subst}
use mathlib.Core.List.{List, [], ◌∷◌}
use lib.ListN.{length}
use Rattle.std.specs.Prelude.{Result, Ok, Err}
use Rattle.errors.specs.declared.Reason.{Reason}
use Rattle.errors.specs.Refusal.{Outcome, done}
use Rattle.errors.specs.Refusal.{◌>>=◌ as ◌and_then◌}
use Rattle.answers.specs.Answers.{AnswersIn}
use Rattle.answers.proofs.Laws.{unanswered, refuses}
use Rattle.blocks.specs.Bytes.{le2, le4, name_at}
use Rattle.blocks.specs.Name.{Name}
use Rattle.blocks.specs.Tree.{Tree, name, text, entries}
use Rattle.accepted.specs.Accepted.{Accepted, tree, Item, Entries, Listed}
use Rattle.accepted.proofs.Laws.{After, block_entry, name_entry}
use Rattle.accepted.proofs.Lists.{Left, starts, steps, ended}
use Rattle.resolved.specs.Resolved.{Owner}
use Rattle.resolved.specs.Set.{owner_of}
use Rattle.builder.specs.Registry.{Registry, Build, ◌>>=◌, give, ensure, ensure_all, extend_with}
use Rattle.resolved_parts.proofs.Laws.{entry_named}
use Rattle.resolved_parts.proofs.Owners.{listed}
use Rattle.resolved_parts.specs.Types.{Named, owners_of, texts_of, PathsAt, OwnerAt}
use Rattle.builder_registry.specs.Words.{held, entries_of, Indexed, Kept}
use Rattle.builder_registry.proofs.Laws.{held_name, kept_done}

-- ---- any such list

-- an action on a list, one on each of its elements in turn
pub record Each {A : Type 0} (all : List A → Build Unit) (one : A → Build Unit) : Type 0 where
  pub none : (g : Registry) → all [] g ≡ done (tt, g)
  pub more : (x : A) (xs : List A) (g : Registry) → all (x ∷ xs) g ≡ ◌and_then◌ (one x g) (λ y. all xs y.1)

-- the whole list on g is the rest of it on h
pub record Met {A : Type 0} (all : List A → Build Unit) (make : Tree → A) (g h : Registry) (w u : Tree) : Type 0 where
  pub is : all (entries make w) g ≡ all (entries make u) h

module _ {A : Type 0} (all : List A → Build Unit) (one : A → Build Unit) (each : Each all one) (make : Tree → A) where
  -- at the start of the loop all entries are left
  pub begin : {s : List ℕ} {i : Item} {n at left : ℕ} {g : Registry} → left ≡ n → Entries s i n at → Left (Met all make g g) s i n at left at
  begin {s} {i} {n} {at} {g = g} e l = subst (λ (k : ℕ). Left (Met all make g g) s i n at k at) (sym e) (starts (λ t. record { is = refl }) l)

  -- the entries behind one, after what it made
  abbrev rest : Tree → Outcome (Unit × Registry) → Outcome (Unit × Registry)
  rest u o = ◌and_then◌ o (λ y. all (entries make u) y.1)

  module _ {s us : List ℕ} {i : Item} {n at left q : ℕ} {g h : Registry} where
    -- an entry t, which is entered; the next begins at p
    pub go_on : {p k : ℕ} (t : Entries s i left q → Tree) → ((l : Entries s i left q) → After l (t l) p) →
        ((l : Entries s i left q) → Kept s us (Ok k) (one (make (t l)) h)) →
        Left (Met all make g h) s i n at left q → Left (Met all make g (entries_of s us k)) s i n at (left - 1) p
    unfolding entries ◌and_then◌
    go_on t a k l = steps t a (λ m w u x. record { is = x.is ∙ (each.more (make (t m)) (entries make u) h ∙ ap (rest u) (kept_done (k m))) }) l

    -- an entry that is refused
    pub stop : {p : ℕ} {e : Reason} (t : Entries s i left q → Tree) → ((l : Entries s i left q) → After l (t l) p) →
        ((l : Entries s i left q) → Kept s us (Err e) (one (make (t l)) h)) →
        Left (Met all make g h) s i n at left q → (w : Entries s i n at) → Kept s us (Err e) (all (entries make w.got.0) g)
    unfolding entries ◌and_then◌
    stop t a k l w =
        let m = l.whole w in
        let u = (a m.0).rest.got.0 in
        refuses (m.1.is ∙
        (ap (λ (x : Tree). all (entries make x) h) (a m.0).tree ∙
        (each.more (make (t m.0)) (entries make u) h ∙ ap (rest u) (unanswered (k m.0)))))

  -- no entry is left
  pub end : {s us : List ℕ} {i : Item} {n at left q : ℕ} {g : Registry} {count : ℕ} → left ≤ 0 → Indexed s us count → Left (Met all make g (entries_of s us count)) s i n at left q →
      (w : Entries s i n at) → Kept s us (Ok count) (all (entries make w.got.0) g)
  unfolding entries
  end {s} {us} {count = count} h x l w =
      rw ((ended h l w).0.is, each.none (entries_of s us count)) (AnswersIn.made _ (record { entries = refl; index = x }))

-- before the end one is left
left_one : (n i : ℕ) → i < n → 0 < n - i
left_one n i l = omega arith

-- ---- the paths of an owner

-- `ensure_all` does `ensure` with each path
each_path : (o : Name) → Each (ensure_all o) (ensure o)
unfolding ensure_all give ◌>>=◌
each_path o = record { none = λ g. refl; more = λ x xs g. refl }

-- the invariant of `ensure_all` after i paths: all paths on the registry g are the paths that are left on the registry h
abbrev pub Paths : List ℕ → Name → Registry → Registry → ℕ → ℕ → ℕ → Type 0
Paths s o g h q i at = Left (Met (ensure_all o) text g h) s Item.names (le2 s q) (q + 2) (le2 s q - i) at

module _ {s : List ℕ} (o : Name) (q : ℕ) where
  -- it holds at the start
  pub paths_begin : {g : Registry} → PathsAt s q → Paths s o g g q 0 (q + 2)
  paths_begin p = begin (ensure_all o) (ensure o) (each_path o) text (omega arith) p.list

  module _ {i at : ℕ} (h : Registry) (l : i < le2 s q) where
    -- the next path is a name
    pub path_named : {g : Registry} → Paths s o g h q i at → Named s at
    path_named c = entry_named c.here (left_one (le2 s q) i l)

    -- the name that the code passes is that of the list
    path_kept : {us : List ℕ} {r : Result ℕ Reason} → Kept s us r (ensure o (held s at) h) → Entries s Item.names (le2 s q - i) at → Kept s us r (ensure o (text (name (name_at s at))) h)
    path_kept k e = rw (held_name (entry_named e (left_one (le2 s q) i l))) at k

    -- it was entered: the next path stands behind it
    pub paths_more : {us : List ℕ} {p k : ℕ} {g : Registry} → p ≡ at + 2 + le2 s at → Kept s us (Ok k) (ensure o (held s at) h) → Paths s o g h q i at →
        Paths s o g (entries_of s us k) q (i + 1) p
    paths_more e a c =
        let f : le2 s q - i - 1 ≡ le2 s q - (i + 1) = omega arith in
        rw (e, ← f)
        (go_on (ensure_all o) (ensure o) (each_path o) text (λ m. name (name_at s at)) (λ m. (name_entry m (left_one (le2 s q) i l)).2) (path_kept a) c)

    -- it was refused: so is the whole list
    pub paths_stop : {us : List ℕ} {e : Reason} {g : Registry} → Kept s us (Err e) (ensure o (held s at) h) → Paths s o g h q i at → (p : PathsAt s q) →
        Kept s us (Err e) (ensure_all o (texts_of p.list.got.0) g)
    paths_stop a c p = stop (ensure_all o) (ensure o) (each_path o) text (λ m. name (name_at s at)) (λ m. (name_entry m (left_one (le2 s q) i l)).2) (path_kept a) c p.list

  -- none is left: the words hold what the whole list makes
  pub paths_end : {us : List ℕ} {i at count : ℕ} {g : Registry} → le2 s q ≤ i → Indexed s us count →
      Paths s o g (entries_of s us count) q i at → (p : PathsAt s q) → Kept s us (Ok count) (ensure_all o (texts_of p.list.got.0) g)
  paths_end l x c p = end (ensure_all o) (ensure o) (each_path o) text (omega arith) x c p.list

-- ---- the owners of a references block

-- every path of an owner
abbrev all_paths : Owner → Build Unit
all_paths o = ensure_all o.name o.paths

-- `extend_with` does all paths of each owner
each_owner : Each extend_with all_paths
unfolding extend_with give ◌>>=◌
each_owner = record { none = λ g. refl; more = λ x xs g. refl }

-- the invariant of `extend_with` after i owners: all owners on the registry g are the owners that are left on the registry h
abbrev pub Owners : List ℕ → Registry → Registry → ℕ → ℕ → ℕ → Type 0
Owners s g h b i at = Left (Met extend_with owner_of g h) s (Item.blocks 37 37) (le2 s (b + 6)) (b + 6 + 2) (le2 s (b + 6) - i) at

module _ {s : List ℕ} (b : ℕ) where
  -- it holds at the start
  pub owners_begin : {g : Registry} → Accepted s 32 32 b → Owners s g g b 0 (b + 6 + 2)
  owners_begin a = begin extend_with all_paths each_owner owner_of (omega arith) (listed a).list

  module _ {i at : ℕ} (h : Registry) (l : i < le2 s (b + 6)) where
    -- the next owner is an accepted block
    pub owner_at : {g : Registry} → Owners s g h b i at → Accepted s 37 37 at
    owner_at c = (block_entry c.here (left_one (le2 s (b + 6)) i l)).child

    -- which ends inside the bytes
    pub owner_inside : {g : Registry} → Owners s g h b i at → at + 4 + le4 s at ≤ length s
    owner_inside c = let e = block_entry c.here (left_one (le2 s (b + 6)) i l) in omega (arith, e.after.inside, c.here.fits)

    module _ (q : ℕ) (f : (a : Accepted s 37 37 at) → OwnerAt a q) where
      -- the name and the paths that the code passes are those of the owner
      owner_kept : {us : List ℕ} {r : Result ℕ Reason} → ((p : PathsAt s q) → Kept s us r (ensure_all (held s (at + 6)) (texts_of p.list.got.0) h)) →
          (e : Listed s 37 37 (le2 s (b + 6) - i) at) → Kept s us r (all_paths (owner_of (block_entry e (left_one (le2 s (b + 6)) i l)).child.got.0) h)
      owner_kept {us} {r} k e =
          let a = f (block_entry e (left_one (le2 s (b + 6)) i l)).child in
          subst (λ (x : Owner). Kept s us r (all_paths x h)) (sym a.is) (rw (held_name a.named) at (k a.paths))

      -- its paths were entered: the next owner stands behind it
      pub owners_more : {us : List ℕ} {u k : ℕ} {g : Registry} → u ≡ le4 s at → ((p : PathsAt s q) → Kept s us (Ok k) (ensure_all (held s (at + 6)) (texts_of p.list.got.0) h)) →
          Owners s g h b i at → Owners s g (entries_of s us k) b (i + 1) (at + 4 + u)
      owners_more e a c =
          let j : le2 s (b + 6) - i - 1 ≡ le2 s (b + 6) - (i + 1) = omega arith in
          rw (e, ← j)
          (go_on extend_with all_paths each_owner owner_of (λ m. (block_entry m (left_one (le2 s (b + 6)) i l)).child.got.0) (λ m. (block_entry m (left_one (le2 s (b + 6)) i l)).after) (owner_kept a) c)

      -- one was refused: so is the whole list
      pub owners_stop : {us : List ℕ} {e : Reason} {g : Registry} → ((p : PathsAt s q) → Kept s us (Err e) (ensure_all (held s (at + 6)) (texts_of p.list.got.0) h)) →
          Owners s g h b i at → (a : Accepted s 32 32 b) → Kept s us (Err e) (extend_with (owners_of (tree a)) g)
      owners_stop k c a =
          rw (listed a).tree
          (stop extend_with all_paths each_owner owner_of (λ m. (block_entry m (left_one (le2 s (b + 6)) i l)).child.got.0) (λ m. (block_entry m (left_one (le2 s (b + 6)) i l)).after) (owner_kept k) c (listed a).list)

  -- none is left: the words hold what the whole list makes
  pub owners_end : {us : List ℕ} {i at count : ℕ} {g : Registry} → le2 s (b + 6) ≤ i → Indexed s us count →
      Owners s g (entries_of s us count) b i at → (a : Accepted s 32 32 b) → Kept s us (Ok count) (extend_with (owners_of (tree a)) g)
  owners_end l x c a = rw (listed a).tree (end extend_with all_paths each_owner owner_of (omega arith) x c (listed a).list)
