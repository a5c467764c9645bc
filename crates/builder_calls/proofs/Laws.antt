-- What the code leaves, place by place.
use mathlib.Core.Path.{◌≡◌, refl, sym, ◌∙◌, ap, subst}
use mathlib.Core.Bool.{true}
use mathlib.Core.List.{List, [], ◌∷◌, ◌++◌}
use mathlib.Core.Option.{some, none}
use Prim.Native.Nat.{ℕ, zero, suc, ◌+◌, ◌-◌, ◌≤◌, ◌<◌}
use native.Mathlib.Numerals.{sub-one}
use native.Mathlib.Omega.{arith}
use lib.ListN.{length, length-append}
use borrow.Author.Tests.{lt-ltb, le-ltb}
use Rattle.std.specs.Prelude.{Result, Ok, Err, Some, None}
use Rattle.std.specs.Prelude as std
use Rattle.errors.specs.Refusal.{done, refused, plain}
use Rattle.errors.specs.Refusal.{◌>>=◌ as ◌and_then◌}
use Rattle.errors.specs.declared.Reason.{Reason}
use Rattle.errors.specs.declared.Reason.TheVariants.{MissingType, LimitExceeded}
use Rattle.answers.specs.Answers.{AnswersIn}
use Rattle.answers.proofs.Laws.{answered, refuses, makes, passes, goes}
use Rattle.blocks.specs.Bytes.{le2, le4, bytes}
use Rattle.blocks.specs.Name.{Name}
use Rattle.blocks.specs.Tree.{Tree, name, num, nil, cons, text, entries}
use Rattle.blocks.specs.Write.{write}
use Rattle.blocks.specs.Read.{read_set}
use Rattle.accepted.specs.Accepted.{Accepted, tree, name_at, Item, Entries, Listed}
use Rattle.accepted.proofs.Laws.{After, none_left, name_entry, block_entry}
use Rattle.accepted.proofs.Lists.{Left, starts, steps, ended}
use Rattle.resolved.specs.Resolved.{Owner, Head, ResolvedType, ResolvedTypeKind, head, kind_of, get_type_info}
use Rattle.resolved.specs.Set.{owner_of, type_of, types_of}
use Rattle.lookup.specs.Found.{TypeFound}
use Rattle.ir.specs.Ir.{IrNode, IrArgument, aligned, unplaced}
use Rattle.ir_nodes.specs.Codes.{code_at}
use Rattle.ir.specs.Layout.{entries_tree, argument_tree, node_tree, list_tree}
use Rattle.builder.specs.Names.{canonical_name}
use Rattle.builder.specs.Registry.{Registry, give, ensure}
use Rattle.builder.specs.Nodes.{argument, collect_paths, collect_callee_arguments, build_typeref_node}
use Rattle.builder.proofs.Steps.{step_done, require_yes, require_no, need_some, need_none}
use Rattle.wire.specs.Poke.{Wrote, opened}
use Rattle.wire.proofs.Laws.{both, parts, no_parts, closed}
use Rattle.resolved_parts.specs.declared.TypeHead.{TypeHead}
use Rattle.resolved_parts.specs.Types.{Named, PathsAt, OwnerAt, HeadAt, TargetAt, owners_of, texts_of}
use Rattle.resolved_parts.proofs.Laws.{entry_named}
use Rattle.resolved_parts.proofs.Owners.{listed}
use Rattle.builder_registry.specs.Words.{Kept, held, entries_of}
use Rattle.builder_registry.proofs.Laws.{held_name}
use Rattle.builder_nodes.specs.declared.Built.{Built}
use Rattle.builder_nodes.specs.Built.{Builds, node_start, text_flag, count_part}
use Rattle.builder_nodes.proofs.Laws.{node_closed, step_passes}
use Rattle.builder_nodes.proofs.Parts.{call_name, call_count}
use Rattle.builder_calls.specs.declared.Collected.{Collected}
use Rattle.builder_calls.specs.Collected.{paths_in, Collects, Behind, Fills, Room}
use Rattle.builder_calls.specs.Call.{call_of}
use Rattle.builder_calls.proofs.Collecting.{entered, one_long, one_short, owners_count, paths_walk, owners_walk, Gathered, walk_begin}
use Rattle.builder_calls.proofs.Collecting.{walk_stops, walk_more, walk_end}

-- ---- an argument

-- the bytes of an argument
argument_puts : {xs x₁ x₂ x₃ ys : List ℕ} {at b u v q : ℕ} (n : Name) → Wrote xs at (opened 164) x₁ b → Wrote x₁ b (write (name n)) x₂ u →
    Wrote x₂ u (write (name n)) x₃ v → Wrote x₃ at (bytes 4 (v - at - 4)) ys q →
    Wrote xs at (write (entries_tree argument_tree (argument n ∷ []))) ys v
unfolding entries_tree
argument_puts {ys} {v} n w₁ w₂ w₃ w₄ =
    parts (argument_tree (argument n)) nil
    (closed 0 164 (cons (name n) (cons (name n) nil))
    (both w₁ (parts (name n) (cons (name n) nil) w₂ (parts (name n) nil w₃ (no_parts _ _)))) w₄)
    (no_parts ys v)

-- what is said of the names o and p is said of their offsets
renamed : {s xs ws us ys : List ℕ} {c : Collected} {r : Result Collected Reason} (owner path : ℕ) {o p : List ℕ} → o ≡ name_at s owner →
    p ≡ name_at s path →
    Behind s xs c ws us ys r (collect_paths o (p ∷ [])) → Behind s xs c ws us ys r (collect_paths (name_at s owner) (name_at s path ∷ []))
renamed owner path eo ep h = rw (← eo, ← ep) h

-- the canonical name is too long
pub argument_long : {s xs ws us ys : List ℕ} {c : Collected} {m : ℕ} (owner path : ℕ) (o p : List ℕ) → o ≡ name_at s owner →
    p ≡ name_at s path →
    m ≡ length (canonical_name o p) → 255 < m →
    Behind s xs c ws us ys (Err LimitExceeded) (collect_paths (name_at s owner) (name_at s path ∷ []))
argument_long owner path o p eo ep el h =
    renamed owner path eo ep (record { collects = λ before e. refuses (one_long o p before _ (omega (arith, el))) })

-- the names o and p of an owner and of a path stand at these offsets, and their canonical name is short enough
pub record Names (s : List ℕ) (owner path : ℕ) (o p : List ℕ) : Type 0 where
  pub owner_is : o ≡ name_at s owner
  pub path_is : p ≡ name_at s path
  pub owned : Named s owner
  pub named : Named s path
  pub short : length (canonical_name o p) ≤ 255

-- what was entered, by the names
by_names : {s us : List ℕ} {owner path : ℕ} {o p : List ℕ} {h : Result ℕ Reason} (g : Registry) → Names s owner path o p →
    Kept s us h (ensure (held s owner) (held s path) g) → Kept s us h (ensure o p g)
by_names g n k = rw (n.owner_is, ← held_name n.owned, n.path_is, ← held_name n.named) k

module _ {s xs ws us : List ℕ} {c : Collected} {owner path : ℕ} {o p : List ℕ} (n : Names s owner path o p) where
  -- what follows where the path is entered
  after_entry : {ys : List ℕ} {r : Result Collected Reason} → ((before : List IrArgument) → length before ≡ c.made →
      Collects s xs c before us ys r (◌and_then◌ (ensure o p (entries_of s ws c.count)) (entered o p before (entries_of s ws c.count)))) →
      Behind s xs c ws us ys r (collect_paths (name_at s owner) (name_at s path ∷ []))
  after_entry f =
      renamed owner path n.owner_is n.path_is
      (record { collects = λ before e. rw (one_short o p before (entries_of s ws c.count) n.short) (f before e) })

  -- the registry is full
  pub argument_full : {ys : List ℕ} {e : Reason} → Kept s us (Err e) (ensure (held s owner) (held s path) (entries_of s ws c.count)) →
      Behind s xs c ws us ys (Err e) (collect_paths (name_at s owner) (name_at s path ∷ []))
  argument_full k = after_entry (λ before e. passes _ (by_names _ n k))

  module _ {h : ℕ} (k : Kept s us (Ok h) (ensure (held s owner) (held s path) (entries_of s ws c.count))) where
    -- there are 512 arguments already
    pub argument_many : {ys : List ℕ} → 512 ≤ c.made →
        Behind s xs c ws us ys (Err LimitExceeded) (collect_paths (name_at s owner) (name_at s path ∷ []))
    argument_many f =
        after_entry (λ before e. goes _ (by_names _ n k) (λ y m. refuses (require_no 17 _ y.1 (le-ltb (length before) 512 (omega arith)))))

    -- the argument was written
    pub argument_done : {x₁ x₂ x₃ ys : List ℕ} {b u v q : ℕ} → c.made < 512 → Wrote xs c.at (opened 164) x₁ b →
        Wrote x₁ b (write (name (canonical_name o p))) x₂ u → Wrote x₂ u (write (name (canonical_name o p))) x₃ v →
        Wrote x₃ c.at (bytes 4 (v - c.at - 4)) ys q →
        Behind s xs c ws us ys (Ok (record { at = v; count = h; made = c.made + 1 }))
        (collect_paths (name_at s owner) (name_at s path ∷ []))
    unfolding give
    argument_done f w₁ w₂ w₃ w₄ =
        after_entry (λ before e. goes _ (by_names _ n k) (λ y m. makes _ (require_yes 17 _ y.1 (lt-ltb (length before) 512 (omega arith)))
        (record {
          new = argument (canonical_name o p) ∷ [];
          are = refl;
          made = omega (arith, length-append before (argument (canonical_name o p) ∷ []));
          entries = m.entries;
          index = m.index;
          bytes = argument_puts (canonical_name o p) w₁ w₂ w₃ w₄;
        })))

-- ---- the paths of an owner

-- the next path, and the list behind it
abbrev pub next_path : {s : List ℕ} {left path : ℕ} → 0 < left → (l : Entries s Item.names left path) →
    After l (name (name_at s path)) (path + 2 + le2 s path)
next_path z l = (name_entry l z).2

-- Of the paths at q of the owner o, `left` are left, from `path` on; the arguments of the others are collected.
abbrev pub Paths : List ℕ → Name → List ℕ → Collected → List ℕ → ℕ → ℕ → ℕ → List ℕ → List ℕ → Collected → Type 0
Paths s o xs c ws q left path us ys r =
    Gathered (λ u. collect_paths o (entries text u)) s xs c ws Item.names (le2 s q) (q + 2) left path us ys r

module _ {s xs ws : List ℕ} {c : Collected} {left : ℕ} (o : Name) (q : ℕ) where
  -- before the loop
  pub paths_begin : Room s ws c → PathsAt s q → left ≡ le2 s q → Paths s o xs c ws q left (q + 2) ws xs c
  paths_begin m p e = rw e (walk_begin (paths_walk o) m p.list)

  module _ {us ys : List ℕ} {path : ℕ} {r : Collected} (g : Paths s o xs c ws q left path us ys r) where
    -- the next path is a name
    pub path_here : 0 < left → Named s path
    path_here z = entry_named g.rest.here z

    module _ {vs zs : List ℕ} (z : 0 < left) where
      -- it was refused
      pub paths_stop : {e : Reason} → Behind s ys r us vs zs (Err e) (collect_paths o (name_at s path ∷ [])) → (p : PathsAt s q) →
          Behind s xs c ws vs zs (Err e) (collect_paths o (texts_of p.list.got.0))
      paths_stop f p = walk_stops (paths_walk o) g (λ l. next_path z l) (λ l. f) p.list

      -- its argument is collected
      pub paths_more : {a : Collected} {n p : ℕ} → Behind s ys r us vs zs (Ok a) (collect_paths o (name_at s path ∷ [])) → Fills r a →
          n ≡ left - 1 → p ≡ path + 2 + le2 s path →
          Paths s o xs c ws q n p vs zs a
      paths_more f k en ep = rw (en, ep) (walk_more (paths_walk o) g (λ l. next_path z l) (λ l. f) k)

    -- no path is left
    pub paths_end : left ≤ 0 → (p : PathsAt s q) → Behind s xs c ws us ys (Ok r) (collect_paths o (texts_of p.list.got.0))
    paths_end z p = walk_end (paths_walk o) g z p.list

-- ---- owners

module _ {s : List ℕ} {left owner : ℕ} (z : 0 < left) (l : Listed s 37 37 left owner) where
  -- the next owner
  abbrev pub owner_here : Accepted s 37 37 owner
  owner_here = (block_entry l z).child

  -- the list behind it
  abbrev pub next_owner : After l (tree owner_here) (owner + 4 + le4 s owner)
  next_owner = (block_entry l z).after

  -- it lies inside the set
  pub owner_inside : owner + 4 + le4 s owner ≤ length s
  owner_inside = omega (arith, next_owner.inside, l.fits)

-- the owners of a block of references are those of its list
owners_are : {s : List ℕ} {at : ℕ} (a : Accepted s 32 32 at) → owners_of (tree a) ≡ entries owner_of (listed a).list.got.0
owners_are a = ap (entries owner_of) (listed a).tree

-- Of the owners of the block at b, `left` are left, from `owner` on; the arguments of the others are collected.
abbrev pub Owners : List ℕ → List ℕ → Collected → List ℕ → ℕ → ℕ → ℕ → List ℕ → List ℕ → Collected → Type 0
Owners s xs c ws b left owner us ys r =
    Gathered (λ u. collect_callee_arguments (entries owner_of u)) s xs c ws (Item.blocks 37 37) (le2 s (b + 6))
    (b + 6 + 2) left owner us ys r

module _ {s xs ws : List ℕ} {c : Collected} {left : ℕ} (b : ℕ) where
  -- before the loop
  pub owners_begin : Room s ws c → Accepted s 32 32 b → left ≡ le2 s (b + 6) → Owners s xs c ws b left (b + 6 + 2) ws xs c
  owners_begin m a e = rw e (walk_begin owners_walk m (listed a).list)

  module _ {us ys : List ℕ} {owner : ℕ} {r : Collected} (g : Owners s xs c ws b left owner us ys r) where
    module _ {vs zs : List ℕ} {q at : ℕ} (z : 0 < left) (w : (a : Accepted s 37 37 owner) → OwnerAt a q) (en : at ≡ owner + 6) where
      -- what is collected of the paths of the next owner, by the owner that the definition has
      of_owner : {x : Result Collected Reason} →
          ((p : PathsAt s q) → Behind s ys r us vs zs x (collect_paths (name_at s at) (texts_of p.list.got.0))) →
          (a : Accepted s 37 37 owner) → Behind s ys r us vs zs x (collect_paths (owner_of (tree a)).name (owner_of (tree a)).paths)
      of_owner {x} f a =
          subst (λ (o : Owner). Behind s ys r us vs zs x (collect_paths o.name o.paths)) (sym (w a).is) ((rw en at f) (w a).paths)

      -- it was refused
      pub owners_stop : {e : Reason} →
          ((p : PathsAt s q) → Behind s ys r us vs zs (Err e) (collect_paths (name_at s at) (texts_of p.list.got.0))) →
          (a : Accepted s 32 32 b) → Behind s xs c ws vs zs (Err e) (collect_callee_arguments (owners_of (tree a)))
      owners_stop f a =
          rw (owners_are a) (walk_stops owners_walk g (λ l. next_owner z l) (λ l. of_owner f (owner_here z l)) (listed a).list)

      -- its arguments are collected
      pub owners_more : {a : Collected} {n p : ℕ} →
          ((p : PathsAt s q) → Behind s ys r us vs zs (Ok a) (collect_paths (name_at s at) (texts_of p.list.got.0))) →
          Fills r a → n ≡ left - 1 → p ≡ owner + 4 + le4 s owner → Owners s xs c ws b n p vs zs a
      owners_more f k e ep = rw (e, ep) (walk_more owners_walk g (λ l. next_owner z l) (λ l. of_owner f (owner_here z l)) k)

    -- no owner is left
    pub owners_end : left ≤ 0 → (a : Accepted s 32 32 b) → Behind s xs c ws us ys (Ok r) (collect_callee_arguments (owners_of (tree a)))
    owners_end z a = rw (owners_are a) (walk_end owners_walk g z (listed a).list)

-- ---- counting

-- the paths of owners are those that were counted and those of the owners that are left
pub record Counts (n : ℕ) (w u : Tree) : Type 0 where
  pub is : paths_in (entries owner_of w) ≡ n + paths_in (entries owner_of u)

-- an accepted list of n names has n names
texts_count : {s : List ℕ} {n at : ℕ} (l : Entries s Item.names n at) → length (texts_of l.got.0) ≡ n
unfolding entries
texts_count {s} {n} {at} l = go n at l
  where
    go : (n at : ℕ) (l : Entries s Item.names n at) → length (texts_of l.got.0) ≡ n
    go zero at l = ap (λ (y : Tree × ℕ). length (texts_of y.0)) (none_left l (omega arith))
    go (suc n) at l =
        let e = (name_entry l (omega arith)).2 in
        let f : (q : ℕ) (r : Entries s Item.names (suc n - 1) q) → length (texts_of r.got.0) ≡ n = rw sub-one (go n) in
        ap (λ (t : Tree). length (texts_of t)) e.tree ∙ ap suc (f (at + 2 + le2 s at) e.rest)

-- a block has at most 64 owners
pub owners_most : {s : List ℕ} {at : ℕ} → Accepted s 32 32 at → le2 s (at + 6) ≤ 64
owners_most a = (listed a).few

-- Of the owners of the block at b, `left` are left, from `at` on, and the others have n paths.
abbrev pub Count : List ℕ → ℕ → ℕ → ℕ → ℕ → Type 0
Count s b left at n = Left (Counts n) s (Item.blocks 37 37) (le2 s (b + 6)) (b + 6 + 2) left at

-- before the loop no owner is passed
pub count_begin : {s : List ℕ} (b : ℕ) {left : ℕ} → Accepted s 32 32 b → left ≡ le2 s (b + 6) → Count s b left (b + 6 + 2) 0
count_begin b a e = rw e (starts (λ t. record { is = omega arith }) (listed a).list)

module _ {s : List ℕ} (b : ℕ) {left at n : ℕ} where
  -- its paths are counted
  pub count_next : {k p q u : ℕ} → 0 < left → ((a : Accepted s 37 37 at) → OwnerAt a q) → u ≡ le2 s q → p ≡ at + 4 + le4 s at →
      k ≡ left - 1 → Count s b left at n →
      Count s b k p (n + u)
  unfolding entries paths_in
  count_next {p = p} {q = q} {u = u} h w eu ep ek c =
      rw (ek, ep) (steps (λ r. tree (owner_here h r)) (λ r. next_owner h r) (λ r x y p. record { is = p.is ∙ one r y }) c)
    where
      one : (r : Listed s 37 37 left at) (y : Tree) →
          n + paths_in (entries owner_of (cons (tree (owner_here h r)) y)) ≡ n + u + paths_in (entries owner_of y)
      one r y =
          let o = w (owner_here h r) in
          let l : length (owner_of (tree (owner_here h r))).paths ≡ le2 s q = ap (λ (z : Owner). length z.paths) o.is
          ∙ texts_count o.paths.list in
          omega (arith, l, eu)

  -- behind the last owner the count is that of all paths
  pub count_end : left ≤ 0 → Count s b left at n → (a : Accepted s 32 32 b) → n ≡ paths_in (owners_of (tree a))
  unfolding entries paths_in
  count_end h c a = let e = (ended h c (listed a).list).0.is in omega (arith, e, ap paths_in (owners_are a))

-- ---- the call

module _ {s x₃ x₄ ws us : List ℕ} {callee : ℕ} {h : TypeHead} {c : Collected} {r : Result Collected Reason} (m : c.made ≡ 0)
    (hd : (a : Accepted s 1 7 callee) → HeadAt a h)
    (f : (a : Accepted s 32 32 h.references) → Behind s x₃ c ws us x₄ r (collect_callee_arguments (owners_of (tree a)))) where
  -- the arguments of a call are those of its type's references
  call_arguments : (a : Accepted s 1 7 callee) →
      Collects s x₃ c [] us x₄ r (collect_callee_arguments (head (type_of (tree a))).dynamic_params [] (entries_of s ws c.count))
  call_arguments a = rw (hd a).owners ((f (hd a).references).collects [] (sym m))

-- the bytes of a call
call_puts : {xs x₁ x₂ x₃ x₄ ys : List ℕ} {at p u v r q : ℕ} (nm : List ℕ) (alignment count : ℕ) (as' : List IrArgument) →
    count ≡ length as' →
    Wrote xs at (node_start 133 alignment) x₁ p → Wrote x₁ p (text_flag true (code_at 133 2) ++ write (name nm)) x₂ u →
    Wrote x₂ u (count_part (code_at 133 3) count) x₃ v → Wrote x₃ v (write (entries_tree argument_tree as')) x₄ r →
    Wrote x₄ at (bytes 4 (r - at - 4)) ys q →
    Wrote xs at (write (node_tree (IrNode.CallNested unplaced (aligned alignment) nm as'))) ys r
unfolding node_tree
call_puts {x₂} {x₄} {u} {r} nm alignment count as' e w₁ w₂ w₃ w₄ w₅ =
    node_closed 133 alignment
    (cons (name nm) (cons (list_tree argument_tree as') nil)) w₁
    (parts (name nm) (cons (list_tree argument_tree as') nil) (call_name nm w₂)
    (parts (list_tree argument_tree as') nil
    (parts (num 2 (length as')) (entries_tree argument_tree as') (call_count (length as') (rw e at w₃)) w₄) (no_parts x₄ r))) w₅

module _ {s x₃ x₄ ws us xs ys : List ℕ} {callee at : ℕ} {h : TypeHead} {c : Collected} (m : c.made ≡ 0)
    (hd : (a : Accepted s 1 7 callee) → HeadAt a h) (nm : List ℕ) (alignment : ℕ) where
  -- an argument was refused
  pub call_stop : {e : Reason} →
      ((a : Accepted s 32 32 h.references) → Behind s x₃ c ws us x₄ (Err e) (collect_callee_arguments (owners_of (tree a)))) →
      (a : Accepted s 1 7 callee) → Builds s xs at us ys (Err e) (call_of (type_of (tree a)) nm alignment (entries_of s ws c.count))
  unfolding call_of
  call_stop f a = step_passes _ _ _ (call_arguments m hd f a)

  -- the call was written
  pub call_done : {r : Collected} {x₁ x₂ : List ℕ} {p u q : ℕ} (count : ℕ) →
      ((a : Accepted s 32 32 h.references) → Behind s x₃ c ws us x₄ (Ok r) (collect_callee_arguments (owners_of (tree a)))) →
      ((a : Accepted s 32 32 h.references) → count ≡ paths_in (owners_of (tree a))) → Wrote xs at (node_start 133 alignment) x₁ p →
      Wrote x₁ p (text_flag true (code_at 133 2) ++ write (name nm)) x₂ u → Wrote x₂ u (count_part (code_at 133 3) count) x₃ c.at →
      Wrote x₄ at (bytes 4 (r.at - at - 4)) ys q → (a : Accepted s 1 7 callee) →
      Builds s xs at us ys (Ok (record { at = r.at; count = r.count })) (call_of (type_of (tree a)) nm alignment (entries_of s ws c.count))
  unfolding call_of give
  call_done count f ef w₁ w₂ w₃ w₅ a =
      let (y, d, k) = answered (call_arguments m hd f a) in
      let i = owners_count (head (type_of (tree a))).dynamic_params [] (entries_of s ws c.count) y d in
      let e : count ≡ length k.new = omega (arith, i, ef (hd a).references, ap paths_in (hd a).owners, ap length k.are) in
      rw (step_done _ _ (entries_of s ws c.count) d, k.are)
      (AnswersIn.made _ (record { entries = k.entries; index = k.index; wrote = call_puts nm alignment count k.new e w₁ w₂ w₃ k.bytes w₅ }))

-- ---- a type reference

-- the target is in the set: the call of it
typeref_is : (types : List ResolvedType) (h : Head) (target : Name) (g : Registry) {t : ResolvedType} →
    get_type_info target types ≡ some t → build_typeref_node types h target g ≡ call_of t target h.alignment g
unfolding build_typeref_node call_of
typeref_is types h target g e = need_some 15 _ g e

-- it is not: refusal 15
typeref_none : (types : List ResolvedType) (h : Head) (target : Name) (g : Registry) → get_type_info target types ≡ none →
    build_typeref_node types h target g ≡ refused (plain 15)
unfolding build_typeref_node
typeref_none types h target g e = need_none 15 _ g e

-- a lookup that found a type: the type is accepted, and it is the answer
found_at_lem : {s : List ℕ} {n : Name} {ts : List ResolvedType} {f : std.Option ℕ} {o : ℕ} → f ≡ Some o → TypeFound s n ts f →
    (a : Accepted s 1 7 o) × (get_type_info n ts ≡ some (type_of (tree a)))
found_at_lem {s} {n} {ts} {o} e (TypeFound.at {o = p} a g w) =
    let i : p ≡ o = cc in
    subst (λ (k : ℕ). (a : Accepted s 1 7 k) × (get_type_info n ts ≡ some (type_of (tree a)))) i (a, g)
found_at_lem e (TypeFound.missing g) = absurd (cc)

-- a lookup that found nothing
found_none : {s : List ℕ} {n : Name} {ts : List ResolvedType} {f : std.Option ℕ} → f ≡ None → TypeFound s n ts f → get_type_info n ts ≡ none
found_none e (TypeFound.at a g w) = absurd (cc)
found_none e (TypeFound.missing g) = g

-- the type that is called is accepted
pub callee_at : {s : List ℕ} {n : Name} {f : std.Option ℕ} {o : ℕ} → f ≡ Some o → (t : Tree) × (read_set s ≡ done t) →
    ((t : Tree) → read_set s ≡ done t → TypeFound s n (types_of t) f) → Accepted s 1 7 o
callee_at e (t, d) k = (found_at_lem e (k t d)).0

module _ {s : List ℕ} {kind q : ℕ} {nm : List ℕ} {f : std.Option ℕ} (g : Registry) (tq : (a : Accepted s 1 7 kind) → TargetAt a q)
    (en : nm ≡ name_at s q)
    (k : (t : Tree) → read_set s ≡ done t → TypeFound s nm (types_of t) f) where
  -- the name that was looked up is the target
  target_is : (a : Accepted s 1 7 kind) {target : Name} → kind_of (type_of (tree a)) ≡ ResolvedTypeKind.TypeRef target → nm ≡ target
  target_is a e = let i = (tq a).is in cc

  -- no type has the name
  pub typeref_missing : {xs us ys : List ℕ} {at : ℕ} → f ≡ None → (t : Tree) (a : Accepted s 1 7 kind) (target : Name) →
      read_set s ≡ done t → kind_of (type_of (tree a)) ≡ ResolvedTypeKind.TypeRef target →
      Builds s xs at us ys (Err MissingType) (build_typeref_node (types_of t) (head (type_of (tree a))) target g)
  typeref_missing e t a target d i =
      rw (← target_is a i) (refuses (typeref_none (types_of t) (head (type_of (tree a))) nm g (found_none e (k t d))))

  -- the call of the type that was found
  pub typeref_done : {xs us ys : List ℕ} {at : ℕ} {h : TypeHead} {callee : ℕ} {r : Result Built Reason} →
      ((a : Accepted s 1 7 kind) → HeadAt a h) →
      f ≡ Some callee → ((a : Accepted s 1 7 callee) → Builds s xs at us ys r (call_of (type_of (tree a)) nm h.alignment g)) →
      (t : Tree) (a : Accepted s 1 7 kind) (target : Name) → read_set s ≡ done t →
      kind_of (type_of (tree a)) ≡ ResolvedTypeKind.TypeRef target →
      Builds s xs at us ys r (build_typeref_node (types_of t) (head (type_of (tree a))) target g)
  typeref_done hd e b t a target d i =
      let w = found_at_lem e (k t d) in
      rw (← target_is a i, typeref_is (types_of t) (head (type_of (tree a))) nm g w.1, (hd a).alignment) (b w.0)
