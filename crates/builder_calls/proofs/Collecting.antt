-- Collecting the arguments of a call: the definition step by step, and what one step behind another leaves.
use mathlib.Core.Path.{◌≡◌, refl, sym, ◌∙◌, ap, subst}
use mathlib.Core.Bool.{Bool, true, false}
use mathlib.Core.List.{List, [], ◌∷◌, ◌++◌, append_assoc, append-nil}
use Prim.Native.Nat.{ℕ, ◌+◌, ◌-◌, ◌≤◌, ◌<◌}
use native.Mathlib.Omega.{arith}
use lib.Dec.{leb, ltb}
use lib.ListN.{length, replicate, length-append, length-replicate}
use borrow.Author.Tests.{le-leb, lt-leb}
use Rattle.std.specs.Prelude.{Result, Ok, Err, IsErrAnd}
use Rattle.std.proofs.lemmas.Result.{err_from_is_err_and}
use Rattle.errors.specs.Refusal.{Outcome, done, refused, plain}
use Rattle.errors.specs.Refusal.{◌>>=◌ as ◌and_then◌}
use Rattle.errors.proofs.Laws.{done_one, bound}
use Rattle.errors.specs.declared.Reason.{Reason}
use Rattle.answers.specs.Answers.{AnswersIn}
use Rattle.answers.proofs.Laws.{answered, passes, goes}
use Rattle.blocks.specs.Name.{Name}
use Rattle.blocks.specs.Tree.{Tree, text, entries, nil, cons}
use Rattle.blocks.specs.Write.{write}
use Rattle.accepted.specs.Accepted.{Item, Entries}
use Rattle.accepted.proofs.Laws.{After}
use Rattle.accepted.proofs.Lists.{Left, starts, steps, ended}
use Rattle.resolved.specs.Resolved.{Owner}
use Rattle.resolved.specs.Set.{owner_of}
use Rattle.ir.specs.Ir.{IrArgument}
use Rattle.ir.specs.Layout.{entries_tree, argument_tree}
use Rattle.builder.specs.Names.{canonical_name}
use Rattle.builder.specs.Registry.{Registry, Build, ◌>>=◌, give, refuse, require, ensure}
use Rattle.builder.specs.Nodes.{argument, collect_paths, collect_callee_arguments}
use Rattle.wire.proofs.Laws.{both, no_parts}
use Rattle.builder_registry.specs.Words.{Indexed, entries_of}
use Rattle.builder_registry.proofs.Laws.{standing}
use Rattle.builder_calls.specs.declared.Collected.{Collected}
use Rattle.builder_calls.specs.Collected.{paths_in, CollectedIn, Collects, Behind, Fills, Room}

-- ---- the definition

module _ (o p : Name) (before : List IrArgument) (g : Registry) where
  -- what is done once the path is entered
  abbrev pub entered : Unit {0} × Registry → Outcome (List IrArgument × Registry)
  entered y = (require (ltb (length before) 512) 17 >>= (λ _. give (before ++ (argument (canonical_name o p) ∷ [])))) y.1

  -- a path whose canonical name is too long: refusal 17
  pub one_long : 255 < length (canonical_name o p) → collect_paths o (p ∷ []) before g ≡ refused (plain 17)
  unfolding collect_paths ◌>>=◌ ◌and_then◌ require refuse
  one_long h = rw (lt-leb _ _ h)

  -- one that is short enough is entered first
  pub one_short : length (canonical_name o p) ≤ 255 → collect_paths o (p ∷ []) before g ≡ ◌and_then◌ (ensure o p g) entered
  unfolding collect_paths ◌>>=◌ ◌and_then◌ require give
  one_short h = rw (le-leb _ _ h)

-- the paths of an owner: the first, then the others
pub paths_more : (o p : Name) (ps : List Name) (before : List IrArgument) (g : Registry) →
    collect_paths o (p ∷ ps) before g ≡ ◌and_then◌ (collect_paths o (p ∷ []) before g) (λ x. collect_paths o ps x.0 x.1)
unfolding collect_paths ◌>>=◌ ◌and_then◌ require give refuse
paths_more o p ps before g = go (leb (length (canonical_name o p)) 255) (ensure o p) (ltb (length before) 512)
  where
    next : List IrArgument
    next = before ++ (argument (canonical_name o p) ∷ [])

    then : (y : Outcome (Unit {0} × Registry)) (b : Bool) → ◌and_then◌ y (λ x. (require b 17 >>= (λ _. collect_paths o ps next)) x.1) ≡
        ◌and_then◌ (◌and_then◌ y (λ x. (require b 17 >>= (λ _. give next)) x.1)) (λ x. collect_paths o ps x.0 x.1)
    then (done y) true = refl
    then (done y) false = refl
    then (refused q) b = refl

    go : (a : Bool) (e : Build Unit) (b : Bool) → (require a 17 >>= (λ _. e >>= (λ _. require b 17 >>= (λ _. collect_paths o ps next)))) g ≡
        ◌and_then◌ ((require a 17 >>= (λ _. e >>= (λ _. require b 17 >>= (λ _. give next)))) g) (λ x. collect_paths o ps x.0 x.1)
    go true e b = then (e g) b
    go false e b = refl

-- where collecting succeeds, there is an argument for each path
paths_count : (o : Name) (ps : List Name) (before : List IrArgument) (g : Registry) (y : List IrArgument × Registry) →
    collect_paths o ps before g ≡ done y → length y.0 ≡ length before + length ps
unfolding collect_paths ◌>>=◌ give
paths_count o [] before g y h = let e : done (before, g) ≡ done y = h in
    omega (arith, ap (λ (z : List IrArgument × Registry). length z.0) (done_one e))
paths_count o (p ∷ ps) before g y h =
    let a = bound (require (leb (length (canonical_name o p)) 255) 17 g) _ _ h in
    let b = bound (ensure o p a.0.1) _ _ a.2 in
    let c = bound (require (ltb (length before) 512) 17 b.0.1) _ _ b.2 in
    let i = paths_count o ps (before ++ (argument (canonical_name o p) ∷ [])) c.0.1 y c.2 in
    omega (arith, i, length-append before (argument (canonical_name o p) ∷ []))

-- and so for the paths of all owners: the count that is written in front is right
pub owners_count : (os : List Owner) (before : List IrArgument) (g : Registry) (y : List IrArgument × Registry) →
    collect_callee_arguments os before g ≡ done y → length y.0 ≡ length before + paths_in os
unfolding collect_callee_arguments paths_in ◌>>=◌ give
owners_count [] before g y h = let e : done (before, g) ≡ done y = h in
    omega (arith, ap (λ (z : List IrArgument × Registry). length z.0) (done_one e))
owners_count (o ∷ os) before g y h =
    let a = bound (collect_paths o.name o.paths before g) _ _ h in
    let i = owners_count os a.0.0 a.0.1 y a.2 in
    omega (arith, i, paths_count o.name o.paths before g a.0 a.1)

-- ---- what collecting leaves

-- the bytes of arguments behind others
entries_append : (as' bs : List IrArgument) →
    write (entries_tree argument_tree (as' ++ bs)) ≡ write (entries_tree argument_tree as') ++ write (entries_tree argument_tree bs)
unfolding entries_tree write
entries_append [] bs = refl
entries_append (a ∷ as') bs =
    ap (λ (l : List ℕ). write (argument_tree a) ++ l) (entries_append as' bs)
    ∙ sym (append_assoc (write (argument_tree a)) (write (entries_tree argument_tree as')) (write (entries_tree argument_tree bs)))

-- nothing is collected
collects_none : {s xs ws : List ℕ} {c : Collected} (before : List IrArgument) → Indexed s ws c.count → length before ≡ c.made →
    Collects s xs c before ws xs (Ok c) (done (before, entries_of s ws c.count))
unfolding entries_tree
collects_none {xs = xs} {c = c} before i e =
    AnswersIn.made _ (record { new = []; are = sym (append-nil before); made = sym e; entries = refl; index = i; bytes = no_parts xs c.at })

module _ {s xs vs zs us ys : List ℕ} {c a : Collected} {before : List IrArgument} {y : List IrArgument × Registry}
    (m : CollectedIn s xs c before vs zs a y) where
  -- arguments collected behind those of a first step are collected behind what was there before it
  behind_both : {r : Collected} {x : List IrArgument × Registry} → CollectedIn s zs a y.0 us ys r x → CollectedIn s xs c before us ys r x
  behind_both v =
      record {
        new = m.new ++ v.new;
        are = v.are ∙ ap (λ (l : List IrArgument). l ++ v.new) m.are ∙ append_assoc before m.new v.new;
        made = v.made;
        entries = v.entries;
        index = v.index;
        bytes = rw (entries_append m.new v.new) (both m.bytes v.bytes);
      }

  -- so is the refusal of a second step
  collects_both : {r : Result Collected Reason} {o : Outcome (List IrArgument × Registry)} → Collects s zs a y.0 us ys r o →
      Collects s xs c before us ys r o
  collects_both (AnswersIn.made x v) = AnswersIn.made x (behind_both v)
  collects_both AnswersIn.not = AnswersIn.not

-- where a `?` hands a reason on, that is what was answered
pub behind_hands : {s xs ws us ys : List ℕ} {c : Collected} {x : List IrArgument → Build (List IrArgument)} (r : Result Collected Reason)
    {e : Reason} →
    IsErrAnd r (λ d. d ≡ e) → Behind s xs c ws us ys (Err e) x → Behind s xs c ws us ys r x
behind_hands r h b = let q = err_from_is_err_and r h in rw (q.1, q.2) b

-- where something was collected, the words hold the index of the entries
pub behind_index : {s xs ws us ys : List ℕ} {c r : Collected} {x : List IrArgument → Build (List IrArgument)} →
    Behind s xs c ws us ys (Ok r) x → Indexed s us r.count
behind_index {c = c} b = (answered (b.collects (replicate c.made (argument [])) (length-replicate c.made (argument [])))).2.index

-- ---- the cursor, and how many arguments there are

-- nothing is collected
pub fills_none : {s ws : List ℕ} {c : Collected} → Room s ws c → Fills c c
fills_none m = record { low = omega arith; high = omega arith; more = omega arith; most = m.most; count = m.standing.count }

-- one step behind another
pub fills_both : {c a r : Collected} → Fills c a → Fills a r → Fills c r
fills_both f g = record { low = omega arith; high = omega arith; more = omega arith; most = g.most; count = g.count }

-- behind what was collected there is room for the others
pub room_more : {s ws us : List ℕ} {c r : Collected} → Room s ws c → length us ≡ length ws → Fills c r → Indexed s us r.count → Room s us r
room_more m e f i = record { standing = standing m.standing e f.count i; most = f.most; cursor = omega (arith, m.cursor, f.high) }

-- ---- a list, entry by entry

-- Both loops over a list (the paths of an owner, the owners of a block) collect what `one` collects of an entry, and `all` is what the
-- definition collects of the list.
pub record Walk (one all : Tree → List IrArgument → Build (List IrArgument)) : Type 0 where
  pub none : (before : List IrArgument) (g : Registry) → all nil before g ≡ done (before, g)
  pub more : (t u : Tree) (before : List IrArgument) (g : Registry) →
      all (cons t u) before g ≡ ◌and_then◌ (one t before g) (λ x. all u x.0 x.1)

-- the paths of an owner
pub paths_walk : (o : Name) → Walk (λ t. collect_paths o (text t ∷ [])) (λ u. collect_paths o (entries text u))
unfolding collect_paths entries give
paths_walk o = record { none = λ before g. refl; more = λ t u before g. paths_more o (text t) (entries text u) before g }

-- owners, each with its paths
pub owners_walk : Walk (λ t. collect_paths (owner_of t).name (owner_of t).paths) (λ u. collect_callee_arguments (entries owner_of u))
unfolding collect_callee_arguments entries give ◌>>=◌
owners_walk = record { none = λ before g. refl; more = λ t u before g. refl }

-- Collected so far, at r: whatever then collects those that are left, u, has collected all of them, w.
abbrev pub Goes : (Tree → List IrArgument → Build (List IrArgument)) → List ℕ → List ℕ → Collected → List ℕ → List ℕ → List ℕ → Collected →
    Tree → Tree → Type 0
Goes all s xs c ws us ys r w u =
    (vs zs : List ℕ) (a : Result Collected Reason) → Behind s ys r us vs zs a (all u) → Behind s xs c ws vs zs a (all w)

-- Of a list of n entries that begins at `at`, `left` are left, from q on. The others are collected, from c on.
pub record Gathered (all : Tree → List IrArgument → Build (List IrArgument)) (s xs : List ℕ) (c : Collected) (ws : List ℕ) (i : Item)
    (n at left q : ℕ) (us ys : List ℕ) (r : Collected) : Type 0 where
  pub fills : Fills c r
  pub index : Indexed s us r.count
  pub rest : Left (Goes all s xs c ws us ys r) s i n at left q

-- so there is room for the next
pub room_left : {all : Tree → List IrArgument → Build (List IrArgument)} {s xs ws us ys : List ℕ} {c r : Collected} {i : Item}
    {n at left q : ℕ} →
    Gathered all s xs c ws i n at left q us ys r → Room s ws c → length us ≡ length ws → Room s us r
room_left g m e = room_more m e g.fills g.index

module _ {one all : Tree → List IrArgument → Build (List IrArgument)} (w : Walk one all) {s xs ws : List ℕ} {c : Collected} {i : Item}
    {n at : ℕ} where
  -- before the first entry nothing is collected
  pub walk_begin : Room s ws c → Entries s i n at → Gathered all s xs c ws i n at n at ws xs c
  walk_begin m l = record { fills = fills_none m; index = m.standing.index; rest = starts (λ t vs zs a b. b) l }

  module _ {us ys : List ℕ} {r : Collected} {left q : ℕ} (g : Gathered all s xs c ws i n at left q us ys r) where
    module _ {vs zs : List ℕ} {p : ℕ} {t : Entries s i left q → Tree} (h : (l : Entries s i left q) → After l (t l) p) where
      -- the next entry is refused: so is the list
      pub walk_stops : {e : Reason} → ((l : Entries s i left q) → Behind s ys r us vs zs (Err e) (one (t l))) → (l : Entries s i n at) →
          Behind s xs c ws vs zs (Err e) (all l.got.0)
      walk_stops {e} f l =
          let m = g.rest.whole l in
          let a = h m.0 in
          let b : Behind s ys r us vs zs (Err e) (all m.0.got.0) =
          record { collects = λ before k. rw (a.tree, w.more (t m.0) a.rest.got.0 before _) (passes _ ((f m.0).collects before k)) } in
          m.1 vs zs (Err e) b

      -- what is collected of the next entry, and then of those behind it
      goes_on : {a : Collected} (l : Entries s i left q) (u : Tree) → Behind s ys r us vs zs (Ok a) (one (t l)) →
          {us' ys' : List ℕ} {x : Result Collected Reason} →
          Behind s zs a vs us' ys' x (all u) → Behind s ys r us us' ys' x (all (cons (t l) u))
      goes_on {a} l u f {us'} {ys'} {x} b =
          record {
            collects = λ before k. rw (w.more (t l) u before _)
                (goes _ (f.collects before k) (λ y m. collects_both m
                (subst (λ (j : Registry). Collects s zs a y.0 us' ys' x (all u y.0 j)) m.entries (b.collects y.0 (sym m.made)))));
          }

      -- the next entry is collected
      pub walk_more : {a : Collected} → ((l : Entries s i left q) → Behind s ys r us vs zs (Ok a) (one (t l))) → Fills r a →
          Gathered all s xs c ws i n at (left - 1) p vs zs a
      walk_more f k = record {
        fills = fills_both g.fills k;
        index = behind_index (f g.rest.here);
        rest = steps t h (λ l w' u m vs' zs' x b. m vs' zs' x (goes_on l u (f l) b)) g.rest;
      }

    -- no entry is left: all are collected
    pub walk_end : left ≤ 0 → (l : Entries s i n at) → Behind s xs c ws us ys (Ok r) (all l.got.0)
    walk_end z l =
        (ended z g.rest l).0 us ys (Ok r) (record { collects = λ before e. rw (w.none before _) (collects_none before g.index e) })
