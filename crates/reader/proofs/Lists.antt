-- Lists of blocks: what the code keeps of the blocks before goes on as the definition's does.
use mathlib.Core.Path.{◌≡◌, refl, sym, ◌∙◌, ap, ap₂}
use mathlib.Core.Bool.{true}
use mathlib.Core.List.{List, [], ◌∷◌}
use mathlib.Core.Logic.{◌⊎◌, inl, inr}
use Prim.Native.Nat.{ℕ, zero, suc, ◌+◌, ◌-◌, ◌≤◌}
use native.Mathlib.Omega.{arith}
use native.Mathlib.Numerals.{add-one}
use lib.Dec.{leb, eqb}
use lib.ListN.{length, drop}
use borrow.Author.Tests.{leb-true}
use Rattle.errors.specs.Refusal.{done, ◌>>=◌}
use Rattle.errors.proofs.Laws.{done_one, not_done, asked, bound, bound_done}
use Rattle.blocks.specs.declared.Part.{Part}
use Rattle.blocks.specs.declared.Part.TheVariants.{Text, Key, Number, Flag, Size, OptNumber, OptText, Literal, Block, OptBlock, Blocks, Ascending, Distinct, Names, Paths, Values}
use Rattle.reader_grammar.proofs.Laws.{type_begins, tree_begins}
use Rattle.blocks.specs.Bytes.{le2, le4}
use Rattle.blocks.specs.Name.{Name}
use Rattle.blocks.specs.Grammar.{parts_of, within, find_row, grammar}
use Rattle.blocks.proofs.Name.{and_left, and_right}
use Rattle.blocks.specs.Tree.{Tree, name, num, block, nil, cons, number, part}
use Rattle.blocks.specs.Read.{Step, Earlier, Reader, name_of, paths_of, paths_before, met, read_key, read_count, read_entries, read_list, read_part, read_parts, read_header, read_block}
use Rattle.roundtrip.proofs.Accepted.{header_got}
use Rattle.reader_leaf.specs.declared.Seen.{Seen}
use Rattle.reader_leaf.specs.declared.Seen.TheVariants.{Nothing, Owners, Types}
use Rattle.reader_leaf.specs.Answer.{forget}
use Rattle.reader_leaf.specs.Seen.{Plain, name_at, behind, names_before, Fresh, last_of, Valid, Here, earlier_of, grown_of, Grows}
use Rattle.reader_leaf.proofs.Laws.{taken}
use Rattle.reader_leaf.proofs.Lists.{key_done, list_of, list_bad, entries_none, entries_stop, entries_go}
use Rattle.reader_leaf.proofs.Distinct.{stand_more, behind_more, stand_none}
use Rattle.reader.specs.Before.{Suits, Before}

-- ---- an accepted block

-- A block that was read: its kind, its end, and its parts, read with one block more open.
pub record Opened (room : ℕ) (s : List ℕ) (e : Earlier) (lo hi at end : ℕ) (x : Tree × ℕ) : Type 0 where
  pub rb : Reader
  pub tree : Tree × ℕ
  pub kind : within lo hi (le2 s (at + 4)) ≡ true
  pub high : at + 4 + le4 s at ≤ end
  pub parts : read_parts rb s e at (at + 4 + le4 s at) (parts_of (le2 s (at + 4))) (at + 6) ≡ done tree
  pub same : (block at (le2 s (at + 4)) tree.0, at + 4 + le4 s at) ≡ x

-- a block that was read is opened: header, parts and end
pub opened : (room : ℕ) (s : List ℕ) (e : Earlier) (lo hi at end : ℕ) (x : Tree × ℕ) → read_block room s e lo hi at end ≡ done x → Opened room s e lo hi at end x
unfolding read_block
opened zero s e lo hi at end x d = absurd (not_done (bound (read_header s lo hi at end) _ _ d).2)
opened (suc room) s e lo hi at end x d =
    let a = bound (read_header s lo hi at end) _ _ d in
    let h = header_got s lo hi at end a.0 a.1 in
    let b = bound (read_parts (read_block room s) s e at (at + 4 + le4 s at) (parts_of (le2 s (at + 4))) (at + 6)) _ _ (sym (bound_done _ h.read) ∙ d) in
    let q = asked (eqb b.0.1 (at + 4 + le4 s at)) _ _ _ b.2 in
    record { rb = read_block room s; tree = b.0; kind = h.known; high = h.high; parts = b.1; same = done_one q.1 }

-- ---- a block that begins with a name

-- its name, and its other parts
record Headed (rb : Reader) (s : List ℕ) (e : Earlier) (start end : ℕ) (ps : List Part) (at : ℕ) (y : Tree × ℕ) : Type 0 where
  behind_name : Tree × ℕ
  inside : at + 2 + le2 s at ≤ end
  others : read_parts rb s e start end ps (at + 2 + le2 s at) ≡ done behind_name
  same : cons (name (name_at s at)) behind_name.0 ≡ y.0

-- parts of which the first is a name: name and others
headed : (rb : Reader) (s : List ℕ) (e : Earlier) (start end : ℕ) (ps : List Part) (at : ℕ) (y : Tree × ℕ) → read_parts rb s e start end (Key ∷ ps) at ≡ done y → Headed rb s e start end ps at y
unfolding read_parts read_part
headed rb s e start end ps at y d =
    let a = bound (read_key s start end e at) _ _ d in
    let k = key_done s start end e at a.0 a.1 in
    let b = bound (read_parts rb s e start end ps a.0.1) _ _ a.2 in
    let f : at + 2 + le2 s at ≡ a.0.1 = ap (λ (z : Tree × ℕ). z.1) k.0 in
    let g : name (name_at s at) ≡ a.0.0 = ap (λ (z : Tree × ℕ). z.0) k.0 in
    record {
      behind_name = b.0;
      inside = k.1;
      others = rw f b.1;
      same = rw g (ap (λ (z : Tree × ℕ). z.0) (done_one b.2));
    }

-- an owner's paths
record Counted (s : List ℕ) (e : Earlier) (end at : ℕ) (y : Tree × ℕ) : Type 0 where
  entries : Tree
  none : Tree
  inside : at + 2 ≤ end
  bounded : le2 s at ≤ 64 - paths_before e
  same : cons (cons (num 2 (le2 s at)) entries) none ≡ y.0

-- the paths that were read: their count, within what the owners before leave
counted : (rb : Reader) (s : List ℕ) (e : Earlier) (start end at : ℕ) (y : Tree × ℕ) → read_parts rb s e start end (Paths 64 ∷ []) at ≡ done y → Counted s e end at y
unfolding read_parts read_part read_list read_count ◌>>=◌
counted rb s e start end at y d =
    let l = read_list (read_key s start end) (Earlier.ascending [] 0) (64 - paths_before e) s start end at in
    let a = bound l _ _ d in
    let n = bound (read_count (64 - paths_before e) s start end at) _ _ a.1 in
    let q1 = asked (leb (at + 2) end) _ _ _ n.1 in
    let q2 = asked (leb (le2 s at) (64 - paths_before e)) _ _ _ q1.1 in
    let f : num 2 (le2 s at) ≡ n.0.0 = ap (λ (z : Tree × ℕ). z.0) (done_one q2.1) in
    let m = bound (read_entries (read_key s start end) (Earlier.ascending [] 0) (number n.0.0) n.0.1) _ _ n.2 in
    let g : cons n.0.0 m.0.0 ≡ a.0.0 = ap (λ (z : Tree × ℕ). z.0) (done_one m.2) in
    record {
      entries = m.0.0;
      none = nil;
      inside = leb-true _ _ q1.0;
      bounded = leb-true _ _ q2.0;
      same = ap (λ (t : Tree). cons (cons t m.0.0) nil) f ∙ ap (λ (t : Tree). cons t nil) g ∙ ap (λ (z : Tree × ℕ). z.0) (done_one a.2);
    }

-- ---- one block more

-- what a list needs of a block that begins with a name
record Met (s : List ℕ) (at end : ℕ) (x : Tree × ℕ) : Type 0 where
  named : name_of x.0 ≡ name_at s (at + 6)
  stop : x.1 ≡ at + 4 + le4 s at
  inside : at + 6 + 2 + le2 s (at + 6) ≤ end

-- a block that begins with a name has what a list needs
type_met : {room : ℕ} {s : List ℕ} {e : Earlier} {lo hi at end : ℕ} {x : Tree × ℕ} → Opened room s e lo hi at end x → (ps : List Part) → parts_of (le2 s (at + 4)) ≡ Key ∷ ps → Met s at end x
unfolding name_of
type_met {s = s} {e} {at = at} o ps h =
    let g = headed o.rb s e at (at + 4 + le4 s at) ps (at + 6) o.tree (rw h at o.parts) in
    record {
      named = ap (λ (z : Tree × ℕ). name_of z.0) (sym o.same) ∙ ap name_of (sym g.same);
      stop = ap (λ (z : Tree × ℕ). z.1) (sym o.same);
      inside = omega (arith, g.inside, o.high);
    }

-- and of an owner
record OwnerMet (s : List ℕ) (e : Earlier) (at end : ℕ) (x : Tree × ℕ) : Type 0 where
  paths : paths_of x.0 ≡ le2 s (at + 6 + 2 + le2 s (at + 6))
  bounded : le2 s (at + 6 + 2 + le2 s (at + 6)) ≤ 64 - paths_before e
  inside : at + 6 + 2 + le2 s (at + 6) + 2 ≤ end

-- a kind from 37 to 37 is 37
only : (lo hi k : ℕ) → lo ≡ 37 → hi ≡ 37 → within lo hi k ≡ true → k ≡ 37
only lo hi k f g h = omega (arith, leb-true lo k (and_left (leb lo k) (leb k hi) h), leb-true k hi (and_right (leb lo k) (leb k hi) h))

-- an owner is a name and paths
owner_parts : parts_of 37 ≡ Key ∷ Paths 64 ∷ []
unfolding parts_of find_row grammar
owner_parts = refl

-- how many paths a tree of that shape has
shaped : (at k c : ℕ) (n : Tree) (t u : Tree) → k ≡ 37 → paths_of (block at k (cons n (cons (cons (num 2 c) t) u))) ≡ c
unfolding part
shaped at k c n t u h = rw h

-- an owner's paths are counted where the code counts them
owner_met : {room : ℕ} {s : List ℕ} {e : Earlier} {lo hi at end : ℕ} {x : Tree × ℕ} → Opened room s e lo hi at end x → le2 s (at + 4) ≡ 37 → OwnerMet s e at end x
owner_met {s = s} {e} {at = at} {x = x} o h =
    let g = headed o.rb s e at (at + 4 + le4 s at) (Paths 64 ∷ []) (at + 6) o.tree (rw (h, owner_parts) at o.parts) in
    let n = counted o.rb s e at (at + 4 + le4 s at) (at + 6 + 2 + le2 s (at + 6)) g.behind_name g.others in
    let t : cons (name (name_at s (at + 6))) (cons (cons (num 2 (le2 s (at + 6 + 2 + le2 s (at + 6)))) n.entries) n.none) ≡ o.tree.0 = rw n.same g.same in
    let b : block at (le2 s (at + 4)) o.tree.0 ≡ x.0 = ap (λ (z : Tree × ℕ). z.0) o.same in
    record {
      paths = rw (← b, ← t) (shaped at (le2 s (at + 4)) _ _ _ _ h);
      bounded = n.bounded;
      inside = omega (arith, n.inside, o.high);
    }

-- n blocks are at least n bytes
behind_count : (s : List ℕ) (first n : ℕ) → n ≤ behind s first n
unfolding behind
behind_count s first zero = omega arith
behind_count s first (suc n) = omega (arith, behind_count s first n)

module _ (s : List ℕ) (first count at : ℕ) (h : at ≡ behind s first count) where
  -- one name more stands before
  names_more : {n : Name} → n ≡ name_at s (at + 6) → ◌≡◌ {A = List Name} (n ∷ names_before s first count) (names_before s first (count + 1))
  unfolding names_before
  names_more e = rw (e, add-one count, ← h)

  -- the last name is now this block's
  last_more : at + 6 ≡ last_of s first (count + 1)
  unfolding last_of
  last_more = rw (add-one count, ← h)

-- the next block, once one is read
pub record Next (s : List ℕ) (seen : Seen) (lo hi at : ℕ) (x : Tree × ℕ) : Type 0 where
  pub grows : Grows s seen at
  pub same : met (earlier_of s seen) x.0 ≡ earlier_of s (grown_of s seen at)
  pub before : Before s (grown_of s seen at) lo hi x.1

module _ (room : ℕ) (s : List ℕ) (lo hi at end : ℕ) (fits : end ≤ length s) (x : Tree × ℕ) where
  -- a type or a type tree was read: what is kept of the names grows by one
  types_next : (first count fresh : ℕ) → Before s (Types first count fresh) lo hi at
      → read_block room s (earlier_of s (Types first count fresh)) lo hi at end ≡ done x → Next s (Types first count fresh) lo hi at x
  unfolding earlier_of grown_of Grows Valid Here Suits
  types_next first count fresh b d =
      let h : at ≡ behind s first count = omega (arith, b.here) in
      let o = opened room s _ lo hi at end x d in
      let k = b.suits (le2 s (at + 4)) o.kind in
      let m = type_met o k.0 k.1 in
      record {
        grows = (omega (arith, behind_count s first count, h), omega (arith, m.inside));
        same = ap Earlier.distinct (names_more s first count at h m.named);
        before = record {
          valid = (stand_more s first count at h b.valid.0 (omega (arith, m.inside)), b.valid.1);
          here = ap (λ (i : ℕ). i + 6) (behind_more s first count at h m.stop);
          suits = b.suits;
        };
      }

  -- an owner was read: names and paths grow
  owners_next : (first count last paths : ℕ) → Before s (Owners first count last paths) lo hi at
      → read_block room s (earlier_of s (Owners first count last paths)) lo hi at end ≡ done x → Next s (Owners first count last paths) lo hi at x
  unfolding earlier_of grown_of Grows Valid Here Suits
  owners_next first count last paths b d =
      let h : at ≡ behind s first count = omega (arith, b.here) in
      let o = opened room s _ lo hi at end x d in
      let k = only lo hi (le2 s (at + 4)) b.suits.0 b.suits.1 o.kind in
      let m = type_met o (Paths 64 ∷ []) (rw k owner_parts) in
      let w = owner_met o k in
      record {
        grows = (omega (arith, behind_count s first count, h), omega (arith, w.inside), b.valid.2);
        same = ap₂ (λ (ns : List Name) (p : ℕ). Earlier.ascending ns (paths + p)) (names_more s first count at h m.named) w.paths;
        before = record {
          valid = (stand_more s first count at h b.valid.0 (omega (arith, m.inside)), last_more s first count at h, omega (arith, w.bounded, b.valid.2));
          here = ap (λ (i : ℕ). i + 6) (behind_more s first count at h m.stop);
          suits = b.suits;
        };
      }

  -- a block was read: what is kept grows as the definition's does
  pub next : (seen : Seen) → Before s seen lo hi at → read_block room s (earlier_of s seen) lo hi at end ≡ done x → Next s seen lo hi at x
  unfolding earlier_of grown_of Grows Valid Here Suits
  next Nothing b d = record { grows = tt; same = refl; before = record { valid = tt; here = tt; suits = tt } }
  next (Owners first count last paths) b d = owners_next first count last paths b d
  next (Types first count fresh) b d = types_next first count fresh b d

-- ---- the list's loop

module _ (room : ℕ) (s : List ℕ) (lo hi end : ℕ) where
  -- reads one block of the list
  abbrev pub entry : Earlier → ℕ → Step
  entry f a = read_block room s f lo hi a end

  module _ (fits : end ≤ length s) {seen : Seen} {at m : ℕ} (b : Before s seen lo hi at) (d : forget (read_block room s (earlier_of s seen) lo hi at end) ≡ done m) where
    -- so the code may add the block to what it keeps
    pub list_grows : Grows s seen at
    list_grows = let t = taken (read_block room s (earlier_of s seen) lo hi at end) d in (next room s lo hi at end fits t.0 seen b t.1).grows

    -- and the blocks left behind it decide
    pub list_go : {left : ℕ} (more : ℕ) {r : Seen} → left ≡ more + 1 → r ≡ grown_of s seen at →
        Before s r lo hi m × (forget (read_entries entry (earlier_of s seen) left at) ≡ forget (read_entries entry (earlier_of s r) more m))
    list_go more h g =
        let t = taken (read_block room s (earlier_of s seen) lo hi at end) d in
        let n = next room s lo hi at end fits t.0 seen b t.1 in
        rw (g, ← t.2) (n.before, rw (← n.same) (entries_go entry (earlier_of s seen) more at t.0 h t.1))

-- all that a list of blocks needs, one after the other
pub ruleset lists = (list_of, list_bad, entries_none, entries_stop, list_grows, list_go)

-- ---- where a list begins

module _ (s : List ℕ) (lo hi at : ℕ) where
  -- of a list with no order nothing is kept
  pub nothing_before : Before s Nothing lo hi at
  unfolding Valid Here Suits
  nothing_before = record { valid = tt; here = tt; suits = tt }

  -- and nothing is asked of what is kept
  pub nothing_valid : Valid s Nothing
  unfolding Valid
  nothing_valid = tt

  -- wherever a block stands
  pub nothing_here : Here s Nothing at
  unfolding Here
  nothing_here = tt

  -- at the start of a list of owners
  pub owners_before : (lo ≡ 37) × (hi ≡ 37) → Before s (Owners at 0 0 0) lo hi at
  unfolding Valid Here Suits behind last_of
  owners_before h = record { valid = (stand_none s at, refl, omega arith); here = refl; suits = h }

  -- at the start of a list of types or of type trees
  pub types_before : {fresh : ℕ} → Fresh s at fresh → ((lo ≡ 1) × (hi ≡ 7)) ⊎ ((lo ≡ 161) × (hi ≡ 161)) → Before s (Types at 0 fresh) lo hi at
  unfolding Valid Here Suits behind
  types_before f h = record { valid = (stand_none s at, f); here = refl; suits = λ k w. begins k (leb-true lo k (and_left (leb lo k) (leb k hi) w)) (leb-true k hi (and_right (leb lo k) (leb k hi) w)) h }
    where
      begins : (k : ℕ) → lo ≤ k → k ≤ hi → ((lo ≡ 1) × (hi ≡ 7)) ⊎ ((lo ≡ 161) × (hi ≡ 161)) → (ps : List Part) × (parts_of k ≡ Key ∷ ps)
      begins k a c (inl e) = (drop 1 (parts_of k), type_begins k (omega arith) (omega arith))
      begins k a c (inr e) = let z : k ≡ 161 = omega arith in rw z (drop 1 (parts_of 161), tree_begins)

-- ---- the parts that hold no block

-- a part that the match leaves to the last arm holds no block
pub plain : (p : Part) → ((lo hi : ℕ) → p ≡ Block lo hi → ⊥) → ((lo hi : ℕ) → p ≡ OptBlock lo hi → ⊥) → ((lo hi limit : ℕ) → p ≡ Blocks lo hi limit → ⊥)
    → ((lo hi limit : ℕ) → p ≡ Ascending lo hi limit → ⊥) → ((lo hi limit : ℕ) → p ≡ Distinct lo hi limit → ⊥) → Plain p
unfolding Plain
plain Text b o l a d = tt
plain Key b o l a d = tt
plain Number b o l a d = tt
plain Flag b o l a d = tt
plain Size b o l a d = tt
plain OptNumber b o l a d = tt
plain OptText b o l a d = tt
plain Literal b o l a d = tt
plain (Block lo hi) b o l a d = b lo hi refl
plain (OptBlock lo hi) b o l a d = o lo hi refl
plain (Blocks lo hi limit) b o l a d = l lo hi limit refl
plain (Ascending lo hi limit) b o l a d = a lo hi limit refl
plain (Distinct lo hi limit) b o l a d = d lo hi limit refl
plain (Names limit) b o l a d = tt
plain (Paths limit) b o l a d = tt
plain (Values limit) b o l a d = tt
