-- Each part of a block that holds no block, as the code sees it: the tree is forgotten.
use mathlib.Core.Path.{◌≡◌, refl, sym, ◌∙◌, ap}
use mathlib.Core.Bool.{Bool, true, false, not, not-not, ◌||◌}
use mathlib.Core.List.{List, [], ◌∷◌}
use Prim.Native.Nat.{ℕ, zero, suc, ◌+◌, ◌-◌, ◌^◌, ◌<◌, ◌≤◌}
use native.Mathlib.Omega.{arith}
use lib.Dec.{leb, ltb, eqb}
use lib.ListN.{get_or, take, drop, get_or-eq_default}
use borrow.Author.Tests.{le-leb, eq-eqb, ne_eqb, ltb-true, ltb-false}
use Rattle.errors.specs.Refusal.{Refusal, Outcome, done, refused, ◌>>=◌, ask, unread}
use Rattle.errors.proofs.Laws.{asked}
use Rattle.blocks.specs.Bytes.{le2, bytes_at}
use Rattle.blocks.specs.Name.{Name, is_text, same, less, among}
use Rattle.blocks.specs.Tree.{Tree, name, num, cons}
use Rattle.blocks.specs.Read.{Step, Earlier, paths_before, in_order, name_of, signed_in, in_type, read_text, read_key, read_flag, read_if, read_optional}
pub use Rattle.wire.proofs.Names.{name_part}
use Rattle.std.specs.Prelude.{Option, is_some}
use Rattle.wire.specs.declared.Position.{Position}
use Rattle.wire.specs.Named.{BlockNamed}
use Rattle.blocks.proofs.Blocks.{passed_at, passed_not}
use types.Run.{OneOf, miss}
use denote.Enum.Declared.{tag_of}
use Rattle.blocks.specs.declared.Part.{Part}
use Rattle.blocks.specs.contracts.Part.{the_type}
use Rattle.blocks.specs.declared.Part.TheVariants.{Text, Key, Number, Flag, Size, OptNumber, OptText, Literal, Block, OptBlock, Blocks, Ascending, Distinct, Names, Paths, Values}
use Rattle.reader_leaf.specs.declared.Seen.{Seen}
use Rattle.reader_leaf.specs.declared.Seen.TheVariants.{Nothing, Owners, Types}
use Rattle.reader_leaf.specs.Answer.{forget}
use Rattle.reader_leaf.specs.Seen.{name_at, LastIn, behind, names_before, last_of, last_name, Stand, earlier_of, seen_paths, Plain}

-- what was read, where the code says that something was
pub taken : (o : Step) {n : ℕ} → forget o ≡ done n → (x : Tree × ℕ) × (o ≡ done x) × (x.1 ≡ n)
unfolding forget
taken (done x) e = (x, refl, cc)
taken (refused r) e = let z : ◌≡◌ {A = ℕ} 0 1 = cc in absurd (omega arith)

-- a refusal on the way decides
pub stopped : (o : Step) (k : (Tree × ℕ) → Step) {r : Refusal} → forget o ≡ refused r → forget (o >>= k) ≡ refused r
unfolding forget ◌>>=◌
stopped (done x) k e = let z : ◌≡◌ {A = ℕ} 0 1 = cc in absurd (omega arith)
stopped (refused r) k e = e

-- behind something that was read, only offsets count
pub then : (t : Tree) (y : Step) → forget (y >>= (λ z. done (cons t z.0, z.1))) ≡ forget y
unfolding forget ◌>>=◌
then t (done z) = refl
then t (refused r) = refl

-- where the first of two was read, the second decides
pub goes : (o : Step) (k : ℕ → Step) {m : ℕ} → forget o ≡ done m → forget (o >>= (λ x. k x.1 >>= (λ y. done (cons x.0 y.0, y.1)))) ≡ forget (k m)
unfolding forget ◌>>=◌
goes (done x) k {m} e = let h : x.1 ≡ m = cc in then x.0 (k x.1) ∙ ap (λ (i : ℕ). forget (k i)) h
goes (refused r) k e = let z : ◌≡◌ {A = ℕ} 0 1 = cc in absurd (omega arith)

module _ (s : List ℕ) (start end at : ℕ) where
  -- ---- a text

  module _ (n : ℕ) (l : n ≡ le2 s at) (h : at + 2 ≤ end) (g : at + 2 + n ≤ end) where
    -- a text whose bytes lie inside: question 3 decides
    pub text_is : (b : Bool) → b ≡ is_text (take (at + 2 + n - (at + 2)) (drop (at + 2) s)) →
        forget (read_text s start end at) ≡ forget (ask b (unread 3 start) >>= (λ u. done (name (name_at s at), at + 2 + n)))
    unfolding read_text ◌>>=◌ ask
    text_is b e =
        let f : is_text (name_at s at) ≡ b = sym (e ∙ ap is_text (name_part s at n l)) in
        let d : at + 2 + le2 s at ≤ end = omega arith in
        rw (l, le-leb _ _ h, le-leb _ _ d, f)

  -- a text that the code accepts: the definition's tree and end
  pub text_done : {n : ℕ} → forget (read_text s start end at) ≡ done n → read_text s start end at ≡ done (name (name_at s at), at + 2 + le2 s at)
  unfolding read_text
  text_done e =
      let t = taken (read_text s start end at) e in
      let q1 = asked (leb (at + 2) end) _ _ _ t.1 in
      let q2 = asked (leb (at + 2 + le2 s at) end) _ _ _ q1.1 in
      let q3 = asked (is_text (bytes_at s (at + 2) (le2 s at))) _ _ _ q2.1 in
      t.1 ∙ sym q3.1

  -- ---- a flag, and what it announces

  -- a flag that the code accepts: the same
  pub flag_done : {n : ℕ} → forget (read_flag s start end at) ≡ done n → (read_flag s start end at ≡ done (num 1 (get_or s at 0), at + 1)) × (at + 1 ≡ n)
  unfolding read_flag
  flag_done e =
      let t = taken (read_flag s start end at) e in
      let q1 = asked (leb (at + 1) end) _ _ _ t.1 in
      let q2 = asked (leb (get_or s at 0) 1) _ _ _ q1.1 in
      let d : at + 1 ≡ t.0.1 = cc q2.1 in
      (t.1 ∙ sym q2.1, d ∙ t.2)

  module _ (f : ℕ → Step) (on : ℕ) where
    -- a flag that is refused refuses the optional part
    pub optional_stop : {r : Refusal} → forget (read_flag s start end at) ≡ refused r → forget (read_optional f on s start end at) ≡ refused r
    unfolding read_optional
    optional_stop e = stopped (read_flag s start end at) _ e

    module _ {n : ℕ} (e : forget (read_flag s start end at) ≡ done n) where
      -- behind a flag that was read, its value decides
      optional_if : forget (read_optional f on s start end at) ≡ forget (read_if (eqb (get_or s at 0) on) f n)
      unfolding read_optional ◌>>=◌
      optional_if = let d = flag_done e in rw (d.0, d.1) (then (num 1 (get_or s at 0)) (read_if (eqb (get_or s at 0) on) f n))

      -- the flag says that the part is there: it decides
      pub optional_on : get_or s at 0 ≡ on → forget (read_optional f on s start end at) ≡ forget (f n)
      unfolding read_if
      optional_on h = optional_if ∙ rw (eq-eqb (get_or s at 0) on h)

      -- the flag says that it is not: the part ends behind the flag
      pub optional_off : (get_or s at 0 ≡ on → ⊥) → forget (read_optional f on s start end at) ≡ done n
      unfolding read_if forget
      optional_off h = optional_if ∙ rw (ne_eqb (get_or s at 0) on h)

  -- ---- a name that something is asked of

  -- a name that is no text is refused as that text
  pub key_stop : (e : Earlier) {r : Refusal} → forget (read_text s start end at) ≡ refused r → forget (read_key s start end e at) ≡ refused r
  unfolding read_key
  key_stop e d = stopped (read_text s start end at) _ d

  module _ (e : Earlier) {n : ℕ} (d : forget (read_text s start end at) ≡ done n) where
    -- a name that is a text: question 6 decides
    key_is : forget (read_key s start end e at) ≡ forget (ask (in_order e (name_at s at)) (unread 6 start) >>= (λ u. done (name (name_at s at), n)))
    unfolding read_key ◌>>=◌ name_of
    key_is =
        let f = text_done d in
        let t = taken (read_text s start end at) d in
        let g : at + 2 + le2 s at ≡ n = cc in
        rw (f, g)

    -- so what the question answers of it is what is read
    pub key_settled : {b : Bool} → b ≡ in_order e (name_at s at) → forget (read_key s start end e at) ≡ (ask b (unread 6 start) >>= (λ u. done n))
    unfolding forget ◌>>=◌ ask
    key_settled {b} h = key_is ∙ rw (← h) (go b)
      where
        go : (t : Bool) → forget (ask t (unread 6 start) >>= (λ u. done (name (name_at s at), n))) ≡ (ask t (unread 6 start) >>= (λ u. done n))
        go true = refl
        go false = refl

    -- a name in its order is accepted
    pub key_yes : in_order e (name_at s at) ≡ true → forget (read_key s start end e at) ≡ done n
    unfolding ◌>>=◌ ask
    key_yes h = key_settled refl ∙ rw h

    module _ {b : Bool} (h : b ≡ in_order e (name_at s at)) where
      -- the question was answered "yes"
      pub key_passed : done tt ≡ ask b (unread 6 start) → forget (read_key s start end e at) ≡ done n
      unfolding ◌>>=◌
      key_passed g = key_settled h ∙ rw (← g)

      -- it was answered "no"
      pub key_refused : {r : Refusal} → refused r ≡ ask b (unread 6 start) → forget (read_key s start end e at) ≡ refused r
      unfolding ◌>>=◌
      key_refused g = key_settled h ∙ rw (← g)

  -- a name that is in its order whatever it is, is read as a text
  pub key_free : (e : Earlier) → true ≡ in_order e (name_at s at) → forget (read_text s start end at) ≡ forget (read_key s start end e at)
  key_free e h = go (forget (read_text s start end at)) refl
    where
      go : (r : Outcome ℕ) → forget (read_text s start end at) ≡ r → r ≡ forget (read_key s start end e at)
      go (done n) d = sym (key_yes e d (sym h))
      go (refused r) d = sym (key_stop e d)

  -- what question 6 says alike of two lists of names is read alike behind both
  pub key_alike : (e f : Earlier) → in_order e (name_at s at) ≡ in_order f (name_at s at) → forget (read_key s start end e at) ≡ forget (read_key s start end f at)
  key_alike e f h = go (forget (read_text s start end at)) refl
    where
      go : (r : Outcome ℕ) → forget (read_text s start end at) ≡ r → forget (read_key s start end e at) ≡ forget (read_key s start end f at)
      go (done n) d = key_settled e d refl ∙ sym (key_settled f d h)
      go (refused r) d = key_stop e d ∙ sym (key_stop f d)

-- all that an optional part needs
pub ruleset optionals = (optional_stop, optional_on, optional_off)

-- all that a name needs that was read as a text
pub ruleset keys = (key_stop, key_passed, key_refused)

-- ---- a literal's type

-- not one of four numbers
pub past : (k x : ℕ) → k ≤ x → (x ≡ k → ⊥) → (x ≡ k + 1 → ⊥) → (x ≡ k + 2 → ⊥) → (x ≡ k + 3 → ⊥) → k + 4 ≤ x
past k x h a b c d = omega arith

-- a code above 7 has no type: no number lies in it
pub no_type_lem : (code v : ℕ) → 8 ≤ code → in_type code v ≡ false
unfolding in_type
no_type_lem code v h = get_or-eq_default (true ∷ ltb v (2 ^ 32) ∷ ltb v (2 ^ 16) ∷ ltb v (2 ^ 8) ∷ signed_in 64 v ∷ signed_in 32 v ∷ signed_in 16 v ∷ signed_in 8 v ∷ []) false h

-- ---- names in order

-- one of two tests holds, since the second does
or_right : (b : Bool) {c : Bool} → c ≡ true → (b || c) ≡ true
or_right true e = refl
or_right false e = e

module _ (s : List ℕ) where
  -- the first name of a list is in order
  pub first_ascends : (last p : ℕ) (n : Name) → last ≡ 0 → in_order (Earlier.ascending (last_name s last) p) n ≡ true
  unfolding in_order last_name
  first_ascends last p n h = rw (eq-eqb last 0 h)

  -- another name is in order if the last one is less
  pub next_ascends : (last p : ℕ) (n : Name) → (last ≡ 0 → ⊥) → in_order (Earlier.ascending (last_name s last) p) n ≡ less (name_at s last) n
  unfolding in_order last_name
  next_ascends last p n h = rw (ne_eqb last 0 h)

  -- the last of the blocks' names counts
  owners_ascend : (first count p : ℕ) (n : Name) → in_order (Earlier.ascending (names_before s first count) p) n ≡ in_order (Earlier.ascending (last_name s (last_of s first count)) 0) n
  unfolding in_order last_name last_of names_before
  owners_ascend first zero p n = refl
  owners_ascend first (suc k) p n = rw (ne_eqb (behind s first k + 6) 0 (λ e. omega arith))

  -- a comparison with the last owner's name decides the order of owners
  pub owners_order : (first count last p : ℕ) (n : Name) → last ≡ last_of s first count → in_order (Earlier.ascending (last_name s last) 0) n ≡ in_order (Earlier.ascending (names_before s first count) p) n
  owners_order first count last p n e = rw e (sym (owners_ascend first count p n))

  -- the name of the last owner lies inside
  pub owners_last : (first count : ℕ) → Stand s first count → LastIn s (last_of s first count)
  unfolding Stand last_of
  owners_last first zero h l = absurd (omega arith)
  owners_last first (suc k) h l = h k (omega arith)

  module _ (n : Name) (first : ℕ) where
    -- a name that one of the blocks begins with is among theirs
    among_one : (m k : ℕ) → k < m → same n (name_at s (behind s first k + 6)) ≡ true → among n (names_before s first m) ≡ true
    unfolding among names_before
    among_one zero k h e = absurd (omega arith)
    among_one (suc m) k h e = go (λ l. among_one m k l e) (ltb k m) refl
      where
        go : (k < m → among n (names_before s first m) ≡ true) → (b : Bool) → ltb k m ≡ b → (same n (name_at s (behind s first m + 6)) || among n (names_before s first m)) ≡ true
        go ih true l = or_right (same n (name_at s (behind s first m + 6))) (ih (ltb-true k m l))
        go ih false l = let z : k ≡ m = omega (arith, ltb-false k m l) in rw (← z, e)

    -- a name that none of them begins with is not
    pub among_none : (m : ℕ) → ((k : ℕ) → k < m → same n (name_at s (behind s first k + 6)) ≡ false) → among n (names_before s first m) ≡ false
    unfolding among names_before
    among_none zero h = refl
    among_none (suc m) h = rw (h m (omega arith)) (among_none m (λ k l. h k (omega arith)))

    -- what the search among these blocks says of that
    among_found : {count : ℕ} {r : Option Position} → BlockNamed s n first count r → among n (names_before s first count) ≡ is_some r
    among_found (BlockNamed.at h p e) = among_one _ _ h (rw (passed_at p) at e)
    among_found (BlockNamed.missing p) = among_none _ (passed_not p)

  -- so does the code, of the name at an offset
  pub differs_is : {m n : Name} {first count : ℕ} {r : Option Position} → BlockNamed s m first count r → m ≡ n → (b : Bool) → is_some r ≡ not b
      → b ≡ not (among n (names_before s first count))
  differs_is {m} {n} {first} f e b h = rw (← e, among_found m first f, h) (sym (not-not b))

-- ---- parts without a block

-- a number, and the parts that hold blocks, as places in `Part`
abbrev pub left : List ℕ
left = 2 ∷ 8 ∷ 9 ∷ 10 ∷ 11 ∷ 12 ∷ []

-- where a plain part is none of the others, it is a number
pub last_plain : (p : Part) → OneOf left (tag_of the_type p) → Plain p → p ≡ Number
unfolding Plain
last_plain Text h v = absurd (miss left 0 tt h)
last_plain Key h v = absurd (miss left 1 tt h)
last_plain Number h v = refl
last_plain Flag h v = absurd (miss left 3 tt h)
last_plain Size h v = absurd (miss left 4 tt h)
last_plain OptNumber h v = absurd (miss left 5 tt h)
last_plain OptText h v = absurd (miss left 6 tt h)
last_plain Literal h v = absurd (miss left 7 tt h)
last_plain (Block lo hi) h v = absurd v
last_plain (OptBlock lo hi) h v = absurd v
last_plain (Blocks lo hi limit) h v = absurd v
last_plain (Ascending lo hi limit) h v = absurd v
last_plain (Distinct lo hi limit) h v = absurd v
last_plain (Names limit) h v = absurd (miss left 13 tt h)
last_plain (Paths limit) h v = absurd (miss left 14 tt h)
last_plain (Values limit) h v = absurd (miss left 15 tt h)

-- how many paths the owners before have, as the code keeps it
pub paths_before_lem : (s : List ℕ) (seen : Seen) → paths_before (earlier_of s seen) ≡ seen_paths seen
unfolding earlier_of seen_paths
paths_before_lem s Nothing = refl
paths_before_lem s (Owners first count last paths) = refl
paths_before_lem s (Types first count fresh) = refl
