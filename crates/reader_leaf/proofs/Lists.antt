-- Lists behind their counts, one entry at a time, as the code sees them.
use mathlib.Core.Path.{◌≡◌, refl, sym, ◌∙◌, ap}
use mathlib.Core.Bool.{Bool, true, false}
use mathlib.Core.List.{List, [], ◌∷◌}
use Prim.Native.Nat.{ℕ, zero, suc, ◌+◌, ◌<◌, ◌≤◌}
use native.Mathlib.Omega.{arith}
use native.Mathlib.Numerals.{add-one}
use lib.Dec.{leb}
use borrow.Author.Tests.{ne_eqb, leb-true}
use Rattle.errors.specs.Refusal.{Refusal, Outcome, done, refused, ◌>>=◌, ask, unread}
use Rattle.errors.proofs.Laws.{done_one, asked, bound}
use Rattle.blocks.specs.Bytes.{le2}
use Rattle.blocks.specs.Name.{Name, is_text}
use Rattle.blocks.specs.Tree.{Tree, name, num, number}
use Rattle.blocks.specs.Read.{Step, Earlier, in_order, paths_of, name_of, met, read_text, read_key, read_number, read_count, read_entries, read_list, read_value}
use Rattle.reader_leaf.specs.Answer.{forget, count_of, read_entry}
use Rattle.reader_leaf.specs.Seen.{name_at, last_name}
use Rattle.reader_leaf.proofs.Laws.{taken, stopped, then, goes}

-- ---- the count

module _ (limit : ℕ) (s : List ℕ) (start end at : ℕ) where
  -- a count that the code accepts was read
  count_taken : (o : Step) {n : ℕ} → count_of o ≡ done n → (x : Tree × ℕ) × (o ≡ done x) × (number x.0 ≡ n)
  unfolding count_of
  count_taken (done x) e = (x, refl, cc)
  count_taken (refused r) e = let z : ◌≡◌ {A = ℕ} 0 1 = cc in absurd (omega arith)

  -- it is the definition's, and the list begins behind it
  count_done : {n : ℕ} → count_of (read_count limit s start end at) ≡ done n → read_count limit s start end at ≡ done (num 2 n, at + 2)
  unfolding read_count
  count_done {n} e =
      let t = count_taken (read_count limit s start end at) e in
      let q1 = asked (leb (at + 2) end) _ _ _ t.1 in
      let q2 = asked (leb (le2 s at) limit) _ _ _ q1.1 in
      let d : number (num 2 (le2 s at)) ≡ number t.0.0 = ap (λ (x : Tree × ℕ). number x.0) (done_one q2.1) in
      let f : le2 s at ≡ n = d ∙ t.2 in
      t.1 ∙ sym q2.1 ∙ ap (λ (m : ℕ). done (num 2 m, at + 2)) f

  module _ (F : Earlier → ℕ → Step) (e : Earlier) where
    -- behind its count a list is its entries
    pub list_of : {n : ℕ} → count_of (read_count limit s start end at) ≡ done n → forget (read_list F e limit s start end at) ≡ forget (read_entries F e n (at + 2))
    unfolding read_list ◌>>=◌
    list_of {n} d = rw (count_done d) (then (num 2 n) (read_entries F e n (at + 2)))

    -- a refused count refuses what stands behind it
    bad : (o : Step) (k : (Tree × ℕ) → Step) {r : Refusal} → count_of o ≡ refused r → forget (o >>= k) ≡ refused r
    unfolding count_of forget ◌>>=◌
    bad (done x) k g = let z : ◌≡◌ {A = ℕ} 0 1 = cc in absurd (omega arith)
    bad (refused r) k g = cc

    -- a refused count refuses the list
    pub list_bad : {r : Refusal} → count_of (read_count limit s start end at) ≡ refused r → forget (read_list F e limit s start end at) ≡ refused r
    unfolding read_list
    list_bad d = bad (read_count limit s start end at) _ d

-- ---- the entries

module _ (F : Earlier → ℕ → Step) (e : Earlier) where
  -- no entry is left: the list ends here
  pub entries_none : (n at : ℕ) → n ≤ 0 → forget (read_entries F e n at) ≡ done at
  unfolding read_entries forget
  entries_none zero at h = refl
  entries_none (suc n) at h = absurd (omega arith)

  -- a refused entry refuses the list
  pub entries_stop : (n at : ℕ) {r : Refusal} → 0 < n → forget (F e at) ≡ refused r → forget (read_entries F e n at) ≡ refused r
  unfolding read_entries
  entries_stop zero at h d = absurd (omega arith)
  entries_stop (suc n) at h d = stopped (F e at) _ d

  -- an entry that was read: those behind it decide
  pub entries_go : {left : ℕ} (more at : ℕ) (x : Tree × ℕ) → left ≡ more + 1 → F e at ≡ done x → forget (read_entries F e left at) ≡ forget (read_entries F (met e x.0) more x.1)
  unfolding read_entries ◌>>=◌
  entries_go more at x h d = rw (h, add-one, d) (then x.0 (read_entries F (met e x.0) more x.1))

-- the same where nothing is asked of the entries before
pub any_go : (F : Earlier → ℕ → Step) {left : ℕ} (more at : ℕ) {m : ℕ} → left ≡ more + 1 → forget (F Earlier.any at) ≡ done m
    → forget (read_entries F Earlier.any left at) ≡ forget (read_entries F Earlier.any more m)
any_go F more at h d =
    let t = taken (F Earlier.any at) d in
    entries_go F Earlier.any more at t.0 h t.1 ∙ ap (λ (k : ℕ). forget (read_entries F Earlier.any more k)) t.2

-- ---- names

module _ (s : List ℕ) (start end : ℕ) where
  -- a question that is always answered "yes" changes nothing
  passed : (o : Step) → forget (o >>= (λ x. ask true (unread 6 start) >>= (λ u. done x))) ≡ forget o
  unfolding ◌>>=◌ ask
  passed (done x) = refl
  passed (refused r) = refl

  -- a name of which no order is asked is a text
  pub key_any : (at : ℕ) → forget (read_key s start end Earlier.any at) ≡ forget (read_text s start end at)
  unfolding read_key in_order
  key_any at = passed (read_text s start end at)

  -- two lists of names that ask the same
  key_agrees : (e f : Earlier) → ((n : Name) → in_order e n ≡ in_order f n) → (at : ℕ) → read_key s start end e at ≡ read_key s start end f at
  unfolding read_key ◌>>=◌
  key_agrees e f h at = go (read_text s start end at)
    where
      go : (o : Step) → (o >>= (λ x. ask (in_order e (name_of x.0)) (unread 6 start) >>= (λ u. done x))) ≡ (o >>= (λ x. ask (in_order f (name_of x.0)) (unread 6 start) >>= (λ u. done x)))
      go (done x) = rw (h (name_of x.0))
      go (refused r) = refl

  -- the same of names with a number
  value_agrees : (e f : Earlier) → ((n : Name) → in_order e n ≡ in_order f n) → (at : ℕ) → read_value s start end e at ≡ read_value s start end f at
  unfolding read_value
  value_agrees e f h at = rw (key_agrees e f h at)

  module _ (e : Earlier) (at : ℕ) where
    -- a refused name refuses the value
    value_stop : {r : Refusal} → forget (read_key s start end e at) ≡ refused r → forget (read_value s start end e at) ≡ refused r
    unfolding read_value
    value_stop d = stopped (read_key s start end e at) _ d

    -- behind its name the value's number decides
    pub value_then : {m : ℕ} → forget (read_key s start end e at) ≡ done m → forget (read_value s start end e at) ≡ forget (read_number s start end m)
    unfolding read_value
    value_then d = goes (read_key s start end e at) (read_number s start end) d

    -- what was read of a name
    pub key_done : (x : Tree × ℕ) → read_key s start end e at ≡ done x → ((name (name_at s at), at + 2 + le2 s at) ≡ x) × (at + 2 + le2 s at ≤ end)
    unfolding read_key read_text name_of
    key_done x d =
        let b = bound (read_text s start end at) _ _ d in
        let q1 = asked (leb (at + 2) end) _ _ _ b.1 in
        let q2 = asked (leb (at + 2 + le2 s at) end) _ _ _ q1.1 in
        let q3 = asked (is_text (name_at s at)) _ _ _ q2.1 in
        let q = asked (in_order e (name_of b.0.0)) _ _ _ b.2 in
        (done_one q3.1 ∙ done_one q.1, leb-true _ _ q2.0)

    -- the tree of a name is the name that stands there
    key_named : (x : Tree × ℕ) → read_key s start end e at ≡ done x → name_of x.0 ≡ name_at s at
    unfolding name_of
    key_named x d = ap (λ (y : Tree × ℕ). name_of y.0) (sym (key_done x d).0)

    -- so it is of a name with a number
    value_named : (x : Tree × ℕ) → read_value s start end e at ≡ done x → name_of x.0 ≡ name_at s at
    unfolding read_value name_of
    value_named x d =
        let b = bound (read_key s start end e at) _ _ d in
        let a = bound (read_number s start end b.0.1) _ _ b.2 in
        ap (λ (y : Tree × ℕ). name_of y.0) (sym (done_one a.2)) ∙ key_named b.0 b.1

-- all that a list of names needs of which nothing is asked
pub ruleset listed = (list_bad, list_of, entries_none, entries_stop, any_go, key_any)

-- a refused name refuses the entry, with a number or without
pub entry_stop : (pairs : Bool) (s : List ℕ) (start end : ℕ) (e : Earlier) (at : ℕ) {r : Refusal} → forget (read_key s start end e at) ≡ refused r
    → forget (read_entry pairs s start end e at) ≡ refused r
unfolding read_entry
entry_stop true s start end e at d = value_stop s start end e at d
entry_stop false s start end e at d = d

-- ---- entries whose names ascend

-- what is left of a list whose last name stands at `last`
pub record Going (s : List ℕ) (F : Earlier → ℕ → Step) (whole : Outcome ℕ) (last left at : ℕ) : Type 0 where
  pub names : List Name
  pub paths : ℕ
  pub same : whole ≡ forget (read_entries F (Earlier.ascending names paths) left at)
  pub order : (n : Name) → in_order (Earlier.ascending names paths) n ≡ in_order (Earlier.ascending (last_name s last) 0) n

-- a reader of entries that begin with a name, of which it asks no more than their order
pub record Named (s : List ℕ) (F : Earlier → ℕ → Step) : Type 0 where
  pub agrees : (e f : Earlier) → ((n : Name) → in_order e n ≡ in_order f n) → (at : ℕ) → F e at ≡ F f at
  pub named : (e : Earlier) (at : ℕ) (x : Tree × ℕ) → F e at ≡ done x → name_of x.0 ≡ name_at s at

-- both readers of entries ask no more than their order
pub entry_named : (pairs : Bool) (s : List ℕ) (start end : ℕ) → Named s (read_entry pairs s start end)
unfolding read_entry
entry_named true s start end = record { agrees = value_agrees s start end; named = value_named s start end }
entry_named false s start end = record { agrees = key_agrees s start end; named = key_named s start end }

module _ {s : List ℕ} {F : Earlier → ℕ → Step} (N : Named s F) {whole : Outcome ℕ} where
  -- before the first entry the whole list is left
  pub going : {left at : ℕ} → whole ≡ forget (read_entries F (Earlier.ascending [] 0) left at) → Going s F whole 0 left at
  unfolding in_order last_name
  going e = record { names = []; paths = 0; same = e; order = λ n. refl }

  module _ {last left at : ℕ} (g : Going s F whole last left at) where
    -- no entry is left: the list ends here
    pub going_none : left ≤ 0 → whole ≡ done at
    going_none h = g.same ∙ entries_none F _ left at h

    -- the next entry, read with the name before it alone
    here : forget (F (Earlier.ascending (last_name s last) 0) at) ≡ forget (F (Earlier.ascending g.names g.paths) at)
    here = ap forget (sym (N.agrees _ _ g.order at))

    -- a refused entry refuses the list
    pub going_stop : {r : Refusal} → 0 < left → forget (F (Earlier.ascending (last_name s last) 0) at) ≡ refused r → whole ≡ refused r
    going_stop h d = g.same ∙ entries_stop F _ left at h (sym here ∙ d)

    -- an entry that was read: what is left of the list behind it
    pub going_go : {more m : ℕ} → left ≡ more + 1 → 0 < at → forget (F (Earlier.ascending (last_name s last) 0) at) ≡ done m → Going s F whole at more m
    unfolding in_order last_name
    going_go {more} h l d =
        let t = taken (F (Earlier.ascending g.names g.paths) at) (sym here ∙ d) in
        let k = N.named _ at t.0 t.1 in
        record {
          names = name_of t.0.0 ∷ g.names;
          paths = g.paths + paths_of t.0.0;
          same = g.same ∙ entries_go F _ more at t.0 h t.1 ∙ ap (λ (i : ℕ). forget (read_entries F (met (Earlier.ascending g.names g.paths) t.0.0) more i)) t.2;
          order = λ n. rw (ne_eqb at 0 (λ z. omega arith), k);
        }
