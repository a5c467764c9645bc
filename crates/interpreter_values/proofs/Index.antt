-- The index of the values: the words that hold it, and the search of a name by its mark.
use Prim.Native.Nat.{ℕ, ◌+◌, ◌-◌, ◌≤◌, ◌<◌}
use native.Mathlib.Omega.{arith}
use mathlib.Core.Path.{◌≡◌, refl, sym, ◌∙◌, ap}
use mathlib.Core.Bool.{Bool, true, false}
use mathlib.Core.List.{List, ◌++◌}
use lib.Dec.{eqb}
use lib.ListN.{length, get_or, set, take, drop, length-set, length-drop, get_or-append}
use lib.Seq.{take-add, get_or-take, get_or-drop, get_or-set_same, get_or-set_other, take-take, drop-drop, length-take-le, take_at, drop_at}
use borrow.Author.Tests.{eqb-true, eqb-false}
use borrow.Rule.Slice.PartMut.{put_mid, same_len_mid, mid_len, take_put}
use Rattle.blocks.specs.Bytes.{le2, name_at}
use Rattle.blocks.specs.Name.{Name, same}
use Rattle.blocks.proofs.Name.{false_true, same_eq}
use Rattle.marks.specs.Table.{Linked, Table, Prior}
use Rattle.marks.proofs.Walks.{Walk, walk_last, walk_before, walk_end}
use Rattle.name_marks.specs.Mark.{sum_mark_of}
use Rattle.accepted.specs.Accepted.{Accepted}
use Rattle.interpreter_values.specs.Entries.{entry_at, entry_mark, Offsets, First}
use Rattle.interpreter_values.specs.Remembered.{Indexed, Same, Kept}
use Rattle.interpreter_values.proofs.Laws.{remembered_none}
use Rattle.interpreter_values.proofs.Entries.{few, entry_in}
use Rattle.interpreter_values.proofs.Order.{entry_alone}

-- ---- the words

-- words that begin alike
same_begin : (m : ℕ) (ws us : List ℕ) → take m us ≡ take m ws → Same m ws us
same_begin m ws us e i h = sym (get_or-take m us i 0 h) ∙ (ap (λ (l : List ℕ). get_or l i 0) e ∙ get_or-take m ws i 0 h)

-- the offsets zs are put into the words ws, and then the table ys
module _ (ws zs ys : List ℕ) (room : 1168 ≤ length ws) (lz : length zs ≡ length (take 512 (drop 656 ws))) where
  -- the words with the offsets
  abbrev noted : List ℕ
  noted = put_mid 656 512 ws zs

  -- with the table too
  abbrev linked : List ℕ
  linked = put_mid 17 639 noted ys

  -- they are as many
  noted_length : length noted ≡ length ws
  noted_length = same_len_mid 656 512 ws zs lz

  -- the offsets fill their part
  zs_length : length zs ≡ 512
  zs_length = lz ∙ mid_len 656 1168 ws room

  module _ (ly : length ys ≡ length (take 639 (drop 17 noted))) where
    -- the table fills its part
    ys_length : length ys ≡ 639
    ys_length = ly ∙ mid_len 17 656 noted (omega (arith, noted_length))

    -- there are as many words as before
    pub linked_length : length linked ≡ length ws
    linked_length = same_len_mid 17 639 noted ys ly ∙ noted_length

    -- the first 17 words stay
    pub built_same : Same 17 ws linked
    built_same =
        same_begin 17 ws linked
        (take_put 17 639 noted ys (omega (arith, noted_length)) ∙
        (sym (take-take 17 656 noted (omega arith)) ∙ (ap (take 17) (take_put 656 512 ws zs (omega arith)) ∙ take-take 17 656 ws (omega arith))))

    -- behind them stand the table and what stood behind it
    behind : drop 17 linked ≡ ys ++ drop 639 (drop 17 noted)
    behind = drop_at (take 17 noted) (ys ++ drop 639 (drop 17 noted)) 17 (length-take-le 17 noted (omega (arith, noted_length)))

    -- that is the offsets
    offsets_there : drop 639 (drop 17 linked) ≡ zs ++ drop 512 (drop 656 ws)
    offsets_there =
        ap (drop 639) behind ∙
        (drop_at ys (drop 639 (drop 17 noted)) 639 ys_length ∙
        (drop-drop 639 17 noted ∙ drop_at (take 656 ws) (zs ++ drop 512 (drop 656 ws)) 656 (length-take-le 656 ws (omega arith))))

    -- both together are the index of m entries
    pub built : (s : List ℕ) (block m : ℕ) → m ≤ le2 s (block + 6) → le2 s (block + 6) ≤ 512 → Offsets s (block + 6 + 2) m zs →
        Linked ys (entry_mark s (block + 6 + 2)) m → Indexed s block m (drop 17 linked)
    built s block m within most o l = record {
      room = omega (arith, length-drop 17 linked, linked_length);
      within = within;
      linked = rw (behind, take_at ys (drop 639 (drop 17 noted)) 639 ys_length) l;
      offsets = λ k h. ap (λ (us : List ℕ). get_or us k 0) offsets_there ∙
          (get_or-append zs (drop 512 (drop 656 ws)) 0 k (omega (arith, zs_length)) ∙ o k h);
    }

-- ---- the parts, before more entries are put into them

-- the table is a part of the first 656 words
table_begin : (ws : List ℕ) → 17 ≤ length ws → drop 17 (take 656 ws) ≡ take 639 (drop 17 ws)
table_begin ws h = ap (drop 17) (take-add 17 639 ws) ∙ drop_at (take 17 ws) (take 639 (drop 17 ws)) 17 (length-take-le 17 ws h)

module _ {s : List ℕ} {block m : ℕ} (ws : List ℕ) (room : 1168 ≤ length ws) (x : Indexed s block m (drop 17 ws)) where
  -- the offsets stand in theirs
  pub offsets_part : m ≤ 512 → Offsets s (block + 6 + 2) m (take 512 (drop 656 ws))
  offsets_part most k h =
      get_or-take 512 (drop 656 ws) k 0 (omega arith) ∙ (ap (λ (us : List ℕ). get_or us k 0) (sym (drop-drop 639 17 ws)) ∙ x.offsets k h)

  -- offsets zs that were put behind it leave the table as it was
  pub table_part : (zs : List ℕ) → length zs ≡ length (take 512 (drop 656 ws)) → Linked (take 639 (drop 17 (put_mid 656 512 ws zs))) (entry_mark s (block + 6 + 2)) m
  table_part zs lz =
      let long : length (put_mid 656 512 ws zs) ≡ length ws = same_len_mid 656 512 ws zs lz in
      let e : take 639 (drop 17 (put_mid 656 512 ws zs)) ≡ take 639 (drop 17 ws) =
      sym (table_begin (put_mid 656 512 ws zs) (omega arith)) ∙ (ap (drop 17) (take_put 656 512 ws zs (omega arith)) ∙ table_begin ws (omega arith)) in
      rw e x.linked

-- ---- the offsets, one by one

-- one word more
pub offsets_more : (s : List ℕ) (first i at : ℕ) (ws : List ℕ) → Offsets s first i ws → at ≡ entry_at s first i → i < length ws → Offsets s first (i + 1) (set ws i at)
offsets_more s first i at ws o e h k l = go (eqb k i) refl
  where
    go : (b : Bool) → eqb k i ≡ b → get_or (set ws i at) k 0 ≡ entry_at s first k
    go true g = rw (eqb-true k i g) (get_or-set_same ws i at 0 h ∙ e)
    go false g = get_or-set_other ws i k at 0 (eqb-false k i g) ∙ o k (omega (arith, eqb-false k i g))

-- ---- what is kept of the words

module _ {s : List ℕ} {block : ℕ} where
  -- words whose first 17 stay, with the index behind them of as many entries as word 16 says besides the first names
  pub kept_index : {ws us : List ℕ} {m : ℕ} → 16 ≤ length us → Same 17 ws us → get_or ws 16 0 ≡ m + 4 → Indexed s block m (drop 17 us) → Kept s block 16 ws us
  kept_index {us} {m} h f e x =
      let c : get_or us 16 0 - 4 ≡ m = omega (arith, f 16 (omega arith), e) in
      record { same = λ i l. f i (omega arith); remembered = record { room = h; index = λ l g. rw c x } }

  -- the same where word 16 was written first
  pub kept_more : {ws us : List ℕ} (m : ℕ) → 1168 ≤ length ws → length us ≡ length ws → Same 17 (set ws 16 (m + 4)) us → Indexed s block m (drop 17 us) → Kept s block 16 ws us
  kept_more {ws} {us} m room e f x =
      let k = kept_index {ws = set ws 16 (m + 4)} {us = us} (omega (arith, e)) f (get_or-set_same ws 16 (m + 4) 0 (omega arith)) x in
      record { same = λ i l. k.same i l ∙ get_or-set_other ws 16 i (m + 4) 0 (λ q. absurd (omega arith)); remembered = k.remembered }

  -- a name more of the first is counted
  pub kept_count : (ws : List ℕ) → 1168 ≤ length ws → (c : ℕ) → c ≤ 4 → Kept s block 16 ws (set ws 16 c)
  kept_count ws room c h = record {
    same = λ i l. get_or-set_other ws 16 i c 0 (λ e. absurd (omega arith));
    remembered = remembered_none (omega (arith, length-set ws 16 c)) (omega (arith, get_or-set_same ws 16 c 0 (omega arith)));
  }

  -- a table without a slot, put into the words, is the index of no entry
  pub index_none : (ws ys : List ℕ) → 1168 ≤ length ws → length ys ≡ length (take 639 (drop 17 ws)) → ((f : ℕ → ℕ) → Linked ys f 0) → Indexed s block 0 (drop 17 (put_mid 17 639 ws ys))
  index_none ws ys room e l =
      let long : length ys ≡ 639 = e ∙ mid_len 17 656 ws (omega arith) in
      let there : drop 17 (put_mid 17 639 ws ys) ≡ ys ++ drop 639 (drop 17 ws) = drop_at (take 17 ws) (ys ++ drop 639 (drop 17 ws)) 17 (length-take-le 17 ws (omega arith)) in
      record {
        room = omega (arith, length-drop 17 (put_mid 17 639 ws ys), same_len_mid 17 639 ws ys e);
        within = omega arith;
        linked = rw (there, take_at ys (drop 639 (drop 17 ws)) 639 long) (l (entry_mark s (block + 6 + 2)));
        offsets = λ k h. absurd (let z : ⊥ = omega arith in z);
      }

-- the first 17 words stay where a table is put behind them
pub same_table : (ws ys : List ℕ) → 1168 ≤ length ws → Same 17 ws (put_mid 17 639 ws ys)
same_table ws ys room = same_begin 17 ws (put_mid 17 639 ws ys) (take_put 17 639 ws ys (omega arith))

-- ---- the search

-- the table that is searched
abbrev pub table_of : {s : List ℕ} {block m : ℕ} {ws : List ℕ} → Indexed s block m ws → Table (take 639 ws)
table_of {s} {block} {m} x = record { marks = entry_mark s (block + 6 + 2); count = m; linked = x.linked }

-- the word of the entry at place k
module _ {s : List ℕ} {block m : ℕ} (a : Accepted s 192 192 block) (ws : List ℕ) (x : Indexed s block m (drop 17 ws)) {k : ℕ} (h : k < m) where
  -- it is one of the words
  pub word_in : 656 + k < length ws
  word_in = omega (arith, few a, x.within, x.room, length-drop 17 ws)

  -- it is the entry's offset
  pub offset_at : get_or ws (656 + k) 0 ≡ entry_at s (block + 6 + 2) k
  offset_at =
      let e : 656 + k ≡ 17 + (639 + k) = omega arith in
      rw e (sym (get_or-drop 17 ws (639 + k) 0) ∙ (sym (get_or-drop 639 (drop 17 ws) k 0) ∙ x.offsets k h))

  -- a name stands there, in the bytes
  pub name_in : get_or ws (656 + k) 0 + 2 + le2 s (get_or ws (656 + k) 0) ≤ length s
  name_in = rw offset_at (omega (arith, entry_in a k (omega (arith, x.within))))

  -- and a number behind it
  pub number_in : get_or ws (656 + k) 0 + 2 + le2 s (get_or ws (656 + k) 0) + 8 ≤ length s
  number_in = rw offset_at (entry_in a k (omega (arith, x.within)))

-- the entry at place k has the name
abbrev pub Has : List ℕ → ℕ → Name → ℕ → Type 0
Has s first m k = same m (name_at s (entry_at s first k)) ≡ true

-- the search among n entries of the block stands before entry j: none of the entries that were asked has the name
pub record Searching (s : List ℕ) (block n : ℕ) (m : Name) (mark j : ℕ) : Type 0 where
  pub walk : Walk (entry_mark s (block + 6 + 2)) mark n (λ k. Has s (block + 6 + 2) m k → ⊥) j

module _ {s : List ℕ} {block n mark : ℕ} {m : Name} where
  -- it begins with none
  pub searching_first : {r : ℕ} → Prior (entry_mark s (block + 6 + 2)) mark n r → Searching s block n m mark r
  searching_first q = record { walk = walk_last q }

  module _ {j : ℕ} (w : Searching s block n m mark j) (z : 0 < j) {b : Bool} {o : ℕ} (f : b ≡ same m (name_at s o)) (here : o ≡ entry_at s (block + 6 + 2) (j - 1)) where
    -- what was asked of the entry before j
    asked : b ≡ same m (name_at s (entry_at s (block + 6 + 2) (j - 1)))
    asked = f ∙ ap (λ (i : ℕ). same m (name_at s i)) here

    -- it has the name: it is the first of it, since no other entry has it
    pub searching_hit : Accepted s 192 192 block → n ≤ le2 s (block + 6) → b ≡ true → First s m (block + 6 + 2) n (j - 1)
    searching_hit a h e = record {
      within = omega (arith, w.walk.within);
      named = λ l. sym asked ∙ e;
      before = λ i l. go i l (same m (name_at s (entry_at s (block + 6 + 2) i))) refl;
    }
      where
        go : (i : ℕ) → i < j - 1 → (t : Bool) → same m (name_at s (entry_at s (block + 6 + 2) i)) ≡ t → t ≡ false
        go i l true g =
            let one : same (name_at s (entry_at s (block + 6 + 2) i)) (name_at s (entry_at s (block + 6 + 2) (j - 1))) ≡ true =
            ap (λ (x : Name). same x (name_at s (entry_at s (block + 6 + 2) (j - 1)))) (sym (same_eq m (name_at s (entry_at s (block + 6 + 2) i)) g)) ∙ (sym asked ∙ e) in
            let q : i ≡ j - 1 = entry_alone a i (j - 1) (omega (arith, w.walk.within)) (omega (arith, w.walk.within)) one in
            absurd (let y : ⊥ = omega arith in y)
        go i l false g = refl

    -- it has not: the search goes on
    pub searching_miss : {r : ℕ} → Prior (entry_mark s (block + 6 + 2)) mark (j - 1) r → b ≡ false → Searching s block n m mark r
    searching_miss q e = record { walk = (walk_before w.walk z (λ g. false_true (sym e ∙ (asked ∙ g))) q).0 }

  -- at its end no entry has the name: one that had it would have its mark
  pub searching_end : {j : ℕ} → mark ≡ sum_mark_of m → Searching s block n m mark j → j ≤ 0 → First s m (block + 6 + 2) n n
  unfolding entry_mark
  searching_end {j} e w h = record {
    within = omega arith;
    named = λ l. absurd (let z : ⊥ = omega arith in z);
    before = λ i l. go i l (same m (name_at s (entry_at s (block + 6 + 2) i))) refl;
  }
    where
      go : (i : ℕ) → i < n → (t : Bool) → same m (name_at s (entry_at s (block + 6 + 2) i)) ≡ t → t ≡ false
      go i l true g =
          let marked : entry_mark s (block + 6 + 2) i ≡ mark = ap sum_mark_of (sym (same_eq m (name_at s (entry_at s (block + 6 + 2) i)) g)) ∙ sym e in
          absurd (walk_end w.walk h i l marked g)
      go i l false g = refl
