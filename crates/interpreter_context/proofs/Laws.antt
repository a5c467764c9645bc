-- Stepping over the parts of a node, front to back.
use mathlib.Core.Path.{◌≡◌, refl, sym, ◌∙◌, ap, subst}
use mathlib.Core.List.{List, [], ◌∷◌, map}
use Prim.Native.Nat.{ℕ, zero, suc, ◌+◌, ◌-◌, ◌≤◌, ◌<◌}
use native.Mathlib.Numerals.{add-one}
use native.Mathlib.Nat.{sub-zero}
use native.Mathlib.Omega.{arith}
use lib.ListN.{length, get_or, drop}
use borrow.Author.Tests.{le-leb}
use Rattle.blocks.specs.declared.Part.{Part}
use Rattle.blocks.specs.declared.Part.TheVariants.{Text, Number, OptText, Block, Blocks}
use Rattle.blocks.specs.Bytes.{le2, le4}
use Rattle.blocks.specs.Grammar.{parts_of, node_table}
use Rattle.blocks.specs.Read.{Earlier}
use Rattle.blocks.specs.Tree.{Tree, cons, num, first, rest, body}
use Rattle.ir_nodes.specs.Codes.{code_of, code_at}
use Rattle.accepted.specs.Accepted.{Accepted, tree, Parts, Optional, Counted, Item, Listed}
use Rattle.accepted.proofs.Laws.{each, opened, Behind, text_part, number_part, There, optional_part, block_part, Enlisted, list_part, block_entry, none_left}
use Rattle.interpreter_context.specs.Located.{Simple, Listing, Next, rests, Located}

-- ---- one part

-- what stands behind a part is the next
next_of : {s : List ℕ} {p : Part} {ps : List Part} {at q : ℕ} {t : Tree} {c : Parts s (p ∷ ps) at} → at ≤ q → Behind c t q → Next c q
next_of {t} l b = record { rest = b.rest; low = l; inside = b.inside; first = t; tree = b.tree; stop = b.stop; room = b.room; end = b.end }

-- a part behind its flag
through : {s : List ℕ} {p inner : Part} {ps : List Part} {at q : ℕ} {c : Parts s (p ∷ ps) at} (h : There c inner) → at ≤ q → (t : Tree) → Behind h.parts t q → Next c q
through {s} {at} {q} h l t b = record {
  rest = b.rest;
  low = l;
  inside = subst (λ (n : ℕ). q ≤ n) h.end b.inside;
  first = cons (num 1 (get_or s at 0)) t;
  tree = h.tree ∙ ap (λ (z : Tree). cons (cons (num 1 (get_or s at 0)) (first z)) (rest z)) b.tree;
  stop = h.stop ∙ b.stop;
  room = b.room ∙ h.room;
  end = b.end ∙ h.end;
}

-- what is behind a part, by its code
pub record Steps {s : List ℕ} {p : Part} {ps : List Part} {at : ℕ} (c : Parts s (p ∷ ps) at) (code : ℕ) : Type 0 where
  pub number : code ≡ code_of Number → Next c (at + 8)
  pub text : code ≡ code_of Text → Next c (at + 2 + le2 s at)
  pub flag : code ≡ code_of OptText → at + 1 ≤ c.end
  pub given : code ≡ code_of OptText → get_or s at 0 ≡ 1 → Next c (at + 3 + le2 s (at + 1))
  pub absent : code ≡ code_of OptText → (get_or s at 0 ≡ 1 → ⊥) → Next c (at + 1)
  pub block : (code ≡ code_of Number → ⊥) → (code ≡ code_of Text → ⊥) → (code ≡ code_of OptText → ⊥) → Next c (at + 4 + le4 s at)

-- every part of a node's first three is stepped over so
pub step : {s : List ℕ} {p : Part} {ps : List Part} {at code : ℕ} → Simple p → code ≡ code_of p → (c : Parts s (p ∷ ps) at) → Steps c code
step Simple.text e c = record {
  number = λ h. absurd (omega arith);
  text = λ h. next_of (omega arith) (text_part c).1;
  flag = λ h. absurd (omega arith);
  given = λ h g. absurd (omega arith);
  absent = λ h g. absurd (omega arith);
  block = λ u v w. absurd (v e);
}
step Simple.number e c = record {
  number = λ h. next_of (omega arith) (number_part c);
  text = λ h. absurd (omega arith);
  flag = λ h. absurd (omega arith);
  given = λ h g. absurd (omega arith);
  absent = λ h g. absurd (omega arith);
  block = λ u v w. absurd (u e);
}
step {s} {at} Simple.opt_text e c = let o = optional_part Optional.text c in record {
  number = λ h. absurd (omega arith);
  text = λ h. absurd (omega arith);
  flag = λ h. o.inside;
  given = λ h g. let f : at + 1 + 2 + le2 s (at + 1) ≡ at + 3 + le2 s (at + 1) = omega arith in
      subst (λ (q : ℕ). Next c q) f (through (o.there g) (omega arith) _ (text_part (o.there g).parts).1);
  absent = λ h g. next_of (omega arith) (o.absent g);
  block = λ u v w. absurd (w e);
}
step Simple.node e c = record {
  number = λ h. absurd (omega arith);
  text = λ h. absurd (omega arith);
  flag = λ h. absurd (omega arith);
  given = λ h g. absurd (omega arith);
  absent = λ h g. absurd (omega arith);
  block = λ u v w. next_of (omega arith) (block_part c).behind;
}

-- n bytes and then as many as were read
pub past : {s : List ℕ} {p : Part} {ps : List Part} {at u v : ℕ} {c : Parts s (p ∷ ps) at} (n : ℕ) → u ≡ v → Next c (at + n + v) → Next c (at + n + u)
past {at} {c} n e x = subst (λ (w : ℕ). Next c (at + n + w)) (sym e) x

-- ---- the parts of a node's kind

-- every node begins with its metadata: a number, and a text behind a flag
pub metadata_first : (k : ℕ) → 128 ≤ k → k ≤ 144 → parts_of k ≡ Number ∷ OptText ∷ drop 2 (parts_of k)
unfolding parts_of
metadata_first k lo hi = rw (le-leb 128 k lo, le-leb k 144 hi)

-- so it has two parts or more
pub two_parts : (k : ℕ) → 128 ≤ k → k ≤ 144 → 2 ≤ length (parts_of k)
two_parts k lo hi = let e = ap length (metadata_first k lo hi) in omega arith

-- the first n parts are simple
abbrev Simples : ℕ → List Part → Type 0
Simples zero ps = Unit
Simples (suc n) [] = Unit
Simples (suc n) (p ∷ ps) = Simple p × Simples n ps

-- the first three of a node are
node_simples : (k : ℕ) → 128 ≤ k → k ≤ 144 → Simples 3 (parts_of k)
unfolding parts_of node_table
node_simples k lo hi =
    let o = Simple.opt_text in
    let n : Simples 3 (parts_of 129) = (Simple.number, (o, (Simple.number, tt))) in
    let t : Simples 3 (parts_of 130) = (Simple.number, (o, (Simple.text, tt))) in
    let x : Simples 3 (parts_of 134) = (Simple.number, (o, (Simple.node, tt))) in
    each (λ (k : ℕ). Simples 3 (parts_of k)) 17 128
    ((Simple.number, (o, tt)), (n, (t, (n, (t, (t, (x, (x, (x, (x, (x, (x, (x, (x, (x, (x, (x, tt)))))))))))))))))
    k lo (omega arith)

-- part i of a row, with its code and what stands behind it
record At (ps : List Part) (i : ℕ) : Type 0 where
  part : Part
  simple : Simple part
  code : get_or (map code_of ps) i 0 ≡ code_of part
  rest : drop i ps ≡ part ∷ drop (suc i) ps

-- every part among the first n of a row whose first n are simple is one
at_place : (n i : ℕ) (ps : List Part) → Simples n ps → i < n → i < length ps → At ps i
at_place zero i ps t h l = absurd (omega arith)
at_place (suc n) i [] t h l = absurd (omega arith)
at_place (suc n) zero (p ∷ ps) t h l = record { part = p; simple = t.0; code = refl; rest = refl }
at_place (suc n) (suc i) (p ∷ ps) t h l =
    let a = at_place n i ps t.1 (omega arith) (omega arith) in
    record { part = a.part; simple = a.simple; code = a.code; rest = a.rest }

-- part i of a node's kind, of which P holds
pub record Column (P : Part → Type 0) (k i : ℕ) : Type 0 where
  pub part : Part
  pub is : P part
  pub code : code_at k i ≡ code_of part
  pub rest : drop i (parts_of k) ≡ part ∷ drop (i + 1) (parts_of k)

-- of part i of every node's kind that has it
abbrev pub Columns : (Part → Type 0) → ℕ → Type 0
Columns P i = (k : ℕ) → 128 ≤ k → k ≤ 144 → i < length (parts_of k) → Column P k i

-- every one of a node's first three parts is simple
pub simple_column : (i : ℕ) → i < 3 → Columns Simple i
unfolding code_at
simple_column i h k lo hi l =
    let a = at_place 3 i (parts_of k) (node_simples k lo hi) h l in
    record { part = a.part; is = a.simple; code = a.code; rest = rw add-one a.rest }

-- a node's fourth part may be a list
pub data Fourth : Part → Type 0 where
  simple : {p : Part} → Simple p → Fourth p
  list : {p : Part} → Listing p → Fourth p

-- the fourth part of a kind, where it has one
abbrev FourthOf : ℕ → Type 0
FourthOf k = 3 < length (parts_of k) → (p : Part) × Fourth p × (code_at k 3 ≡ code_of p) × (drop 3 (parts_of k) ≡ p ∷ drop 4 (parts_of k))

-- it is an optional text, a node, a list or a text
fourths : (k : ℕ) → 128 ≤ k → k ≤ 144 → FourthOf k
unfolding parts_of node_table code_at
fourths k lo hi =
    let o : FourthOf 130 = λ h. (OptText, Fourth.simple Simple.opt_text, refl, refl) in
    let n : FourthOf 131 = λ h. (Block 128 144, Fourth.simple Simple.node, refl, refl) in
    let c : FourthOf 132 = λ h. (Blocks 163 163 64, Fourth.list Listing.cases, refl, refl) in
    let a : FourthOf 133 = λ h. (Blocks 164 164 512, Fourth.list Listing.arguments, refl, refl) in
    let t : FourthOf 144 = λ h. (Text, Fourth.simple Simple.text, refl, refl) in
    each FourthOf 17 128
    ((λ h. absurd (omega arith)), ((λ h. absurd (omega arith)), (o, (n, (c, (a, (n, (n, (n, (n, (n, (n, (n, (n, (n, (n, (t, tt)))))))))))))))))
    k lo (omega arith)

-- so it is with every kind that has four
pub fourth_column : Columns Fourth 3
fourth_column k lo hi h = let f = fourths k lo hi h in record { part = f.0; is = f.1; code = f.2; rest = f.3 }

-- a simple part has no list's code
no_list : {p q : Part} → Simple p → Listing q → code_of p ≡ code_of q → ⊥
no_list Simple.text Listing.cases e = absurd (omega arith)
no_list Simple.text Listing.arguments e = absurd (omega arith)
no_list Simple.number Listing.cases e = absurd (omega arith)
no_list Simple.number Listing.arguments e = absurd (omega arith)
no_list Simple.opt_text Listing.cases e = absurd (omega arith)
no_list Simple.opt_text Listing.arguments e = absurd (omega arith)
no_list Simple.node Listing.cases e = absurd (omega arith)
no_list Simple.node Listing.arguments e = absurd (omega arith)

-- a fourth part with the code of a list is one
pub is_list : {p q : Part} {code : ℕ} → Listing q → code ≡ code_of q → Fourth p → code ≡ code_of p → Listing p
is_list l h (Fourth.simple x) e = absurd (no_list x l (sym e ∙ h))
is_list l h (Fourth.list x) e = x

-- and one with another code is simple
pub is_simple : {p : Part} {code : ℕ} → (code ≡ code_of (Blocks 163 163 64) → ⊥) → (code ≡ code_of (Blocks 164 164 512) → ⊥) → Fourth p → code ≡ code_of p → Simple p
is_simple f g (Fourth.simple x) e = x
is_simple f g (Fourth.list Listing.cases) e = absurd (f e)
is_simple f g (Fourth.list Listing.arguments) e = absurd (g e)

-- ---- from the first part on

-- what is behind one part more
rests_suc : (i : ℕ) (t : Tree) → rests (suc i) t ≡ rest (rests i t)
unfolding rests
rests_suc zero t = refl
rests_suc (suc i) t = rests_suc i (rest t)

-- the same with the code's i + 1
rests_next : (i : ℕ) (t : Tree) → rests (i + 1) t ≡ rest (rests i t)
rests_next i t = rw add-one (rests_suc i t)

-- the kind of an accepted node
pub kinds : {s : List ℕ} {at : ℕ} (a : Accepted s 128 144 at) → (128 ≤ le2 s (at + 4)) × (le2 s (at + 4) ≤ 144) × (at + 6 ≤ at + 4 + le4 s at) × (at + 4 + le4 s at ≤ length s)
kinds a = let o = opened a refl refl in (o.least, o.most, omega (arith, o.long), omega (arith, o.high, a.fits))

-- Part i begins at q, whatever accepted the node.
abbrev pub Standing : List ℕ → ℕ → ℕ → ℕ → Type 0
Standing s at i q = (a : Accepted s 128 144 at) (ps : List Part) → drop i (parts_of (le2 s (at + 4))) ≡ ps → Located a ps i q

-- the first part stands behind the header
pub begins : (s : List ℕ) (at : ℕ) → Standing s at 0 (at + 6)
unfolding rests
begins s at a ps e = let o = opened a refl e in record {
  parts = o.parts;
  tree = ap body o.tree;
  low = omega arith;
  inside = omega (arith, o.end, o.long);
  room = o.room;
  end = o.end;
  ended = o.ended;
}

module _ {P : Part → Type 0} {s : List ℕ} {at i q k code : ℕ} (column : Columns P i) (ek : k ≡ le2 s (at + 4)) (ec : code ≡ code_at k i)
    (l : i < length (parts_of (le2 s (at + 4)))) (st : Standing s at i q) where
  -- the next part, which the step needs
  pub stands : Accepted s 128 144 at → (p : Part) × (ps : List Part) × P p × (code ≡ code_of p) × Parts s (p ∷ ps) q
  stands a =
      let b = kinds a in
      let c = column (le2 s (at + 4)) b.0 b.1 l in
      (c.part, drop (i + 1) (parts_of (le2 s (at + 4))), c.is, ec ∙ ap (λ (k : ℕ). code_at k i) ek ∙ c.code, (st a _ c.rest).parts)

  -- and the part behind it begins where the step ended
  pub stands_next : {r : ℕ} → ((p : Part) (ps : List Part) (c : Parts s (p ∷ ps) q) → P p → code ≡ code_of p → Next c r) → Standing s at (i + 1) r
  stands_next f a ps e =
      let b = kinds a in
      let c = column (le2 s (at + 4)) b.0 b.1 l in
      let m = st a (c.part ∷ ps) (c.rest ∙ ap (λ (z : List Part). c.part ∷ z) e) in
      let n = f c.part ps m.parts c.is (ec ∙ ap (λ (k : ℕ). code_at k i) ek ∙ c.code) in
      record {
        parts = n.rest;
        tree = rests_next i (body (tree a)) ∙ ap rest (m.tree ∙ n.tree);
        low = omega (arith, m.low, n.low);
        inside = omega (arith, n.inside, n.end);
        room = m.room ∙ ap suc (sym n.room);
        end = n.end ∙ m.end;
        ended = sym n.stop ∙ m.ended;
      }

-- a node's header and alignment lie in the bytes
pub within : {s : List ℕ} {at : ℕ} → Accepted s 128 144 at → at + 14 ≤ length s
within a = let b = kinds a in
    let o = opened a refl (metadata_first _ b.0 b.1) in
    omega (arith, (number_part o.parts).inside, o.parts.fits)

-- ---- a list

-- before the first of m all m are left
pub none_less : (P : ℕ → Type 0) (m : ℕ) → P m → P (m - 0)
none_less P m x = subst P (sym (sub-zero m)) x

-- and behind one more one fewer
pub one_less : (P : ℕ → Type 0) (m i : ℕ) → i < m → P (m - i - 1) → P (m - (i + 1))
one_less P m i h x = let e : m - i - 1 ≡ m - (i + 1) = omega arith in subst P e x

-- of m blocks from `from` on, the first i are passed; the others, from q on, end where all of them end
pub record Passed (s : List ℕ) (m from i q : ℕ) : Type 0 where
  pub low : from ≤ q
  pub on : {lo hi : ℕ} (l : Listed s lo hi m from) → (r : Listed s lo hi (m - i) q) × (l.got.1 ≡ r.got.1) × (r.end ≡ l.end)

-- the loop begins with all of them
pub none_passed : {s : List ℕ} {m from : ℕ} → Passed s m from 0 from
none_passed {s} {m} {from} = record {
  low = omega arith;
  on = λ {lo} {hi} l. none_less (λ (k : ℕ). (r : Listed s lo hi k from) × (l.got.1 ≡ r.got.1) × (r.end ≡ l.end)) m (l, refl, refl);
}

-- one more is passed
pub one_passed : {s : List ℕ} {m from i q w : ℕ} → i < m → w ≡ le4 s q → Passed s m from i q → Passed s m from (i + 1) (q + 4 + w)
one_passed {s} {m} {from} {i} {q} h ew t = subst (λ (w : ℕ). Passed s m from (i + 1) (q + 4 + w)) (sym ew) (record {
  low = omega (arith, t.low);
  on = λ {lo} {hi} l.
      let x = t.on l in
      let b = block_entry x.0 (omega arith) in
      one_less (λ (k : ℕ). (r : Listed s lo hi k (q + 4 + le4 s q)) × (l.got.1 ≡ r.got.1) × (r.end ≡ l.end)) m i h
      (b.after.rest, x.1 ∙ b.after.stop, b.after.end ∙ x.2);
})

-- the list of blocks that a part is
record ListOf {s : List ℕ} {p : Part} {ps : List Part} {at : ℕ} (c : Parts s (p ∷ ps) at) : Type 0 where
  lo : ℕ
  hi : ℕ
  limit : ℕ
  list : Enlisted c (Item.blocks lo hi) limit Earlier.any

-- a part that is a list of cases or of arguments is one of blocks of one kind
list_of : {s : List ℕ} {p : Part} {ps : List Part} {at : ℕ} → Listing p → (c : Parts s (p ∷ ps) at) → ListOf c
list_of Listing.cases c = record { lo = 163; hi = 163; limit = 64; list = list_part Counted.any c }
list_of Listing.arguments c = record { lo = 164; hi = 164; limit = 512; list = list_part Counted.any c }

module _ {s : List ℕ} {p : Part} {ps : List Part} {at : ℕ} (x : Listing p) (c : Parts s (p ∷ ps) at) where
  -- its count lies in the bytes
  pub count_in : at + 2 ≤ length s
  count_in = omega (arith, (list_of x c).list.inside, c.fits)

  -- the next block lies in the bytes
  pub next_in : {i q : ℕ} → i < le2 s at → Passed s (le2 s at) (at + 2) i q → (q + 4 ≤ length s) × (q + 4 + le4 s q ≤ length s)
  next_in h t =
      let y = t.on (list_of x c).list.list in
      let b = block_entry y.0 (omega arith) in
      let o = opened b.child refl refl in
      (omega (arith, o.high, y.0.fits, b.end), omega (arith, o.high, y.0.fits, b.end))

  -- none is left: there the next part begins
  pub all_passed : {i q : ℕ} → le2 s at ≤ i → Passed s (le2 s at) (at + 2) i q → Next c q
  all_passed {q} h t =
      let l = (list_of x c).list in
      let y = t.on l.list in
      let e : l.list.got.1 ≡ q = y.1 ∙ ap (λ (z : Tree × ℕ). z.1) (none_left y.0 (omega arith)) in
      subst (λ (q : ℕ). Next c q) e (next_of (omega (arith, e, t.low)) l.behind)
