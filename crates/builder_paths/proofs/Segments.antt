-- A loop over the segments of an accepted path. Assumes nothing.
use mathlib.Core.Path.{◌≡◌, refl, sym, ◌∙◌, ap, subst}
use mathlib.Core.Bool.{Bool, true, false}
use mathlib.Core.List.{List, [], ◌∷◌, ◌++◌, append_assoc, append-nil}
use Prim.Native.Nat.{ℕ, ◌+◌, ◌-◌, ◌≤◌, ◌<◌}
use native.Mathlib.Omega.{arith}
use lib.Dec.{eqb}
use lib.ListN.{length, drop, length-append, length-drop}
use lib.Seq.{length-take-le}
use borrow.Author.Tests.{eqb-true, eqb-false}
use Rattle.blocks.specs.Bytes.{le2}
use Rattle.blocks.specs.Name.{Name, ascii, same}
use Rattle.blocks.specs.Tree.{Tree, name, entries}
use Rattle.accepted.specs.Accepted.{Accepted, tree, Item, Entries, name_at}
use Rattle.accepted.proofs.Laws.{After, name_entry, none_left}
use Rattle.accepted.proofs.Lists.{Left, starts, ended}
use Rattle.expr.specs.Expr.{ExprKind, expr_of}
use Rattle.resolved_parts.specs.Types.{Named, texts_of}
use Rattle.resolved_parts.proofs.Laws.{entry_named}
use Rattle.builder.specs.Names.{join}
use Rattle.builder.specs.Nodes.{buffer_size}
use Rattle.wire.specs.Poke.{Wrote}
use Rattle.wire.proofs.Laws.{none, both}
use Rattle.expr_parts.proofs.Laws.{field_ref_at}
use Rattle.builder_paths.specs.Joined.{no_names, segment, Behind}
use Rattle.builder_paths.proofs.Match.{segment_dot, segment_last, on_end}
use Rattle.std.specs.Prelude.{Some, None}
use denote.Ref.{Bor}

-- ---- one segment

-- how many bytes a name has
name_length : (s : List ℕ) (at : ℕ) → at + 2 + le2 s at ≤ length s → length (name_at s at) ≡ le2 s at
name_length s at h = length-take-le (le2 s at) (drop (at + 2) s) (omega (arith, length-drop (at + 2) s))

-- a segment, which the code has as n
module _ {s : List ℕ} {at : ℕ} (h : Named s at) where
  module _ {n : Name} (e : n ≡ name_at s at) where
    -- it is written
    module _ {xs ys : List ℕ} {p q : ℕ} (f : Wrote xs p (drop 0 n) ys q) where
      -- as the definition has it
      written : Wrote xs p (name_at s at) ys q
      written = rw (← e) f

      -- with its dot
      pub put_dot : {left : ℕ} {zs : List ℕ} {r : ℕ} → 1 < left → Wrote ys q (ascii ".") zs r →
          Wrote xs p (segment left (name_at s at)) zs r × (r ≤ p + 1 + le2 s at)
      put_dot {left} l g =
          (rw (segment_dot left (name_at s at) l) (both written g), omega (arith, written.end, g.end, name_length s at h.inside))

      -- as the last
      pub put_last : {left : ℕ} → left ≤ 1 → Wrote xs p (segment left (name_at s at)) ys q × (q ≤ p + 1 + le2 s at)
      put_last {left} l = (rw (segment_last left (name_at s at) l) written, omega (arith, written.end, name_length s at h.inside))

-- a segment counted, u being its length
module _ (s : List ℕ) (at : ℕ) (h : at + 2 + le2 s at ≤ length s) {u : ℕ} (e : u ≡ le2 s at) where
  -- with its dot
  pub long_dot : {left : ℕ} → 1 < left → (u + 1 ≡ length (segment left (name_at s at))) × (u + 1 ≤ 1 + le2 s at)
  long_dot {left} l =
      (rw (segment_dot left (name_at s at) l) (omega (arith, length-append (name_at s at) (ascii "."), name_length s at h)), omega arith)

  -- as the last
  pub long_last : {left : ℕ} → left ≤ 1 → (u ≡ length (segment left (name_at s at))) × (u ≤ 1 + le2 s at)
  long_last {left} l = (rw (segment_last left (name_at s at) l) (e ∙ sym (name_length s at h)), omega arith)

-- no name is in a list of none
pub no_names_lem : {s : List ℕ} {n at : ℕ} (l : Entries s Item.names n at) → eqb n 0 ≡ no_names (texts_of l.got.0)
unfolding entries
no_names_lem {n} l = go (eqb n 0) refl
  where
    go : (b : Bool) → eqb n 0 ≡ b → b ≡ no_names (texts_of l.got.0)
    go true e = rw (none_left l (omega (arith, eqb-true n 0 e)))
    go false e = rw (name_entry l (let h = eqb-false n 0 e in omega (arith, h))).2.tree

-- the first of n names, and the names behind it
join_more : (left : ℕ) (n : Name) (ns : List Name) → 0 < left → eqb (left - 1) 0 ≡ no_names ns → join (n ∷ ns) ≡ segment left n ++ join ns
unfolding join
join_more left n [] h e = sym (rw (segment_last left n (omega (arith, eqb-true (left - 1) 0 e)), append-nil n))
join_more left n (m ∷ ns) h e = rw (segment_dot left n (let k = eqb-false (left - 1) 0 e in omega (arith, k)), append_assoc) refl

-- ---- the loop: P says of the whole path and of the segments that are left, both joined, what it has done

-- the whole path and what is left of it, both joined
pub record Joined (P : Name → Name → Type 0) (w u : Tree) : Type 0 where
  pub is : P (join (texts_of w)) (join (texts_of u))

-- of the segments of the reference at `at`, `left` are left, from q on, and P holds
abbrev pub Walk : (Name → Name → Type 0) → List ℕ → ℕ → ℕ → ℕ → Type 0
Walk P s at left q = Left (Joined P) s Item.names (le2 s (at + 6)) (at + 8) left q

-- the count of the segments lies inside the bytes
pub inside : {s : List ℕ} {at : ℕ} → Accepted s 64 91 at → le2 s (at + 4) ≡ 65 → at + 8 ≤ length s
inside a k = (field_ref_at a k).inside

-- at the start all are left
pub begin : {P : Name → Name → Type 0} {s : List ℕ} {at left : ℕ} → ((n : Name) → P n n) → Accepted s 64 91 at →
    le2 s (at + 4) ≡ 65 → left ≡ le2 s (at + 6) → Walk P s at left (at + 8)
begin {P} {s} {at} h a k e = subst (λ (n : ℕ). Walk P s at n (at + 8)) (sym e) (starts (λ t. record { is = h (join (texts_of t)) }) (field_ref_at a k).list)

-- the next segment is a name inside the bytes
pub next_one : {P : Name → Name → Type 0} {s : List ℕ} (at : ℕ) {left q : ℕ} → 0 < left → Walk P s at left q → Named s q
next_one at h c = entry_named c.here h

-- it is passed
joined_next : {P Q : Name → Name → Type 0} {s : List ℕ} {left q : ℕ} → 0 < left →
    ((w u : Name) → P w (segment (left - 1 + 1) (name_at s q) ++ u) → Q w u) →
    (w : Tree) (l : Entries s Item.names left q) (a : After l (name (name_at s q)) (q + 2 + le2 s q)) →
    Joined P w l.got.0 → Joined Q w a.rest.got.0
unfolding entries
joined_next {P} {s} {left} {q} h g w l a j =
    let e : join (texts_of l.got.0) ≡ segment left (name_at s q) ++ join (texts_of a.rest.got.0) = ap (λ (t : Tree). join (texts_of t)) a.tree ∙
    join_more left (name_at s q) (texts_of a.rest.got.0) h (no_names_lem a.rest) in
    let f : left - 1 + 1 ≡ left = omega arith in
    record { is = g _ _ (rw (f, ← e) j.is) }

-- so the loop goes on behind it
go_on : {P Q : Name → Name → Type 0} {s : List ℕ} (at : ℕ) {left q u : ℕ} → 0 < left →
    ((w r : Name) → P w (segment (left - 1 + 1) (name_at s q) ++ r) → Q w r) → u ≡ q + 2 + le2 s q → Walk P s at left q →
    Walk Q s at (left - 1) u
go_on {P} {Q} {s} at {left} {q} h g e c = subst (λ (k : ℕ). Walk Q s at (left - 1) k) (sym e) (record {
  here = (name_entry c.here h).2.rest;
  whole = λ w.
      let m = c.whole w in
      let a = (name_entry m.0 h).2 in
      (a.rest, joined_next h g w.got.0 m.0 a m.1, m.2 ∙ a.stop);
})

-- ---- what is said of the names of the accepted path

-- the path of a field reference
abbrev names_in : ExprKind → List Name
names_in (ExprKind.Literal l) = []
names_in (ExprKind.FieldRef ns) = ns
names_in (ExprKind.Sizeof n) = []
names_in (ExprKind.Alignof n) = []
names_in (ExprKind.Binary k x y) = []
names_in (ExprKind.Unary k x) = []

-- what holds of the names of the accepted list holds of the path of the reference
pub for_segments : (P : List Name → Type 0) {s : List ℕ} {at : ℕ} → le2 s (at + 4) ≡ 65 →
    ((l : Entries s Item.names (le2 s (at + 6)) (at + 8)) → P (texts_of l.got.0)) →
    (a : Accepted s 64 91 at) (path : List Name) → expr_of (tree a) ≡ ExprKind.FieldRef path → P path
for_segments P k h a path e = let f = field_ref_at a k in subst P (ap names_in (sym f.is ∙ e)) (h f.list)

-- none is left: P holds of the whole path
pub no_more : {P : Name → Name → Type 0} {s : List ℕ} {at left q : ℕ} → left ≤ 0 → Walk P s at left q → le2 s (at + 4) ≡ 65 →
    (a : Accepted s 64 91 at) (path : List Name) → expr_of (tree a) ≡ ExprKind.FieldRef path → P (join path) []
unfolding join entries
no_more {P} h c k = for_segments (λ ns. P (join ns) []) k (λ l. (ended h c l).0.is)

-- ---- the three loops

-- m is what the name has behind the segments that were passed
pub record Matched (m w u : Name) : Type 0 where
  pub is : same w buffer_size ≡ same u m

-- a turn of the loop of `is_buffer_size`
pub match_more : {s : List ℕ} (at : ℕ) {left q u : ℕ} {m : Name} (r : Bor Name) → 0 < left →
    Behind m (segment (left - 1 + 1) (name_at s q)) (Some r) →
    u ≡ q + 2 + le2 s q → Walk (Matched m) s at left q → Walk (Matched r.now) s at (left - 1) u
match_more at r l h = go_on at l (λ w x f. record { is = f.is ∙ h x })

-- its end
pub match_end : {m w : Name} → Matched m w [] → eqb (length m) 0 ≡ same w buffer_size
match_end {m} f = on_end m ∙ sym f.is

-- its end where the name does not go on with the next segment
pub match_missed : {s : List ℕ} {at left q : ℕ} {m : Name} → 0 < left → Behind m (segment (left - 1 + 1) (name_at s q)) None →
    Walk (Matched m) s at left q →
    le2 s (at + 4) ≡ 65 → (a : Accepted s 64 91 at) (path : List Name) → expr_of (tree a) ≡ ExprKind.FieldRef path →
    false ≡ same (join path) buffer_size
match_missed {s} {at} l h c k =
    let d : Walk (λ w u. same w buffer_size ≡ false) s at _ _ = go_on at l (λ w x f. f.is ∙ h x) refl c in
    for_segments (λ ns. false ≡ same (join ns) buffer_size) k (λ e. sym (d.whole e).1.is)

-- n bytes have been passed
pub record Passed (n : ℕ) (w u : Name) : Type 0 where
  pub is : length w ≡ n + length u

-- a turn of the loop of `path_length`
pub pass_more : {s : List ℕ} (at : ℕ) {left q u n r : ℕ} → 0 < left → r ≡ length (segment (left - 1 + 1) (name_at s q)) →
    u ≡ q + 2 + le2 s q → Walk (Passed n) s at left q → Walk (Passed (n + r)) s at (left - 1) u
pass_more {s} at {left} {q} l e =
    go_on at l (λ w x p. record { is = omega (arith, p.is, length-append (segment (left - 1 + 1) (name_at s q)) x, e) })

-- its end
pub pass_end : {n : ℕ} {w : Name} → Passed n w [] → n ≡ length w
pass_end p = omega (arith, p.is)

-- Whatever writes the segments that are left makes the whole write.
pub record Written (xs : List ℕ) (start : ℕ) (ys : List ℕ) (p : ℕ) (w u : Name) : Type 0 where
  pub is : (zs : List ℕ) (r : ℕ) → Wrote ys p u zs r → Wrote xs start w zs r

-- a turn of the loop of `put_path`
pub write_more : {s : List ℕ} (at : ℕ) {left q u start p r : ℕ} {xs ys zs : List ℕ} → 0 < left →
    Wrote ys p (segment (left - 1 + 1) (name_at s q)) zs r → u ≡ q + 2 + le2 s q → Walk (Written xs start ys p) s at left q →
    Walk (Written xs start zs r) s at (left - 1) u
write_more at l f = go_on at l (λ w x c. record { is = λ vs k g. c.is vs k (both f g) })

-- its end
pub write_end : {xs ys : List ℕ} {start p : ℕ} {w : Name} → Written xs start ys p w [] → Wrote xs start w ys p
write_end {ys} {p} c = c.is _ _ (none ys p)
