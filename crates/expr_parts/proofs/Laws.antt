-- An accepted expression by its kind.
use mathlib.Core.Path.{◌≡◌, refl, ◌∙◌, ap, subst}
use mathlib.Core.List.{List, [], ◌∷◌}
use Prim.Native.Nat.{ℕ, ◌+◌, ◌≤◌}
use native.Mathlib.Omega.{arith}
use lib.ListN.{get_or}
use Rattle.errors.specs.Refusal.{done}
use Rattle.blocks.specs.declared.Part.{Part}
use Rattle.blocks.specs.declared.Part.TheVariants.{Text, Literal, Names}
use Rattle.blocks.specs.Bytes.{le2, le4, le8}
use Rattle.blocks.specs.Grammar.{expression, parts_of, find_row, grammar, node_table}
use Rattle.blocks.specs.Tree.{Tree, View, cons, kind, body, part, view, part_or}
use Rattle.blocks.specs.Read.{read_entries}
use Rattle.accepted.specs.Accepted.{Accepted, tree, name_at, Item, read_item, Entries, Counted}
use Rattle.accepted.proofs.Laws.{Opened, opened, each, behind_at, literal_part, text_part, list_part, block_part}
use Rattle.expr.specs.Expr.{ExprKind, LiteralExpr, literals, Form, form_of, make_expr, expr_of}
use Rattle.expr_parts.specs.Exprs.{LiteralAt, FieldRefAt, UnaryAt, BinaryAt}

-- ---- an expression of a known form

-- the typed view of the parts of an expression
abbrev viewed : Tree → View ExprKind
viewed t = view (λ b v. make_expr (kind b) (form_of (kind b)) (body b) v) t

-- an accepted expression is made from its parts by the form of its kind
expr_is : {s : List ℕ} {at k : ℕ} {ps : List Part} {f : Form} (a : Accepted s 64 91 at) (o : Opened k ps a) → form_of k ≡ f →
    (t : Tree) → o.parts.got.0 ≡ t → expr_of (tree a) ≡ make_expr k f t (viewed t)
unfolding expr_of view
expr_is {at} {k} {f} a o ef t e =
    ap expr_of o.tree ∙ ap (λ (z : Tree). make_expr k (form_of k) z (viewed z)) e ∙ ap (λ (g : Form). make_expr k g t (viewed t)) ef

-- kind 64, a literal
pub literal_at : {s : List ℕ} {at : ℕ} (a : Accepted s 64 91 at) → le2 s (at + 4) ≡ 64 → LiteralAt a
unfolding parts_of find_row grammar node_table form_of make_expr part
literal_at {s} {at} a e =
    let o = opened {ps = Literal ∷ []} a e refl in
    let l = literal_part o.parts in
    record {
      inside = omega (arith, l.2.inside, o.parts.fits);
      small = l.0;
      is =
          expr_is a o refl _ l.2.tree ∙
          ap (λ (q : ℕ). ExprKind.Literal (get_or literals (get_or s (at + 6) 0) LiteralExpr.U64 (le8 s q))) (let e : at + 6 + 1 ≡ at + 7 = omega arith in e);
    }

-- said of another offset that is the same
abbrev entries_at : {s : List ℕ} {i : Item} {n q r : ℕ} → q ≡ r → Entries s i n q → Entries s i n r
entries_at {s} {i} {n} e l =
    record {
      room = l.room;
      earlier = l.earlier;
      start = l.start;
      end = l.end;
      got = l.got;
      fits = l.fits;
      read = subst (λ (p : ℕ). read_entries (read_item i l.room s l.start l.end) l.earlier n p ≡ done l.got) e l.read;
    }

-- kind 65, a field reference: its path is a list of names
pub field_ref_at : {s : List ℕ} {at : ℕ} (a : Accepted s 64 91 at) → le2 s (at + 4) ≡ 65 → FieldRefAt a
unfolding parts_of find_row grammar node_table form_of make_expr part
field_ref_at {s} {at} a e =
    let o = opened {ps = Names 64 ∷ []} a e refl in
    let l = list_part Counted.names o.parts in
    record {
      inside = omega (arith, l.inside, o.parts.fits);
      few = l.few;
      list = entries_at (let e : at + 6 + 2 ≡ at + 8 = omega arith in e) l.list;
      is = expr_is a o refl _ l.behind.tree;
    }

-- 66 and 67, which hold a name
pub sizeof_at : {s : List ℕ} {at : ℕ} (a : Accepted s 64 91 at) → le2 s (at + 4) ≡ 66 → expr_of (tree a) ≡ ExprKind.Sizeof (name_at s (at + 6))
unfolding parts_of find_row grammar node_table form_of make_expr part
sizeof_at a e = let o = opened {ps = Text ∷ []} a e refl in expr_is a o refl _ (text_part o.parts).1.tree

-- the same for `alignof`
pub alignof_at : {s : List ℕ} {at : ℕ} (a : Accepted s 64 91 at) → le2 s (at + 4) ≡ 67 → expr_of (tree a) ≡ ExprKind.Alignof (name_at s (at + 6))
unfolding parts_of find_row grammar node_table form_of make_expr part
alignof_at a e = let o = opened {ps = Text ∷ []} a e refl in expr_is a o refl _ (text_part o.parts).1.tree

-- ---- the kinds of one operand, and of two

-- a kind whose one part is an expression
abbrev One : ℕ → Type 0
One k = (parts_of k ≡ expression ∷ []) × (form_of k ≡ Form.unary)

-- a kind whose two parts are expressions
abbrev Two : ℕ → Type 0
Two k = (parts_of k ≡ expression ∷ expression ∷ []) × (form_of k ≡ Form.binary)

-- 79 to 82
one : (k : ℕ) → 79 ≤ k → k ≤ 82 → One k
unfolding parts_of find_row grammar node_table form_of
one k h l = each One 4 79 ((refl, refl), ((refl, refl), ((refl, refl), ((refl, refl), tt)))) k h (omega arith)

-- 68 to 78
two_low : (k : ℕ) → 68 ≤ k → k ≤ 78 → Two k
unfolding parts_of find_row grammar node_table form_of
two_low k h l =
    each Two 11 68
    ((refl, refl), ((refl, refl), ((refl, refl), ((refl, refl), ((refl, refl), ((refl, refl), ((refl, refl), ((refl, refl), ((refl, refl), ((refl, refl), ((refl, refl), tt)))))))))))
    k h (omega arith)

-- 83 to 91
two_high : (k : ℕ) → 83 ≤ k → k ≤ 91 → Two k
unfolding parts_of find_row grammar node_table form_of
two_high k h l =
    each Two 9 83 ((refl, refl), ((refl, refl), ((refl, refl), ((refl, refl), ((refl, refl), ((refl, refl), ((refl, refl), ((refl, refl), ((refl, refl), tt))))))))) k h (omega arith)

-- 79 to 82: the operand stands behind the kind
pub unary_at : {s : List ℕ} {at : ℕ} (a : Accepted s 64 91 at) → 79 ≤ le2 s (at + 4) → le2 s (at + 4) ≤ 82 → UnaryAt a
unfolding make_expr expr_of view part_or
unary_at {s} {at} a h k =
    let w = one (le2 s (at + 4)) h k in
    let o = opened a refl w.0 in
    let c = block_part o.parts in
    record {
      operand = c.child;
      room = omega (arith, c.behind.inside, o.end);
      is = expr_is a o w.1 _ c.behind.tree;
    }

-- a kind of two operands: the second stands behind the first
two_at : {s : List ℕ} {at : ℕ} (a : Accepted s 64 91 at) → Two (le2 s (at + 4)) → BinaryAt a
unfolding make_expr expr_of view part_or
two_at {s} {at} a w =
    let o = opened a refl w.0 in
    let c = block_part o.parts in
    let b = behind_at (let e : at + 6 + 4 + le4 s (at + 6) ≡ at + 10 + le4 s (at + 6) = omega arith in e) c.behind in
    let d = block_part b.rest in
    record {
      left = c.child;
      right = d.child;
      room = omega (arith, d.behind.inside, b.end, o.end);
      is = expr_is a o w.1 _ (b.tree ∙ ap (λ (z : Tree). cons (tree c.child) z) d.behind.tree);
    }

-- 68 to 78
pub binary_at : {s : List ℕ} {at : ℕ} (a : Accepted s 64 91 at) → 68 ≤ le2 s (at + 4) → le2 s (at + 4) ≤ 78 → BinaryAt a
binary_at a h k = two_at a (two_low _ h k)

-- 83 to 91
pub compare_at : {s : List ℕ} {at : ℕ} (a : Accepted s 64 91 at) → 83 ≤ le2 s (at + 4) → BinaryAt a
compare_at a h = two_at a (two_high _ h (opened a refl refl).most)
