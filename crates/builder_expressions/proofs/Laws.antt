-- What building an expression rests on: the definition step by step, and what the code leaves, place by place. Assumes nothing.
use mathlib.Core.Path.{◌≡◌, refl, sym, ◌∙◌, ap, subst}
use mathlib.Core.Bool.{Bool, true, false, cond}
use mathlib.Core.List.{List}
use mathlib.Core.Option.{some, none}
use Prim.Native.Nat.{ℕ, ◌+◌, ◌-◌, ◌*◌, ◌^◌, ◌≤◌, ◌<◌}
use native.Mathlib.Omega.{arith}
use lib.Dec.{leb, eqb}
use lib.ListN.{length, get_or, take, drop, length-take}
use lib.Seq.{take_at}
use borrow.Author.Tests.{eqb-true, eqb-false, leb-true, leb-false, le-leb, lt-leb, lt-ltb, le-ltb}
use Rattle.std.specs.Prelude as std
use Rattle.std.proofs.lemmas.Option.{none-some, same_Some}
use Rattle.std.specs.Prelude.{Some, None, Result, Ok, Err}
use Rattle.errors.specs.Refusal.{done, refused, plain, UnsupportedExpression, MissingParameter}
use Rattle.errors.specs.declared.Reason.{Reason}
use Rattle.errors.specs.declared.Reason.TheVariants as reason
use Rattle.answers.specs.Answers.{AnswersIn}
use Rattle.answers.proofs.Laws.{makes, refuses}
use Rattle.blocks.specs.Bytes.{bytes, le2, le4, le8}
use Rattle.blocks.specs.Name.{Name, same}
use Rattle.blocks.specs.Tree.{Tree, nil, cons}
use Rattle.blocks.specs.Write.{write}
use Rattle.blocks.proofs.Name.{same_eq}
use Rattle.accepted.specs.Accepted.{Accepted, tree}
use Rattle.accepted.proofs.Laws.{opened, header_inside, each}
use Rattle.expr.specs.Expr.{ExprKind, LiteralExpr, literals, literal_to_u64, unless_negative, expr_of}
use Rattle.expr_parts.proofs.Laws.{literal_at, field_ref_at, sizeof_at, alignof_at, unary_at, binary_at, compare_at}
use Rattle.ir.specs.Ir.{BinaryOp, IrNode, aligned, default_metadata, default_alignment, unplaced}
use Rattle.ir.specs.Layout.{operations, op_kind, node_block, node_tree}
use Rattle.builder.specs.Names.{join, apply_path_prefix}
use Rattle.builder.specs.Registry.{Registry, ◌>>=◌, give, refuse, require, need, short, lookup_name}
use Rattle.builder.specs.Nodes.{operation_of, buffer_size, build_path, build_expr_ir}
use Rattle.builder.proofs.Steps.{require_yes, require_no, need_some, need_none, reads_then}
use Rattle.wire.specs.Poke.{Wrote}
use Rattle.wire.proofs.Laws.{poke_length, poke_whole, parts, no_parts}
use Rattle.resolved_parts.specs.Types.{texts_of}
use Rattle.builder_registry.specs.Words.{Standing, Indexed, Looked, entries_of, entry_name}
use Rattle.builder_registry.proofs.Laws.{standing, looked_entry, looked_missing, long_lookup}
use Rattle.builder_paths.specs.Joined.{prefix_of, path_of}
use Rattle.builder_nodes.specs.declared.Built.{Built}
use Rattle.builder_nodes.specs.Built.{Builds, Within, node_start}
use Rattle.builder_nodes.proofs.Laws.{node_closed, step_passes, step_goes}
use Rattle.builder_expressions.specs.Ready.{Ready}
use Rattle.builder_expressions.specs.Operation.{Operation, Operates}

-- ---- literals

-- a literal of this code is its value
abbrev Unsigned : ℕ → Type 0
Unsigned c = (v : ℕ) → literal_to_u64 (get_or literals c LiteralExpr.U64 v) ≡ some v

-- a literal of this code is its value unless it is negative
abbrev Signed : ℕ → Type 0
Signed c = (v : ℕ) → literal_to_u64 (get_or literals c LiteralExpr.U64 v) ≡ unless_negative v

-- the codes 0 to 3
unsigned : (c : ℕ) → c < 4 → Unsigned c
unfolding literals
unsigned c h = each Unsigned 4 0 ((λ v. refl), ((λ v. refl), ((λ v. refl), ((λ v. refl), tt)))) c (omega arith) (omega arith)

-- the codes 4 to 7
signed : (c : ℕ) → 4 ≤ c → c ≤ 7 → Signed c
unfolding literals
signed c l h = each Signed 4 4 ((λ v. refl), ((λ v. refl), ((λ v. refl), ((λ v. refl), tt)))) c l (omega arith)

-- the literal of a literal expression
literal_one : {l m : LiteralExpr} → ExprKind.Literal l ≡ ExprKind.Literal m → l ≡ m
literal_one e = cc

-- a literal's block ends inside the bytes
pub literal_inside : {s : List ℕ} {expr : ℕ} → Accepted s 64 91 expr → le2 s (expr + 4) ≡ 64 → expr + 15 ≤ length s
literal_inside a k = (literal_at a k).inside

-- the test of the highest bit, as the code makes it
negative_test : (v : ℕ) → unless_negative v ≡ cond (leb (2 ^ 63) v) none (some v)
negative_test v = go (leb (2 ^ 63) v) refl
  where
    go : (t : Bool) → leb (2 ^ 63) v ≡ t → unless_negative v ≡ cond t none (some v)
    go true e = rw (le-ltb v (2 ^ 63) (leb-true _ _ e))
    go false e = rw (lt-ltb v (2 ^ 63) (leb-false _ _ e))

-- what is_negative says
abbrev pub Negative : List ℕ → ℕ → Bool → Type 0
Negative s expr r =
    (a : Accepted s 64 91 expr) (l : LiteralExpr) → expr_of (tree a) ≡ ExprKind.Literal l → literal_to_u64 l ≡ cond r none (some (le8 s (expr + 7)))

module _ {s : List ℕ} {expr : ℕ} (k : le2 s (expr + 4) ≡ 64) where
  -- the answer of `is_negative` for an unsigned literal
  pub is_unsigned : get_or s (expr + 6) 0 < 4 → Negative s expr false
  is_unsigned h a l e =
      ap literal_to_u64 (literal_one (sym e ∙ (literal_at a k).is)) ∙ unsigned (get_or s (expr + 6) 0) h (le8 s (expr + 7))

  -- its answer for a signed one
  pub is_signed : {v : ℕ} → 4 ≤ get_or s (expr + 6) 0 → v ≡ le8 s (expr + 7) → Negative s expr (leb (2 ^ 63) v)
  is_signed {v} h q a l e =
      ap literal_to_u64 (literal_one (sym e ∙ (literal_at a k).is)) ∙ signed (get_or s (expr + 6) 0) h (literal_at a k).small (le8 s (expr + 7)) ∙
      subst (λ (w : ℕ). unless_negative w ≡ cond (leb (2 ^ 63) v) none (some w)) q (negative_test v)

module _ (owner prefix : Name) (l : LiteralExpr) (g : Registry) where
  -- a literal that is a value becomes a Const node
  literal_gives : {v : ℕ} → literal_to_u64 l ≡ some v → build_expr_ir owner prefix (ExprKind.Literal l) g ≡ done (IrNode.Const unplaced default_metadata v, g)
  unfolding build_expr_ir give
  literal_gives e = need_some UnsupportedExpression _ g e

  -- a negative one is refused with 14
  literal_refused : literal_to_u64 l ≡ none → build_expr_ir owner prefix (ExprKind.Literal l) g ≡ refused (plain 14)
  unfolding build_expr_ir
  literal_refused e = need_none UnsupportedExpression _ g e

-- what building an expression leaves
abbrev pub Leaves : (s xs : List ℕ) (at : ℕ) (ws ys : List ℕ) (r : Result Built Reason) (owner : Name) (depth expr n : ℕ) → Type 0
Leaves s xs at ws ys r owner depth expr n =
    (a : Accepted s 64 91 expr) → Builds s xs at ws ys r (build_expr_ir owner (prefix_of depth) (expr_of (tree a)) (entries_of s ws n))

-- what `build_literal` leaves: the same under every owner and prefix, and over every registry with its index
abbrev pub LeavesLiteral : (s xs : List ℕ) (at : ℕ) (ys : List ℕ) (r : Result Built Reason) (expr n : ℕ) → Type 0
LeavesLiteral s xs at ys r expr n =
    (owner prefix : Name) (ws : List ℕ) → Indexed s ws n → (a : Accepted s 64 91 expr) →
    Builds s xs at ws ys r (build_expr_ir owner prefix (expr_of (tree a)) (entries_of s ws n))

module _ {s xs ys : List ℕ} {at expr n : ℕ} (k : le2 s (expr + 4) ≡ 64) {b : Bool} (neg : Negative s expr b) where
  -- the answer of `build_literal` for a negative literal
  pub literal_stops : b ≡ true → LeavesLiteral s xs at ys (Err reason.UnsupportedExpression) expr n
  literal_stops t owner prefix ws x a =
      let p = literal_at a k in
      refuses (rw p.is (literal_refused owner prefix _ _ (neg a _ p.is ∙ rw t)))

  -- its answer else
  pub literal_made : {v u d : ℕ} → b ≡ false → v ≡ le8 s (expr + 7) → d ≡ default_alignment →
      Wrote xs at (write (node_tree (IrNode.Const unplaced (aligned d) v))) ys u → LeavesLiteral s xs at ys (Ok (record { at = u; count = n })) expr n
  literal_made t e f w owner prefix ws x a =
      let p = literal_at a k in
      makes _ (rw p.is (literal_gives owner prefix _ _ (neg a _ p.is ∙ rw t))) (record { entries = refl; index = x; wrote = rw (e, f) at w })

-- ---- paths

module _ (owner path : Name) (g : Registry) where
  -- the definition, with the registry read
  path_steps : build_path owner path g ≡
      (need (lookup_name owner path g) MissingParameter >>= (λ p. require (short path) 17 >>= (λ _. give (IrNode.FieldRef unplaced default_metadata path (some p))))) g
  unfolding build_path
  path_steps = reads_then (lookup_name owner path) _ g

  -- a path that is found and short becomes a FieldRef node
  path_gives : {p : Name} → lookup_name owner path g ≡ some p → length path ≤ 255 →
      build_path owner path g ≡ done (IrNode.FieldRef unplaced default_metadata path (some p), g)
  unfolding give
  path_gives e h = path_steps ∙ need_some MissingParameter _ g e ∙ require_yes 17 _ g (le-leb (length path) 255 h)

  -- a long one is refused with 17
  path_long : {p : Name} → lookup_name owner path g ≡ some p → 255 < length path → build_path owner path g ≡ refused (plain 17)
  path_long e h = path_steps ∙ need_some MissingParameter _ g e ∙ require_no 17 _ g (lt-leb (length path) 255 h)

  -- one that is not found with 12
  path_missing : lookup_name owner path g ≡ none → build_path owner path g ≡ refused (plain 12)
  path_missing e = path_steps ∙ need_none MissingParameter _ g e

module _ {s xs ws ys : List ℕ} {at n : ℕ} (owner path : Name) {r : std.Option ℕ} (l : Looked s ws n r (lookup_name owner path (entries_of s ws n))) where
  -- the answer of `build_path` for a path that is found and short
  pub ref_made : {i u : ℕ} → Indexed s ws n → r ≡ Some i → length path ≤ 255 →
      Wrote xs at (write (node_tree (IrNode.FieldRef unplaced default_metadata path (some (entry_name s (get_or ws i 0)))))) ys u →
      Builds s xs at ws ys (Ok (record { at = u; count = n })) (build_path owner path (entries_of s ws n))
  ref_made x e h w = makes _ (path_gives owner path _ (looked_entry e l).1 h) (record { entries = refl; index = x; wrote = w })

  -- for a long one
  pub ref_long : {i : ℕ} → r ≡ Some i → 255 < length path → Builds s xs at ws ys (Err reason.LimitExceeded) (build_path owner path (entries_of s ws n))
  ref_long e h = refuses (path_long owner path _ (looked_entry e l).1 h)

  -- for one that is not found
  pub ref_missing : r ≡ None → Builds s xs at ws ys (Err reason.MissingParameter) (build_path owner path (entries_of s ws n))
  ref_missing e = refuses (path_missing owner path _ (looked_missing e l))

-- ---- field references

-- what a field reference becomes
module _ (owner prefix : Name) (path : List Name) (g : Registry) where
  -- `__buffer_size` becomes the node of that name, whatever the prefix
  buffer_gives : same (join path) buffer_size ≡ true →
      build_expr_ir owner prefix (ExprKind.FieldRef path) g ≡ done (IrNode.FieldRef unplaced default_metadata buffer_size none, g)
  unfolding build_expr_ir give
  buffer_gives e = rw (e, same_eq (join path) buffer_size e)

  -- another path is looked up behind the prefix
  path_is : same (join path) buffer_size ≡ false →
      build_expr_ir owner prefix (ExprKind.FieldRef path) g ≡ build_path owner (apply_path_prefix prefix (join path)) g
  unfolding build_expr_ir
  path_is e = rw e

-- what is_buffer_size, joined_length and put_joined say
abbrev pub BufferSize : List ℕ → ℕ → Bool → Type 0
BufferSize s expr r = (a : Accepted s 64 91 expr) (path : List Name) → expr_of (tree a) ≡ ExprKind.FieldRef path → r ≡ same (join path) buffer_size

-- how long the path behind the prefix is
abbrev pub Long : List ℕ → ℕ → ℕ → ℕ → Type 0
Long s expr depth r = (a : Accepted s 64 91 expr) (path : List Name) → expr_of (tree a) ≡ ExprKind.FieldRef path → r ≡ length (path_of depth path)

-- that the path behind the prefix was written
abbrev pub Put : List ℕ → ℕ → ℕ → (xs ys : List ℕ) → ℕ → Type 0
Put s expr depth xs ys r = (a : Accepted s 64 91 expr) (path : List Name) → expr_of (tree a) ≡ ExprKind.FieldRef path → Wrote xs 0 (path_of depth path) ys r

-- the part of the buffer that was written
pub taken : {xs ys bs : List ℕ} {e : ℕ} → length bs ≤ length xs → Wrote xs 0 bs ys e → take e ys ≡ bs
taken {xs} {ys} {bs} {e} h w =
    let z : e ≡ length bs = omega (arith, w.end) in
    rw (w.left, poke_whole xs bs h, z) (take_at bs (drop (length bs) xs) (length bs) refl)

-- the length of that part
pub taken_length : (ys : List ℕ) (e : ℕ) → e ≤ length ys → e ≡ length (take e ys)
taken_length ys e h = simp length-take (omega arith)

module _ {s : List ℕ} {expr : ℕ} (k : le2 s (expr + 4) ≡ 65) where
  -- the path fits where it was measured
  pub written : (depth : ℕ) {l e : ℕ} {xs ys : List ℕ} → Accepted s 64 91 expr → Long s expr depth l → l ≤ 511 → length xs ≡ 512 →
      Put s expr depth xs ys e → e ≤ length ys
  written depth {l} {e} {xs} {ys} a g h x p =
      let f = field_ref_at a k in
      let w = p a _ f.is in
      omega (arith, g a _ f.is, w.end, ap length w.left, poke_length xs 0 (path_of depth (texts_of f.list.got.0)))

  module _ {xs ws ys : List ℕ} {at : ℕ} (owner : Name) (depth n : ℕ) {b : Bool} (is : BufferSize s expr b) where
    -- the answer of `build_field_ref` for `__buffer_size`
    pub buffer_made : {u : ℕ} → Indexed s ws n → b ≡ true →
        Wrote xs at (write (node_tree (IrNode.FieldRef unplaced default_metadata buffer_size none))) ys u →
        Leaves s xs at ws ys (Ok (record { at = u; count = n })) owner depth expr n
    buffer_made x t w a =
        let f = field_ref_at a k in
        makes _ (rw f.is (buffer_gives owner (prefix_of depth) _ _ (sym (is a _ f.is) ∙ t))) (record { entries = refl; index = x; wrote = w })

    -- longer than any path of the registry
    pub path_stops : {l : ℕ} → Standing s ws n → length owner ≤ 255 → b ≡ false → Long s expr depth l → 511 < l →
        Leaves s xs at ws ys (Err reason.MissingParameter) owner depth expr n
    path_stops {l} st o t g h a =
        let f = field_ref_at a k in
        let m : 511 < length (path_of depth (texts_of f.list.got.0)) = rw (g a _ f.is) at h in
        refuses
        (rw f.is (path_is owner (prefix_of depth) _ _ (sym (is a _ f.is) ∙ t) ∙ path_missing owner _ _ (long_lookup st owner _ o m)))

    -- its answer for a path that was copied
    pub path_made : {l e : ℕ} {x₁ x₂ : List ℕ} {r : Result Built Reason} → b ≡ false → Long s expr depth l → l ≤ 511 → length x₁ ≡ 512 → Put s expr depth x₁ x₂ e →
        Builds s xs at ws ys r (build_path owner (take e x₂) (entries_of s ws n)) → Leaves s xs at ws ys r owner depth expr n
    path_made {l} {e} {x₁} {x₂} t g h x p m a =
        let f = field_ref_at a k in
        let i : length (path_of depth (texts_of f.list.got.0)) ≤ length x₁ = omega (arith, g a _ f.is) in
        rw (f.is, path_is owner (prefix_of depth) _ _ (sym (is a _ f.is) ∙ t), ← taken i (p a _ f.is)) m

-- ---- operations

-- A kind of two operands becomes the node kind c above it; the operations of nodes begin with 134.
abbrev Becomes : ℕ → ℕ → Type 0
Becomes c k = (operation_of k ≡ some (get_or operations (k + c - 134) BinaryOp.AddChecked)) × (op_kind (get_or operations (k + c - 134) BinaryOp.AddChecked) ≡ k + c)

-- such a kind has an operation
operates : (c : ℕ) {k : ℕ} → 65 ≤ c → c ≤ 66 → 68 ≤ k → k ≤ 78 → Becomes c k → Operates k (Some (k + c))
operates c i j l h o = Operates.operation (record { low = l; high = h; op = _; is = o.0; node = o.1; least = omega arith; most = omega arith })

-- the kinds 68 to 72
pub low_operates : {k : ℕ} → 68 ≤ k → k < 73 → Operates k (Some (k + 66))
unfolding operation_of operations
low_operates {k} l h =
    operates 66 (omega arith) (omega arith) l (omega arith)
    (each (Becomes 66) 5 68 ((refl, refl), ((refl, refl), ((refl, refl), ((refl, refl), ((refl, refl), tt))))) k l (omega arith))

-- the kinds 74 to 78
pub high_operates : {k : ℕ} → 74 ≤ k → k < 79 → Operates k (Some (k + 65))
unfolding operation_of operations
high_operates {k} l h =
    operates 65 (omega arith) (omega arith) (omega arith) (omega arith)
    (each (Becomes 65) 5 74 ((refl, refl), ((refl, refl), ((refl, refl), ((refl, refl), ((refl, refl), tt))))) k l (omega arith))

-- what the answer of `operation_kind` says of the kind that was read: it becomes a node of this kind
pub is_operation : {j k kind : ℕ} {r : std.Option ℕ} → k ≡ j → r ≡ Some kind → Operates k r → Operation j kind
is_operation {kind = kind} e z (Operates.operation {kind = q} o) = rw (← e, ← same_Some q kind z) o
is_operation e z (Operates.other n) = absurd (none-some _ z)

-- or it becomes none
pub no_operation : {j k : ℕ} {r : std.Option ℕ} → k ≡ j → r ≡ None → Operates k r → operation_of j ≡ none
no_operation e z (Operates.operation o) = absurd (none-some _ (sym z))
no_operation e z (Operates.other n) = rw (← e) n

-- the other kinds have none
pub none_low : {k : ℕ} → k < 68 → operation_of k ≡ none
unfolding operation_of
none_low {k} h = let i : k < 74 = omega arith in rw (lt-leb 68 k h, lt-leb 74 k i)

-- 73, the remainder
pub none_between : {k : ℕ} → 73 ≤ k → k < 74 → operation_of k ≡ none
unfolding operation_of
none_between {k} l h = let i : 68 ≤ k = omega arith in let j : 72 < k = omega arith in rw (le-leb 68 k i, lt-leb k 72 j, lt-leb 74 k h)

-- 79 and above
pub none_high : {k : ℕ} → 79 ≤ k → operation_of k ≡ none
unfolding operation_of
none_high {k} l =
    let i : 68 ≤ k = omega arith in
    let j : 72 < k = omega arith in
    let m : 74 ≤ k = omega arith in
    let p : 78 < k = omega arith in
    rw (le-leb 68 k i, lt-leb k 72 j, le-leb 74 k m, lt-leb k 78 p)

module _ (owner prefix : Name) (g : Registry) where
  -- a kind of two operands without an operation is refused
  binary_refused : (k : ℕ) (l r : ExprKind) → operation_of k ≡ none → build_expr_ir owner prefix (ExprKind.Binary k l r) g ≡ refused (plain 14)
  unfolding build_expr_ir
  binary_refused k l r e = need_none UnsupportedExpression _ g e

  -- so is `sizeof`
  sizeof_refused : (n : Name) → build_expr_ir owner prefix (ExprKind.Sizeof n) g ≡ refused (plain 14)
  unfolding build_expr_ir refuse
  sizeof_refused n = refl

  -- so is `alignof`
  alignof_refused : (n : Name) → build_expr_ir owner prefix (ExprKind.Alignof n) g ≡ refused (plain 14)
  unfolding build_expr_ir refuse
  alignof_refused n = refl

  -- so is every kind of one operand
  unary_refused : (k : ℕ) (x : ExprKind) → build_expr_ir owner prefix (ExprKind.Unary k x) g ≡ refused (plain 14)
  unfolding build_expr_ir refuse
  unary_refused k x = refl

  -- the expression is refused with 14
  abbrev Refused : ExprKind → Type 0
  Refused e = build_expr_ir owner prefix e g ≡ refused (plain 14)

  -- a kind that becomes no node
  other_refused : {s : List ℕ} {at : ℕ} (a : Accepted s 64 91 at) → (le2 s (at + 4) ≡ 64 → ⊥) → (le2 s (at + 4) ≡ 65 → ⊥) →
      operation_of (le2 s (at + 4)) ≡ none → Refused (expr_of (tree a))
  other_refused {s} {at} a x y e = low (eqb (le2 s (at + 4)) 66) refl
    where
      high : (t : Bool) → leb (le2 s (at + 4)) 82 ≡ t → 79 ≤ le2 s (at + 4) → Refused (expr_of (tree a))
      high true q h = let b = unary_at a h (leb-true _ _ q) in rw b.is (unary_refused _ _)
      high false q h = let l : 82 < le2 s (at + 4) = leb-false _ _ q in let b = compare_at a (omega arith) in rw b.is (binary_refused _ _ _ e)

      middle : (t : Bool) → leb 79 (le2 s (at + 4)) ≡ t → 68 ≤ le2 s (at + 4) → Refused (expr_of (tree a))
      middle true q h = high (leb (le2 s (at + 4)) 82) refl (leb-true _ _ q)
      middle false q h = let l : le2 s (at + 4) < 79 = leb-false _ _ q in let b = binary_at a h (omega arith) in rw b.is (binary_refused _ _ _ e)

      next : (t : Bool) → eqb (le2 s (at + 4)) 67 ≡ t → (le2 s (at + 4) ≡ 66 → ⊥) → Refused (expr_of (tree a))
      next true q h = rw (alignof_at a (eqb-true _ _ q)) (alignof_refused _)
      next false q h =
          let z : le2 s (at + 4) ≡ 67 → ⊥ = eqb-false _ _ q in let o = opened a refl refl in middle (leb 79 (le2 s (at + 4))) refl (omega (arith, o.least))

      low : (t : Bool) → eqb (le2 s (at + 4)) 66 ≡ t → Refused (expr_of (tree a))
      low true q = rw (sizeof_at a (eqb-true _ _ q)) (sizeof_refused _)
      low false q = next (eqb (le2 s (at + 4)) 67) refl (eqb-false _ _ q)

-- the answer of `build_expr_ir` for a kind that becomes no node
pub other_stops : {s xs ws ys : List ℕ} {at expr k : ℕ} {r : std.Option ℕ} (owner : Name) (depth n : ℕ) → k ≡ le2 s (expr + 4) → (k ≡ 64 → ⊥) → (k ≡ 65 → ⊥) →
    r ≡ None → Operates k r → Leaves s xs at ws ys (Err reason.UnsupportedExpression) owner depth expr n
other_stops owner depth n e x y z o a = refuses (other_refused owner (prefix_of depth) _ a (rw e at x) (rw e at y) (no_operation e z o))

-- ---- two operands

-- the definition of a node of two operands: the first, then the second
binary_steps : (owner prefix : Name) (k : ℕ) (l r : ExprKind) (g : Registry) {op : BinaryOp} → operation_of k ≡ some op →
    build_expr_ir owner prefix (ExprKind.Binary k l r) g ≡
    (build_expr_ir owner prefix l >>= (λ x. build_expr_ir owner prefix r >>= (λ y. give (IrNode.Binary unplaced default_metadata op x y)))) g
unfolding build_expr_ir
binary_steps owner prefix k l r g e = need_some UnsupportedExpression _ g e

-- the offset of the second operand, as the code sums it
pub summed : (x : ℕ) {y z : ℕ} → y ≡ z → x + y ≡ x + z
summed x e = ap (λ (w : ℕ). x + w) e

-- what the operands stand on, and that they are shorter
module _ {s ws : List ℕ} {n depth expr at kind p : ℕ} {owner : Name} (r : Ready s ws n owner depth expr at)
    (o : Operation (le2 s (expr + 4)) kind) (e : p ≡ at + 15) where
  -- the first operand
  pub left_ready : (le4 s (expr + 6) < le4 s expr) × Ready s ws n owner depth (expr + 6) p
  left_ready =
      let b = binary_at r.expression o.low o.high in
      (omega (arith, b.room), record { standing = r.standing; owned = r.owned; deep = r.deep; expression = b.left; cursor = omega (arith, r.cursor, b.room) })

  -- the length of the first lies inside the bytes, so that the second can be found
  pub second_inside : expr + 6 + 4 ≤ length s
  second_inside = omega (arith, header_inside (binary_at r.expression o.low o.high).left)

  module _ {q : ℕ} {l : Built} (w : Within p (1024 * (4 + le4 s (expr + 6))) l) (f : q ≡ expr + 10 + le4 s (expr + 6)) where
    -- the second operand is an accepted expression
    right_at : Accepted s 64 91 q × (10 + le4 s (expr + 6) + le4 s q ≤ le4 s expr)
    right_at =
        let b = binary_at r.expression o.low o.high in
        rw f (b.right, b.room)

    -- the second operand
    pub right_ready : Indexed s ws l.count → (le4 s q < le4 s expr) × Ready s ws l.count owner depth q l.at
    right_ready x =
        let b = right_at in (
          omega (arith, b.1),
          record {
            standing = standing r.standing refl w.count x;
            owned = r.owned;
            deep = r.deep;
            expression = b.0;
            cursor = omega (arith, r.cursor, b.1, w.high);
          },
        )

    -- the cursor behind both stays in the room of the whole
    pub both_within : {m : Built} → Within l.at (1024 * (4 + le4 s q)) m →
        (at + 4 ≤ m.at) × (m.at < 2 ^ 61) × Within at (1024 * (4 + le4 s expr)) m
    both_within {m} v =
        let b = right_at in (
          omega (arith, w.low, v.low),
          omega (arith, r.cursor, b.1, w.high, v.high),
          record { low = omega (arith, w.low, v.low); high = omega (arith, b.1, w.high, v.high); count = v.count },
        )

-- the bytes of a node of two operands
pub two_written : {xs x₁ x₂ x₃ ys : List ℕ} {at p q u v : ℕ} (k a : ℕ) (m n : Tree) → Wrote xs at (node_start k a) x₁ p →
    Wrote x₁ p (write m) x₂ q → Wrote x₂ q (write n) x₃ u → Wrote x₃ at (bytes 4 (u - at - 4)) ys v →
    Wrote xs at (write (node_block k (aligned a) (cons m (cons n nil)))) ys u
two_written {x₃} {u} k a m n w f g c = node_closed k a (cons m (cons n nil)) w (parts m (cons n nil) f (parts n nil g (no_parts x₃ u))) c

module _ {s ws : List ℕ} {kind : ℕ} (owner : Name) (depth n expr : ℕ) (o : Operation (le2 s (expr + 4)) kind) {x₁ x₂ : List ℕ} {p : ℕ} where
  -- the first operand is refused
  pub left_stops : {e : Reason} {xs ys : List ℕ} {at : ℕ} → Leaves s x₁ p ws x₂ (Err e) owner depth (expr + 6) n → Leaves s xs at ws ys (Err e) owner depth expr n
  left_stops f a =
      let b = binary_at a o.low o.high in
      rw (b.is, binary_steps owner (prefix_of depth) _ _ _ (entries_of s ws n) o.is) (step_passes _ _ _ (f b.left))

  module _ {l : Built} (f : Leaves s x₁ p ws x₂ (Ok l) owner depth (expr + 6) n) {q : ℕ} (e : q ≡ expr + 10 + le4 s (expr + 6)) {x₃ : List ℕ} where
    -- what the second operand leaves, at the offset as the definition has it, over the registry that the first left
    right_leaves : {r : Result Built Reason} {h : Registry} → Leaves s x₂ l.at ws x₃ r owner depth q l.count → entries_of s ws l.count ≡ h →
        (a : Accepted s 64 91 (expr + 10 + le4 s (expr + 6))) → Builds s x₂ l.at ws x₃ r (build_expr_ir owner (prefix_of depth) (expr_of (tree a)) h)
    right_leaves {r} g i a = rw (← i) (subst (λ (j : ℕ). Leaves s x₂ l.at ws x₃ r owner depth j l.count) e g a)

    -- the second operand is refused
    pub right_stops : {c : Reason} {xs ys : List ℕ} {at : ℕ} → Leaves s x₂ l.at ws x₃ (Err c) owner depth q l.count → Leaves s xs at ws ys (Err c) owner depth expr n
    right_stops g a =
        let b = binary_at a o.low o.high in
        rw (b.is, binary_steps owner (prefix_of depth) _ _ _ (entries_of s ws n) o.is)
        (step_goes _ _ _ (f b.left) (λ _ m. step_passes _ _ _ (right_leaves g m.entries b.right)))

    -- both were built
    pub both_made : {r : Built} {xs ys : List ℕ} {at d v : ℕ} → Leaves s x₂ l.at ws x₃ (Ok r) owner depth q l.count → d ≡ default_alignment →
        Wrote xs at (node_start kind d) x₁ p → Wrote x₃ at (bytes 4 (r.at - at - 4)) ys v → Leaves s xs at ws ys (Ok r) owner depth expr n
    unfolding node_tree give
    both_made g t w c a =
        let b = binary_at a o.low o.high in
        rw (b.is, binary_steps owner (prefix_of depth) _ _ _ (entries_of s ws n) o.is)
        (step_goes _ _ _ (f b.left) (λ _ m. step_goes _ _ _ (right_leaves g m.entries b.right)
        (λ _ k. AnswersIn.made _
        (record { entries = k.entries; index = k.index; wrote = rw o.node (two_written _ _ _ _ (rw t at w) m.wrote k.wrote c) }))))
