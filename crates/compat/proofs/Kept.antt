-- What does not grow: names, numbers, expressions, references, and so the head of a type.
use Prim.Native.Nat.{ℕ, zero, suc}
use mathlib.Core.Path.{◌≡◌, refl, sym, ◌∙◌, ap, ap₂}
use mathlib.Core.Bool.{true, false}
use mathlib.Core.List.{List, [], ◌∷◌}
use Rattle.blocks.specs.declared.Part.{Part}
use Rattle.blocks.specs.declared.Part.TheVariants.{Text, Literal, Block, Names}
use Rattle.blocks.specs.Grammar.{grammar, find_row, parts_of, within}
use Rattle.blocks.specs.Tree.{Tree, View, first, rest, body, kind, number, text, part, optional, entries, listed, view, part_or}
use Rattle.blocks.specs.Read.{Earlier}
use Rattle.blocks.proofs.Name.{false_true}
use Rattle.expr.specs.Expr.{ExprKind, make_expr, expr_of, literal_of}
use Rattle.expr.specs.Expr.{Form as ExprForm, form_of as expr_form}
use Rattle.resolved.specs.Set.{owner_of, size_of, head_of}
use Rattle.roundtrip.specs.Fits.{nothing, both, EntriesFits, InBlocks, PartFits, PartsFits, inside, BlockFits}
use Rattle.compat.specs.Grown.{Grown, growing}
use Rattle.compat.proofs.Table.{table, agree, Opened, opened, open_kind}

-- a number and a text are kept; the first part, and those behind it, may only have grown
both_kept : {t t' : Tree} → Grown t t' → (number t ≡ number t') × (text t ≡ text t') × Grown (first t) (first t') × Grown (rest t) (rest t')
both_kept (Grown.name n) = (refl, refl, Grown.nil, Grown.nil)
both_kept (Grown.num w v) = (refl, refl, Grown.nil, Grown.nil)
both_kept Grown.nil = (refl, refl, Grown.nil, Grown.nil)
both_kept (Grown.cons g h) = (refl, refl, g, h)
both_kept (Grown.block at at' k g) = (refl, refl, Grown.nil, Grown.nil)
both_kept (Grown.grows at at' k w x l) = (refl, refl, Grown.nil, Grown.nil)

-- a number is kept
pub number_kept : {t t' : Tree} → Grown t t' → number t ≡ number t'
number_kept g = (both_kept g).0

-- a text is kept
pub text_kept : {t t' : Tree} → Grown t t' → text t ≡ text t'
text_kept g = (both_kept g).1

-- the first part may only have grown
first_kept : {t t' : Tree} → Grown t t' → Grown (first t) (first t')
first_kept g = (both_kept g).2

-- so may the parts behind it
rest_kept : {t t' : Tree} → Grown t t' → Grown (rest t) (rest t')
rest_kept g = (both_kept g).3

-- so may any part
pub part_kept : (i : ℕ) {t t' : Tree} → Grown t t' → Grown (part i t) (part i t')
unfolding part
part_kept zero g = first_kept g
part_kept (suc i) g = part_kept i (rest_kept g)

-- a list of texts is kept
texts_kept : {t t' : Tree} → Grown t t' → entries text t ≡ entries text t'
unfolding entries
texts_kept (Grown.name n) = refl
texts_kept (Grown.num w v) = refl
texts_kept Grown.nil = refl
texts_kept (Grown.cons g h) = ap₂ ◌∷◌ (text_kept g) (texts_kept h)
texts_kept (Grown.block at at' k g) = refl
texts_kept (Grown.grows at at' k w x l) = refl

-- an optional number is kept
pub offset_kept : {t t' : Tree} → Grown t t' → optional number t ≡ optional number t'
offset_kept g = rw (number_kept (first_kept g), number_kept (rest_kept g))

-- a size is kept
size_kept : {t t' : Tree} → Grown t t' → size_of t ≡ size_of t'
size_kept g = rw (number_kept (first_kept g), number_kept (rest_kept g))

-- a literal is kept
literal_kept : {t t' : Tree} → Grown t t' → literal_of t ≡ literal_of t'
literal_kept g = rw (number_kept (first_kept g), number_kept (rest_kept g))

-- ---- expressions

-- the parts of an expression
unfoldable expr_parts : ExprForm → List Part
expr_parts ExprForm.literal = Literal ∷ []
expr_parts ExprForm.field_ref = Names 64 ∷ []
expr_parts ExprForm.sizeof = Text ∷ []
expr_parts ExprForm.alignof = Text ∷ []
expr_parts ExprForm.unary = Block 64 91 ∷ []
expr_parts ExprForm.binary = Block 64 91 ∷ Block 64 91 ∷ []

-- the parts of the expression kinds, from the grammar
expr_parts_lem : (k : ℕ) → within 64 91 k ≡ true → parts_of k ≡ expr_parts (expr_form k)
unfolding table parts_of find_row grammar expr_parts expr_form
expr_parts_lem = agree parts_of (λ k. expr_parts (expr_form k)) 64 27 refl

-- no expression kind may have entries added
expr_still : (k : ℕ) → within 64 91 k ≡ true → growing k ≡ false
unfolding table
expr_still = agree growing (λ k. false) 64 27 refl

-- the expression of a block inside
abbrev expr : Tree → View ExprKind → ExprKind
expr b v = make_expr (kind b) (expr_form (kind b)) (body b) v

module _ (B : InBlocks) (h : (x x' : Tree) → B Earlier.any 64 91 x → Grown x x' → expr_of x ≡ expr_of x') (k : ℕ) (e : Earlier) where
  -- an expression is kept, if those inside it are
  made_kept : (f : ExprForm) {t t' : Tree} → PartsFits B e (expr_parts f) t → Grown t t' → make_expr k f t (view expr t) ≡ make_expr k f t' (view expr t')
  unfolding make_expr expr_parts PartsFits PartFits view part_or expr_of
  made_kept ExprForm.literal p g = ap ExprKind.Literal (literal_kept (part_kept 0 g))
  made_kept ExprForm.field_ref p g = ap ExprKind.FieldRef (texts_kept (rest_kept (part_kept 0 g)))
  made_kept ExprForm.sizeof p g = ap ExprKind.Sizeof (text_kept (part_kept 0 g))
  made_kept ExprForm.alignof p g = ap ExprKind.Alignof (text_kept (part_kept 0 g))
  made_kept ExprForm.unary (both p nothing) (Grown.cons g Grown.nil) = ap (ExprKind.Unary k) (h _ _ p g)
  made_kept ExprForm.binary (both p (both q nothing)) (Grown.cons g (Grown.cons l Grown.nil)) = ap₂ (ExprKind.Binary k) (h _ _ p g) (h _ _ q l)

-- an expression is kept, at any depth
pub expr_kept : (room : ℕ) (e : Earlier) (t t' : Tree) → BlockFits room e 64 91 t → Grown t t' → expr_of t ≡ expr_of t'
unfolding BlockFits expr_of view
expr_kept zero e t t' p g = absurd p
expr_kept (suc room) e t t' (inside w _ _ p) (Grown.block at at' k g) =
    made_kept (BlockFits room) (expr_kept room Earlier.any) k e (expr_form k) (rw (expr_parts_lem k w) at p) g
expr_kept (suc room) e t t' (inside w _ _ p) (Grown.grows at at' k d x l) = false_true (sym (expr_still k w) ∙ d)

-- ---- references

-- an owner is kept
owner_kept : (room : ℕ) (e : Earlier) {t t' : Tree} → BlockFits room e 37 37 t → Grown t t' → owner_of t ≡ owner_of t'
unfolding BlockFits
owner_kept zero e p g = absurd p
owner_kept (suc room) e p g = found (open_kind 37 refl p g)
  where
    found : {t t' : Tree} → Opened (λ k. PartsFits (BlockFits room) e (parts_of k)) 37 t t' → owner_of t ≡ owner_of t'
    found (opened q h) = rw (text_kept (part_kept 0 h), texts_kept (rest_kept (part_kept 1 h)))

-- a list of owners is kept
owners_kept : (room n : ℕ) (e : Earlier) {t t' : Tree} → EntriesFits (λ f. BlockFits room f 37 37) e n t → Grown t t' → entries owner_of t ≡ entries owner_of t'
unfolding EntriesFits entries
owners_kept room zero e nothing Grown.nil = refl
owners_kept room (suc n) e (both p q) (Grown.cons g h) = ap₂ ◌∷◌ (owner_kept room e p g) (owners_kept room n _ q h)

-- the references of a type are kept
references_kept : (room : ℕ) (e : Earlier) {t t' : Tree} → BlockFits room e 32 32 t → Grown t t' → listed owner_of (part 0 (body t)) ≡ listed owner_of (part 0 (body t'))
unfolding BlockFits PartsFits PartFits parts_of find_row grammar part
references_kept zero e p g = absurd p
references_kept (suc room) e p g = found (open_kind 32 refl p g)
  where
    found : {t t' : Tree} → Opened (λ k. PartsFits (BlockFits room) e (parts_of k)) 32 t t' → listed owner_of (part 0 (body t)) ≡ listed owner_of (part 0 (body t'))
    found (opened (both (both n q) nothing) (Grown.cons (Grown.cons m h) Grown.nil)) = owners_kept room _ _ q h

-- "name; [..] size [..]; alignment; references"
pub head_kept : (room : ℕ) (e : Earlier) {a a' b b' c c' d d' : Tree} → Grown a a' → Grown b b' → Grown c c' → BlockFits room e 32 32 d → Grown d d' →
    head_of (Tree.cons a (Tree.cons b (Tree.cons c (Tree.cons d Tree.nil)))) ≡ head_of (Tree.cons a' (Tree.cons b' (Tree.cons c' (Tree.cons d' Tree.nil))))
unfolding part
head_kept room e ga gb gc p gd = rw (text_kept ga, size_kept gb, number_kept gc, references_kept room e p gd)
