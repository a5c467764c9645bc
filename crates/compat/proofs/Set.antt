-- From the hypothesis on two sets to the relation on their types.
use Prim.Native.Nat.{ℕ, zero, suc, ◌<◌}
use native.Mathlib.Omega.{arith}
use mathlib.Core.Path.{◌≡◌, refl, sym, ◌∙◌, ap}
use mathlib.Core.Bool.{Bool, true, false, ◌||◌, cond}
use mathlib.Core.List.{List, [], ◌∷◌}
use mathlib.Core.Option.{some}
use lib.ListN.{get_or, drop}
use borrow.Author.Tests.{not-true}
use Rattle.errors.specs.Refusal.{done}
use Rattle.blocks.specs.declared.Part.TheVariants.{Key}
use Rattle.blocks.specs.Grammar.{grammar, find_row, parts_of, within}
use Rattle.blocks.specs.Name.{Name, same, among}
use Rattle.blocks.specs.Tree.{Tree, View, number, rest, body, part, entries, view}
use Rattle.blocks.specs.Read.{Earlier, in_order, name_of, read_set}
use Rattle.blocks.proofs.Name.{same_eq, same_refl, false_true}
use Rattle.resolved.specs.Resolved.{Head, ResolvedType, head, get_type_info}
use Rattle.resolved.specs.Set.{Thing, as_type, form_of, head_of, make_thing, thing_of, type_of, types_of}
use Rattle.roundtrip.specs.Fits.{nothing, both, text, EntriesFits, PartFits, PartsFits, inside, BlockFits}
use Rattle.roundtrip.proofs.Accepted.{accepted}
use Rattle.compat.specs.Grown.{Entry, TypeOf, Extends}
use Rattle.compat.specs.Types.{TypeGrown, TypesGrown}
use Rattle.compat.proofs.Table.{table, agree, only}
use Rattle.compat.proofs.FromTrees.{type_grown}

-- ---- one type

-- a type's head is read from its parts alike for every kind
type_head : (t : Tree) (v : View Thing) (k : ℕ) → within 1 7 k ≡ true → head (as_type (make_thing (form_of k) t v)) ≡ head_of t
unfolding table make_thing form_of
type_head t v = agree (λ i. head (as_type (make_thing (form_of i) t v))) (λ i. head_of t) 1 6 refl

-- a type begins with its name
type_parts : (k : ℕ) → within 1 7 k ≡ true → parts_of k ≡ Key ∷ drop 1 (parts_of k)
unfolding table parts_of find_row grammar
type_parts = agree parts_of (λ i. Key ∷ drop 1 (parts_of i)) 1 6 refl

-- its name is in order, and is its block's
named : (room : ℕ) (e : Earlier) (b : Tree) → BlockFits room e 1 7 b → (in_order e (name_of b) ≡ true) × ((head (type_of b)).name ≡ name_of b)
unfolding BlockFits PartsFits PartFits name_of type_of view thing_of part
named zero e b p = absurd p
named (suc room) e b (inside {at} {k} w _ _ p) = found (rw (type_parts k w) at p)
  where
    found : {t : Tree} → PartsFits (BlockFits room) e (Key ∷ drop 1 (parts_of k)) t → (in_order e (name_of t) ≡ true) × ((head (type_of (Tree.block at k t))).name ≡ name_of t)
    found (both (text x, o) q) = (o, ap (λ (h : Head). h.name) (type_head _ _ k w))

-- ---- the types of a set

-- n entries that are types within the limits, of names that e allows
abbrev Types : Earlier → ℕ → Tree → Type 0
Types = EntriesFits (λ f. BlockFits 31 f 1 7)

-- a set that was read has such a list of types
types_read : (s : List ℕ) → ((i : ℕ) → get_or s i 0 < 256) → (t : Tree) → read_set s ≡ done t → (n : ℕ) × Types (Earlier.distinct []) n (rest (part 0 (body t)))
unfolding BlockFits PartsFits PartFits parts_of find_row grammar part
types_read s small t e = found t (accepted 32 36 s small t e).1
  where
    listed : {t : Tree} → PartsFits (BlockFits 31) Earlier.any (parts_of 36) t → (n : ℕ) × Types (Earlier.distinct []) n (rest (part 0 t))
    listed (both (both {a} c q) nothing) = (number a, q)

    found : (t : Tree) → BlockFits 32 Earlier.any 36 36 t → (n : ℕ) × Types (Earlier.distinct []) n (rest (part 0 (body t)))
    found t (inside {k} {t = u} w _ _ p) = listed {t = u} (rw (only 36 k w) at p)

-- a type of the set is within the limits
entry_fits : (n : ℕ) (e : Earlier) {t b : Tree} → Types e n t → Entry b t → (f : Earlier) × BlockFits 31 f 1 7 b
unfolding EntriesFits
entry_fits zero e nothing i = elim i [ ]
entry_fits (suc n) e (both p q) Entry.here = (e, p)
entry_fits (suc n) e (both p q) (Entry.there i) = entry_fits n _ q i

-- a test of two that fails: both fail
neither : (a b : Bool) → (a || b) ≡ false → (a ≡ false) × (b ≡ false)
neither true b h = false_true (sym h)
neither false b h = (refl, h)

-- an entry has none of the names before it
unlike : (n : ℕ) (ms : List Name) {t b : Tree} → Types (Earlier.distinct ms) n t → Entry b t → among (name_of b) ms ≡ false
unfolding EntriesFits among in_order
unlike zero ms nothing i = elim i [ ]
unlike (suc n) ms (both p q) Entry.here = not-true _ (named 31 _ _ p).0
unlike (suc n) ms (both p q) (Entry.there i) = (neither (same _ _) _ (unlike n _ q i)).1

-- so its name is found
entry_found : (n : ℕ) (ms : List Name) {t b : Tree} → Types (Earlier.distinct ms) n t → Entry b t → get_type_info (name_of b) (entries type_of t) ≡ some (type_of b)
unfolding EntriesFits entries get_type_info among
entry_found zero ms nothing i = elim i [ ]
entry_found (suc n) ms {b} (both p q) Entry.here = rw ((named 31 _ _ p).1, same_refl (name_of b))
entry_found (suc n) ms (both p q) (Entry.there i) = rw ((named 31 _ _ p).1, (neither (same _ _) _ (unlike n _ q i)).0) (entry_found n _ q i)

-- a type that is found is an entry's
record Found (n : Name) (t : Tree) (ty : ResolvedType) : Type 0 where
  block : Tree
  entry : Entry block t
  type : type_of block ≡ ty
  name : n ≡ (head (type_of block)).name

-- a name that a set has is that of one of its blocks
lookup : (m : ℕ) (e : Earlier) (n : Name) (t : Tree) (ty : ResolvedType) → Types e m t → get_type_info n (entries type_of t) ≡ some ty → Found n t ty
unfolding EntriesFits entries get_type_info
lookup zero e n t ty nothing d = let z : ◌≡◌ {A = ℕ} 0 1 = cc in absurd (omega arith)
lookup (suc m) e n t ty (both {a} {b} p q) d = split (same n (head (type_of a)).name) refl d (lookup m _ n b ty q)
  where
    split : (x : Bool) → same n (head (type_of a)).name ≡ x → cond x (some (type_of a)) (get_type_info n (entries type_of b)) ≡ some ty
        → (get_type_info n (entries type_of b) ≡ some ty → Found n b ty) → Found n (Tree.cons a b) ty
    split true q d r = record { block = a; entry = Entry.here; type = cc; name = same_eq n (head (type_of a)).name q }
    split false q d r = let f = r d in record { block = f.block; entry = Entry.there f.entry; type = f.type; name = f.name }

-- each name of a set is found in it
pub type_found : (s : List ℕ) → ((i : ℕ) → get_or s i 0 < 256) → (t b : Tree) → read_set s ≡ done t → TypeOf b t → get_type_info (name_of b) (types_of t) ≡ some (type_of b)
unfolding types_of
type_found s small t b e i = entry_found _ [] (types_read s small t e).1 i

-- ---- two sets

-- growing keeps a type's name
name_kept : {t t' : ResolvedType} → TypeGrown t t' → (head t).name ≡ (head t').name
name_kept (TypeGrown.resolved h k) = refl

-- every name that the old set has, the new set has, grown
pub types_grown : (old new : List ℕ) → ((i : ℕ) → get_or old i 0 < 256) → ((i : ℕ) → get_or new i 0 < 256) → (t t' : Tree) → read_set old ≡ done t
    → read_set new ≡ done t' → Extends t t' → TypesGrown (types_of t) (types_of t')
unfolding types_of
types_grown old new small small' t t' e e' x n ty d =
    let r = types_read old small t e in
    let r' = types_read new small' t' e' in
    let f = lookup _ _ n _ ty r.1 d in
    let k = x.kept f.block f.entry in
    let h = type_grown 31 _ _ _ (entry_fits _ _ r.1 f.entry).1 k.2 in
    let q : n ≡ name_of k.0 = f.name ∙ name_kept h ∙ (named 31 _ _ (entry_fits _ _ r'.1 k.1).1).1 in
    record { type = type_of k.0; found = ap (λ (m : Name). get_type_info m (types_of t')) q ∙ entry_found _ [] r'.1 k.1; grown = rw f.type at h }
