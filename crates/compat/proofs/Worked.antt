-- A worked pair, so that the theorem is not empty: the enum Fare, whose switch goes by the value of `Fare.zone`, gets a
-- second variant. The checker computes that both sets build; one answer is kept, and one is the old layout's 22 for a tag
-- that has an added case.
use Prim.Native.Nat.{ℕ, zero, suc, ◌<◌}
use mathlib.Core.Path.{◌≡◌, refl}
use mathlib.Core.Bool.{Bool, true, ◌&&◌}
use mathlib.Core.List.{List, [], ◌∷◌}
use lib.Dec.{ltb, lit<}
use borrow.Author.Tests.{ltb-true}
use lib.ListN.{get_or}
use Rattle.errors.specs.Refusal.{Outcome, done, refused}
use Rattle.errors.proofs.Compute.{compute as errors}
use Rattle.blocks.specs.Name.{Name, ascii}
use Rattle.blocks.specs.Tree.{Tree, name, num, block, nil, cons}
use Rattle.blocks.specs.Read.{read_layout, name_of}
use Rattle.blocks.proofs.Name.{and_left, and_right}
use Rattle.blocks.proofs.Compute.{compute as blocks}
use Rattle.expr.proofs.Compute.{compute as expr}
use Rattle.resolved.proofs.Compute.{compute as resolved}
use Rattle.ir.specs.Ir.{TypeIr}
use Rattle.ir.specs.Layout.{layout_of}
use Rattle.ir.proofs.Compute.{compute as ir}
use Rattle.builder.proofs.Compute.{compute as builder}
use Rattle.interpreter.specs.Validate.{validate}
use Rattle.interpreter.proofs.Compute.{compute as interpreter}
use Rattle.compat.specs.Grown.{NoOwner, AllAdded, Grown, GrownLast, GrownEntries, Entry, TypeOf, Refers, Extends}
use Rattle.compat.specs.Statement.{Agree, Pair}
use Rattle.compat.proofs.OldAndNew.{parameters_follow, old_and_new}

-- the old set: an enum with one variant
abbrev pub old_zones : List ℕ
old_zones =
    130 ∷ 0 ∷ 0 ∷ 0 ∷ 36 ∷ 0 ∷ 1 ∷ 0 ∷ 122 ∷ 0 ∷ 0 ∷ 0 ∷ 4 ∷ 0 ∷ 4 ∷ 0 ∷ 70 ∷ 97 ∷ 114 ∷ 101 ∷ 1 ∷ 1 ∷ 0 ∷ 0 ∷ 0 ∷ 0 ∷
    0 ∷ 0 ∷ 0 ∷ 24 ∷ 0 ∷ 0 ∷ 0 ∷ 32 ∷ 0 ∷ 1 ∷ 0 ∷ 16 ∷ 0 ∷ 0 ∷ 0 ∷ 37 ∷ 0 ∷ 4 ∷ 0 ∷ 70 ∷ 97 ∷ 114 ∷ 101 ∷ 1 ∷ 0 ∷ 4 ∷
    0 ∷ 122 ∷ 111 ∷ 110 ∷ 101 ∷ 10 ∷ 0 ∷ 0 ∷ 0 ∷ 65 ∷ 0 ∷ 1 ∷ 0 ∷ 4 ∷ 0 ∷ 122 ∷ 111 ∷ 110 ∷ 101 ∷ 1 ∷ 0 ∷ 57 ∷ 0 ∷ 0 ∷
    0 ∷ 34 ∷ 0 ∷ 6 ∷ 0 ∷ 115 ∷ 105 ∷ 110 ∷ 103 ∷ 108 ∷ 101 ∷ 0 ∷ 0 ∷ 0 ∷ 0 ∷ 0 ∷ 0 ∷ 0 ∷ 0 ∷ 35 ∷ 0 ∷ 0 ∷ 0 ∷ 1 ∷ 0 ∷
    6 ∷ 0 ∷ 115 ∷ 105 ∷ 110 ∷ 103 ∷ 108 ∷ 101 ∷ 0 ∷ 4 ∷ 0 ∷ 0 ∷ 0 ∷ 0 ∷ 0 ∷ 0 ∷ 0 ∷ 1 ∷ 0 ∷ 0 ∷ 0 ∷ 0 ∷ 0 ∷ 0 ∷ 0 ∷
    4 ∷ 0 ∷ 0 ∷ 0 ∷ 32 ∷ 0 ∷ 0 ∷ 0 ∷ []

-- the new one: a variant behind it
abbrev pub new_zones : List ℕ
new_zones =
    185 ∷ 0 ∷ 0 ∷ 0 ∷ 36 ∷ 0 ∷ 1 ∷ 0 ∷ 177 ∷ 0 ∷ 0 ∷ 0 ∷ 4 ∷ 0 ∷ 4 ∷ 0 ∷ 70 ∷ 97 ∷ 114 ∷ 101 ∷ 1 ∷ 1 ∷ 0 ∷ 0 ∷ 0 ∷ 0 ∷
    0 ∷ 0 ∷ 0 ∷ 24 ∷ 0 ∷ 0 ∷ 0 ∷ 32 ∷ 0 ∷ 1 ∷ 0 ∷ 16 ∷ 0 ∷ 0 ∷ 0 ∷ 37 ∷ 0 ∷ 4 ∷ 0 ∷ 70 ∷ 97 ∷ 114 ∷ 101 ∷ 1 ∷ 0 ∷ 4 ∷
    0 ∷ 122 ∷ 111 ∷ 110 ∷ 101 ∷ 10 ∷ 0 ∷ 0 ∷ 0 ∷ 65 ∷ 0 ∷ 1 ∷ 0 ∷ 4 ∷ 0 ∷ 122 ∷ 111 ∷ 110 ∷ 101 ∷ 2 ∷ 0 ∷ 57 ∷ 0 ∷ 0 ∷
    0 ∷ 34 ∷ 0 ∷ 6 ∷ 0 ∷ 115 ∷ 105 ∷ 110 ∷ 103 ∷ 108 ∷ 101 ∷ 0 ∷ 0 ∷ 0 ∷ 0 ∷ 0 ∷ 0 ∷ 0 ∷ 0 ∷ 35 ∷ 0 ∷ 0 ∷ 0 ∷ 1 ∷ 0 ∷
    6 ∷ 0 ∷ 115 ∷ 105 ∷ 110 ∷ 103 ∷ 108 ∷ 101 ∷ 0 ∷ 4 ∷ 0 ∷ 0 ∷ 0 ∷ 0 ∷ 0 ∷ 0 ∷ 0 ∷ 1 ∷ 0 ∷ 0 ∷ 0 ∷ 0 ∷ 0 ∷ 0 ∷ 0 ∷
    4 ∷ 0 ∷ 0 ∷ 0 ∷ 32 ∷ 0 ∷ 0 ∷ 0 ∷ 51 ∷ 0 ∷ 0 ∷ 0 ∷ 34 ∷ 0 ∷ 3 ∷ 0 ∷ 100 ∷ 97 ∷ 121 ∷ 1 ∷ 0 ∷ 0 ∷ 0 ∷ 0 ∷ 0 ∷ 0 ∷
    0 ∷ 32 ∷ 0 ∷ 0 ∷ 0 ∷ 1 ∷ 0 ∷ 3 ∷ 0 ∷ 100 ∷ 97 ∷ 121 ∷ 0 ∷ 8 ∷ 0 ∷ 0 ∷ 0 ∷ 0 ∷ 0 ∷ 0 ∷ 0 ∷ 1 ∷ 0 ∷ 0 ∷ 0 ∷ 0 ∷ 0 ∷
    0 ∷ 0 ∷ 4 ∷ 0 ∷ 0 ∷ 0 ∷ 32 ∷ 0 ∷ 0 ∷ 0 ∷ []

-- the layout of the old set
abbrev pub old_zones_layout : List ℕ
old_zones_layout =
    136 ∷ 0 ∷ 0 ∷ 0 ∷ 160 ∷ 0 ∷ 1 ∷ 0 ∷ 128 ∷ 0 ∷ 0 ∷ 0 ∷ 161 ∷ 0 ∷ 4 ∷ 0 ∷ 70 ∷ 97 ∷ 114 ∷ 101 ∷ 1 ∷ 0 ∷ 0 ∷ 0 ∷ 0 ∷
    0 ∷ 0 ∷ 0 ∷ 87 ∷ 0 ∷ 0 ∷ 0 ∷ 132 ∷ 0 ∷ 1 ∷ 0 ∷ 0 ∷ 0 ∷ 0 ∷ 0 ∷ 0 ∷ 0 ∷ 0 ∷ 9 ∷ 0 ∷ 70 ∷ 97 ∷ 114 ∷ 101 ∷ 46 ∷
    122 ∷ 111 ∷ 110 ∷ 101 ∷ 1 ∷ 0 ∷ 58 ∷ 0 ∷ 0 ∷ 0 ∷ 163 ∷ 0 ∷ 0 ∷ 0 ∷ 0 ∷ 0 ∷ 0 ∷ 0 ∷ 0 ∷ 0 ∷ 42 ∷ 0 ∷ 0 ∷ 0 ∷ 131 ∷
    0 ∷ 1 ∷ 0 ∷ 0 ∷ 0 ∷ 0 ∷ 0 ∷ 0 ∷ 0 ∷ 0 ∷ 1 ∷ 0 ∷ 0 ∷ 0 ∷ 0 ∷ 0 ∷ 0 ∷ 0 ∷ 19 ∷ 0 ∷ 0 ∷ 0 ∷ 129 ∷ 0 ∷ 1 ∷ 0 ∷ 0 ∷ 0 ∷
    0 ∷ 0 ∷ 0 ∷ 0 ∷ 0 ∷ 4 ∷ 0 ∷ 0 ∷ 0 ∷ 0 ∷ 0 ∷ 0 ∷ 0 ∷ 0 ∷ 0 ∷ 0 ∷ 1 ∷ 0 ∷ 15 ∷ 0 ∷ 0 ∷ 0 ∷ 162 ∷ 0 ∷ 9 ∷ 0 ∷ 70 ∷
    97 ∷ 114 ∷ 101 ∷ 46 ∷ 122 ∷ 111 ∷ 110 ∷ 101 ∷ 0 ∷ 0 ∷ []

-- the layout of the new one
abbrev pub new_zones_layout : List ℕ
new_zones_layout =
    198 ∷ 0 ∷ 0 ∷ 0 ∷ 160 ∷ 0 ∷ 1 ∷ 0 ∷ 190 ∷ 0 ∷ 0 ∷ 0 ∷ 161 ∷ 0 ∷ 4 ∷ 0 ∷ 70 ∷ 97 ∷ 114 ∷ 101 ∷ 1 ∷ 0 ∷ 0 ∷ 0 ∷ 0 ∷
    0 ∷ 0 ∷ 0 ∷ 149 ∷ 0 ∷ 0 ∷ 0 ∷ 132 ∷ 0 ∷ 1 ∷ 0 ∷ 0 ∷ 0 ∷ 0 ∷ 0 ∷ 0 ∷ 0 ∷ 0 ∷ 9 ∷ 0 ∷ 70 ∷ 97 ∷ 114 ∷ 101 ∷ 46 ∷
    122 ∷ 111 ∷ 110 ∷ 101 ∷ 2 ∷ 0 ∷ 58 ∷ 0 ∷ 0 ∷ 0 ∷ 163 ∷ 0 ∷ 0 ∷ 0 ∷ 0 ∷ 0 ∷ 0 ∷ 0 ∷ 0 ∷ 0 ∷ 42 ∷ 0 ∷ 0 ∷ 0 ∷ 131 ∷
    0 ∷ 1 ∷ 0 ∷ 0 ∷ 0 ∷ 0 ∷ 0 ∷ 0 ∷ 0 ∷ 0 ∷ 1 ∷ 0 ∷ 0 ∷ 0 ∷ 0 ∷ 0 ∷ 0 ∷ 0 ∷ 19 ∷ 0 ∷ 0 ∷ 0 ∷ 129 ∷ 0 ∷ 1 ∷ 0 ∷ 0 ∷ 0 ∷
    0 ∷ 0 ∷ 0 ∷ 0 ∷ 0 ∷ 4 ∷ 0 ∷ 0 ∷ 0 ∷ 0 ∷ 0 ∷ 0 ∷ 0 ∷ 0 ∷ 0 ∷ 58 ∷ 0 ∷ 0 ∷ 0 ∷ 163 ∷ 0 ∷ 1 ∷ 0 ∷ 0 ∷ 0 ∷ 0 ∷ 0 ∷ 0 ∷
    0 ∷ 42 ∷ 0 ∷ 0 ∷ 0 ∷ 131 ∷ 0 ∷ 1 ∷ 0 ∷ 0 ∷ 0 ∷ 0 ∷ 0 ∷ 0 ∷ 0 ∷ 0 ∷ 1 ∷ 0 ∷ 0 ∷ 0 ∷ 0 ∷ 0 ∷ 0 ∷ 0 ∷ 19 ∷ 0 ∷ 0 ∷
    0 ∷ 129 ∷ 0 ∷ 1 ∷ 0 ∷ 0 ∷ 0 ∷ 0 ∷ 0 ∷ 0 ∷ 0 ∷ 0 ∷ 8 ∷ 0 ∷ 0 ∷ 0 ∷ 0 ∷ 0 ∷ 0 ∷ 0 ∷ 0 ∷ 0 ∷ 0 ∷ 1 ∷ 0 ∷ 15 ∷ 0 ∷ 0 ∷
    0 ∷ 162 ∷ 0 ∷ 9 ∷ 0 ∷ 70 ∷ 97 ∷ 114 ∷ 101 ∷ 46 ∷ 122 ∷ 111 ∷ 110 ∷ 101 ∷ 0 ∷ 0 ∷ []

-- the values of Fare.zone: 0, 1
abbrev pub zone_0 : List ℕ
zone_0 =
    23 ∷ 0 ∷ 0 ∷ 0 ∷ 192 ∷ 0 ∷ 1 ∷ 0 ∷ 9 ∷ 0 ∷ 70 ∷ 97 ∷ 114 ∷ 101 ∷ 46 ∷ 122 ∷ 111 ∷ 110 ∷ 101 ∷ 0 ∷ 0 ∷ 0 ∷ 0 ∷ 0 ∷
    0 ∷ 0 ∷ 0 ∷ []

-- and where the zone is 1
abbrev pub zone_1 : List ℕ
zone_1 =
    23 ∷ 0 ∷ 0 ∷ 0 ∷ 192 ∷ 0 ∷ 1 ∷ 0 ∷ 9 ∷ 0 ∷ 70 ∷ 97 ∷ 114 ∷ 101 ∷ 46 ∷ 122 ∷ 111 ∷ 110 ∷ 101 ∷ 1 ∷ 0 ∷ 0 ∷ 0 ∷ 0 ∷
    0 ∷ 0 ∷ 0 ∷ []

-- ---- their trees

-- the first variant
abbrev single : Tree
single =
    (block 73 34 (cons (name (ascii "single")) (cons (num 8 0) (cons (block 95 1 (cons (name (ascii "single")) (cons (cons (num 1 0) (num 8 4)) (cons (num 8 1) (cons (block 126 32 (cons (cons (num 2 0) nil) nil)) nil))))) nil))))

-- the added one
abbrev day : Tree
day =
    (block 134 34 (cons (name (ascii "day")) (cons (num 8 1) (cons (block 153 1 (cons (name (ascii "day")) (cons (cons (num 1 0) (num 8 8)) (cons (num 8 1) (cons (block 181 32 (cons (cons (num 2 0) nil) nil)) nil))))) nil))))

-- the enum's references
abbrev references : Tree
references = (block 29 32 (cons (cons (num 2 1) (cons (block 37 37 (cons (name (ascii "Fare")) (cons (cons (num 2 1) (cons (name (ascii "zone")) nil)) nil))) nil)) nil))

-- the enum's tag expression
abbrev tag : Tree
tag = (block 57 65 (cons (cons (num 2 1) (cons (name (ascii "zone")) nil)) nil))

-- the enum, with n variants
abbrev fare : ℕ → Tree → Tree
fare n variants = block 8 4 (cons (name (ascii "Fare")) (cons (cons (num 1 1) nil) (cons (num 8 1) (cons references (cons tag (cons (cons (num 2 n) variants) nil))))))

-- a set of one type
abbrev set : Tree → Tree
set type = block 0 36 (cons (cons (num 2 1) (cons type nil)) nil)

-- the enum in the old set
abbrev old_fare : Tree
old_fare = fare 1 (cons single nil)

-- the enum in the new one
abbrev new_fare : Tree
new_fare = fare 2 (cons single (cons day nil))

-- the tree of an answer
abbrev tree_in : Outcome Tree → Tree
tree_in (done t) = t
tree_in (refused r) = nil

-- every element of a list is a byte
abbrev all_below : List ℕ → Bool
all_below [] = true
all_below (x ∷ xs) = ltb x 256 && all_below xs

-- a list that passes the test has bytes only
below : (s : List ℕ) → all_below s ≡ true → (i : ℕ) → get_or s i 0 < 256
below [] e i = lit< tt
below (x ∷ xs) e zero = ltb-true x 256 (and_left _ _ e)
below (x ∷ xs) e (suc i) = below xs (and_right (ltb x 256) _ e) i

-- the two sets, built and read by computation
pub pair : Pair
unfolding errors blocks expr resolved ir builder interpreter
pair = record {
  old_set = old_zones;
  new_set = new_zones;
  old_bytes = below old_zones refl;
  new_bytes = below new_zones refl;
  old_words = 8192;
  new_words = 8192;
  old_output = 65536;
  new_output = 65536;
  old_layout = old_zones_layout;
  new_layout = new_zones_layout;
  old_built = refl;
  new_built = refl;
  old_tree = set old_fare;
  new_tree = set new_fare;
  old_read = refl;
  new_read = refl;
  old_layout_tree = tree_in (read_layout old_zones_layout);
  new_layout_tree = tree_in (read_layout new_zones_layout);
  old_layout_read = refl;
  new_layout_read = refl;
}

-- ---- the hypothesis

-- every tree has grown to itself
grown : (t : Tree) → Grown t t
grown (name n) = Grown.name n
grown (num w v) = Grown.num w v
grown (block at k t) = Grown.block at at k (grown t)
grown nil = Grown.nil
grown (cons a b) = Grown.cons (grown a) (grown b)

-- the added variant is of constant size and has no owner
day_added : AllAdded (cons day nil)
unfolding NoOwner blocks
day_added = AllAdded.more {b = day} (record { constant = refl; ownerless = (refl, (tt, ((tt, tt), (tt, ((refl, ((tt, tt), tt)), tt))))) }) AllAdded.none

-- the enum has grown by it
fare_grown : Grown old_fare new_fare
unfolding blocks
fare_grown =
    Grown.grows 8 8 4 refl refl
    (GrownLast.before (grown _) (GrownLast.before (grown _) (GrownLast.before (grown _) (GrownLast.before (grown _) (GrownLast.before (grown _)
    (GrownLast.last 1 2 (GrownEntries.entry (grown _) (GrownEntries.behind day_added))))))))

-- the only type of the new set has an old one's name
pub extends : Extends (set old_fare) (set new_fare)
unfolding blocks
extends = record { kept = kept; apart = apart }
  where
    kept : (b : Tree) → TypeOf b (set old_fare) → (b' : Tree) × TypeOf b' (set new_fare) × Grown b b'
    kept b Entry.here = (new_fare, Entry.here, fare_grown)
    kept b (Rattle.compat.specs.Grown.there x3) = elim x3 [ ]

    apart : (b' : Tree) → TypeOf b' (set new_fare) → ((b : Tree) → TypeOf b (set old_fare) → name_of b ≡ name_of b' → ⊥) → Refers (name_of b') (set old_fare) → ⊥
    apart b' Entry.here h r = h old_fare Entry.here refl
    apart b' (Rattle.compat.specs.Grown.there x5) h r = elim x5 [ ]

-- ---- the answers

-- what the theorem says of it
pub agrees : (values : List ℕ) (len words : ℕ) →
    Agree (layout_of pair.old_layout_tree) (layout_of pair.new_layout_tree) (validate words old_zones_layout (ascii "Fare") values len) (validate words new_zones_layout (ascii "Fare") values len)
unfolding pair blocks
agrees = old_and_new pair extends (parameters_follow pair extends) old_fare Entry.here

-- an answer that is kept
pub kept_0 : (validate 8192 old_zones_layout (ascii "Fare") zone_0 100 ≡ done 4) × (validate 8192 new_zones_layout (ascii "Fare") zone_0 100 ≡ done 4)
unfolding errors blocks expr resolved ir builder interpreter
kept_0 = (refl, refl)

-- an old 22, at the switch, for the tag of the added case
pub added_1 : (validate 8192 old_zones_layout (ascii "Fare") zone_1 100 ≡ refused (record { number = 22; place = 0; offset = 28; value = 1 })) × (validate 8192 new_zones_layout (ascii "Fare") zone_1 100 ≡ done 8)
unfolding errors blocks expr resolved ir builder interpreter
added_1 = (refl, refl)

-- What the theorem is not: a validator that ignores the values would agree too, whatever it counts for a type. So it is put
-- over `validate`, which is pinned down by its own definition.
pub ignoring : (old new : List TypeIr) (counted : Name → ℕ) (n : Name) → Agree old new (done (counted n)) (done (counted n))
ignoring old new counted n = Agree.count (counted n)
