-- The loops over a call's arguments and over a type's parameters.
use mathlib.Core.Path.{◌≡◌, refl, sym, ◌∙◌, ap, subst}
use mathlib.Core.Bool.{Bool, true, false}
use mathlib.Core.List.{List, ◌∷◌}
use mathlib.Core.Option.{Option as Maybe, some, none}
use Prim.Native.Nat.{ℕ, zero, suc, ◌+◌, ◌-◌, ◌≤◌, ◌<◌}
use native.Mathlib.Omega.{arith}
use lib.ListN.{length}
use Rattle.std.specs.Prelude.{Option, None, is_some}
use Rattle.std.specs.Borrow.{Bor}
use Rattle.blocks.specs.Bytes.{le2, le4}
use Rattle.blocks.specs.Name.{Name, same}
use Rattle.blocks.specs.Blocks.{NameIn, block_at, Stand}
use Rattle.blocks.specs.Blocks.{Passed as Passed_by}
use Rattle.blocks.specs.Grammar.{parts_of, node_table}
use Rattle.blocks.specs.Tree.{Tree, rest, body, part, entries}
use Rattle.blocks.proofs.Blocks.{behind_first}
use Rattle.ir.specs.Ir.{IrArgument, IrParameter}
use Rattle.ir.specs.Layout.{argument_of, parameter_of}
use Rattle.accepted.specs.Accepted.{Accepted, tree, Listed, name_at}
use Rattle.accepted.proofs.Laws.{opened, block_entry, none_left}
use Rattle.wire.specs.declared.Position.{Position}
use Rattle.wire.specs.Named.{BlockNamed}
use Rattle.interpreter_context.proofs.Laws.{Standing, none_less, one_less}
use Rattle.interpreter_context.proofs.Shape.{ListAt, list_at, located}
use Rattle.interpreter_context.proofs.Blocks.{IsArgument, argument, parameter, IsTree, type_tree}
use Rattle.interpreter_context.specs.Names.{chosen, last_argument, lists, named}
use Rattle.interpreter_context.specs.Context.{arguments_of, parameters_of}

-- where a block ends
pub ends : {s : List ℕ} {lo hi at : ℕ} → Accepted s lo hi at → (at + 6 ≤ length s) × (at + 4 + le4 s at ≤ length s)
ends a = let o = opened a refl refl in (omega (arith, o.long, o.high, a.fits), omega (arith, o.high, a.fits))

-- ---- one argument

-- every accepted argument, with its value name where the bytes have it
pub arg : {s : List ℕ} {at : ℕ} (a : Accepted s 164 164 at) → IsArgument a (at + 6 + 2 + le2 s (at + 6))
arg a = argument a refl

-- an argument of the name is chosen
chosen_true : (n : Name) (x : IrArgument) (o : Maybe Name) (at : ℕ) (m v : Name) → x ≡ record { at = at; name = m; value = v } →
    same n m ≡ true → chosen n x o ≡ some v
chosen_true n x o at m v e h = ap (λ (y : IrArgument). chosen n y o) e ∙ rw h

-- one of another name is not
chosen_false : (n : Name) (x : IrArgument) (o : Maybe Name) (m : Name) → x.name ≡ m → same n m ≡ false → chosen n x o ≡ o
chosen_false n x o m e h = rw (e, h)

module _ {s : List ℕ} {at : ℕ} (n : Name) {r : Bool} (er : r ≡ same n (name_at s (at + 6))) where
  -- the argument has the name: its value name is what was found last
  pub this_one : {q : ℕ} {v : Name} (o : Maybe Name) → r ≡ true → q ≡ at + 6 + 2 + le2 s (at + 6) → v ≡ name_at s q →
      (a : Accepted s 164 164 at) → some v ≡ chosen n (argument_of (tree a)) o
  this_one {q} o h eq ev a =
      ap some ev
      ∙ sym (chosen_true n (argument_of (tree a)) o at (name_at s (at + 6)) (name_at s q) (argument a eq).is (sym er ∙ h))

  -- it has another: what was found before stays
  pub not_this : (o : Maybe Name) → r ≡ false → (a : Accepted s 164 164 at) → o ≡ chosen n (argument_of (tree a)) o
  not_this o h a =
      sym (chosen_false n (argument_of (tree a)) o (name_at s (at + 6)) (ap (λ (x : IrArgument). x.name) (arg a).is) (sym er ∙ h))

-- ---- the arguments: of m from p on, i are passed, up to at, and f was found so far

-- Of every list that is accepted there: what is left of it, and that what was found so far decides with it.
pub record Passed (s : List ℕ) (n : Name) (m p i at : ℕ) (f : Option (Bor Name)) : Type 0 where
  pub on : (l : Listed s 164 164 m p) →
      (r : Listed s 164 164 (m - i) at)
      × (last_argument n (entries argument_of l.got.0) none ≡ last_argument n (entries argument_of r.got.0) (named f))

-- the same with k left
abbrev Left : {s : List ℕ} {m p : ℕ} → Name → ℕ → Option (Bor Name) → Listed s 164 164 m p → ℕ → Type 0
Left {s} n at f l k =
    (r : Listed s 164 164 k at)
    × (last_argument n (entries argument_of l.got.0) none ≡ last_argument n (entries argument_of r.got.0) (named f))

-- the loop begins with nothing found
pub begin : {s : List ℕ} {n : Name} {m p : ℕ} → Passed s n m p 0 p None
begin {n} {m} {p} = record { on = λ l. none_less (Left n p None l) m (l, refl) }

module _ {s : List ℕ} {n : Name} {m p i at : ℕ} {f : Option (Bor Name)} where
  -- the next argument
  pub next_one : i < m → Passed s n m p i at f → Listed s 164 164 m p → Accepted s 164 164 at
  next_one h c l = (block_entry (c.on l).0 (omega arith)).child

  -- it was looked at: the loop goes on behind it
  pub go_on : {u : ℕ} {g : Option (Bor Name)} → i < m →
      ((a : Accepted s 164 164 at) → named g ≡ chosen n (argument_of (tree a)) (named f)) → u ≡ le4 s at →
      Passed s n m p i at f → Passed s n m p (i + 1) (at + 4 + u) g
  unfolding last_argument entries
  go_on {g} h k e c = subst (λ (v : ℕ). Passed s n m p (i + 1) (at + 4 + v) g) (sym e) (record {
    on = λ l.
        let x = c.on l in
        let b = block_entry x.0 (omega arith) in
        one_less (Left n (at + 4 + le4 s at) g l) m i h (
          b.after.rest,
          x.1 ∙ ap (λ (t : Tree). last_argument n (entries argument_of t) (named f)) b.after.tree
              ∙ ap (last_argument n (entries argument_of b.after.rest.got.0)) (sym (k b.child)),
        );
  })

  -- none is left: what was found is the last of the name
  pub no_more : m ≤ i → Passed s n m p i at f → (l : Listed s 164 164 m p) → named f ≡ last_argument n (entries argument_of l.got.0) none
  unfolding last_argument entries
  no_more h c l =
      let x = c.on l in
      sym (x.1 ∙ ap (λ (z : Tree × ℕ). last_argument n (entries argument_of z.0) (named f)) (none_left x.0 (omega arith)))

-- the list of a call's arguments
pub arguments_at : {s : List ℕ} {at q : ℕ} → Standing s at 3 q → (a : Accepted s 128 144 at) → le2 s (at + 4) ≡ 133 → ListAt a 164 164 3 q
unfolding parts_of node_table
arguments_at st a k = list_at {limit = 512} (located 3 st a k refl)

-- a call node has a part 3
pub has_three : (k : ℕ) → k ≡ 133 → 3 ≤ length (parts_of k)
unfolding parts_of node_table
has_three k e = rw e (omega arith)

-- the same of the call itself
pub last_of : {s : List ℕ} {n : Name} {at q i here : ℕ} {f : Option (Bor Name)} → le2 s q ≤ i → Standing s at 3 q →
    le2 s (at + 4) ≡ 133 → Passed s n (le2 s q) (q + 2) i here f →
    (a : Accepted s 128 144 at) → named f ≡ last_argument n (arguments_of (tree a)) none
last_of {n} h st k c a =
    let l = arguments_at st a k in
    no_more h c l.list ∙ ap (λ (t : Tree). last_argument n (entries argument_of t) none) (sym l.is)

-- ---- the parameters

-- the names of an accepted list of parameters lie inside the bytes
parameters_stand : {s : List ℕ} {n at : ℕ} → Listed s 162 162 n at → Stand s at n
unfolding Stand block_at
parameters_stand l zero h = (parameter (block_entry l h).child).name
parameters_stand {s} {n} {at} l (suc j) h =
    subst (λ (o : ℕ). NameIn s (o + 6)) (sym (behind_first s at j))
    (parameters_stand {n = n - 1} (block_entry l (omega arith)).after.rest j (omega arith))

-- a parameter of another name is passed over
lists_false : (n : Name) (x : IrParameter) (xs : List IrParameter) (m : Name) → x.name ≡ m → same n m ≡ false → lists n (x ∷ xs) ≡ lists n xs
unfolding lists
lists_false n x xs m e h = rw (e, h)

-- one of the name decides
lists_true : (n : Name) (x : IrParameter) (xs : List IrParameter) (m : Name) → x.name ≡ m → same n m ≡ true → lists n (x ∷ xs) ≡ true
unfolding lists
lists_true n x xs m e h = rw (e, h)

module _ {s : List ℕ} {n : Name} where
  -- behind k parameters of another name, those that are left decide
  behind_others : {at k q : ℕ} → Passed_by s n at k q → (m left : ℕ) → m ≡ k + left → (l : Listed s 162 162 m at) →
      (r : Listed s 162 162 left q) × (lists n (entries parameter_of l.got.0) ≡ lists n (entries parameter_of r.got.0))
  unfolding entries
  behind_others {at} Passed_by.none m left e l =
      let z : m ≡ left = omega arith in
      subst (λ (c : ℕ). (r : Listed s 162 162 c at) × (lists n (entries parameter_of l.got.0) ≡ lists n (entries parameter_of r.got.0))) z
      (l, refl)
  behind_others {at} (Passed_by.one t p) m left e l =
      let b = block_entry l (omega arith) in
      let w = behind_others p (m - 1) left (omega arith) b.after.rest in (
        w.0,
        ap (λ (t : Tree). lists n (entries parameter_of t)) b.after.tree
            ∙ lists_false n (parameter_of (tree b.child)) (entries parameter_of b.after.rest.got.0) (name_at s (at + 6))
            (parameter b.child).is t ∙ w.1,
      )

  -- so the search for the name among them says whether they list it
  search_says : {at m : ℕ} {r : Option Position} → BlockNamed s n at m r → (l : Listed s 162 162 m at) →
      is_some r ≡ lists n (entries parameter_of l.got.0)
  unfolding entries lists
  search_says {m} (BlockNamed.at {i} {o} h p e) l =
      let w = behind_others p m (m - i) (omega arith) l in
      let b = block_entry w.0 (omega arith) in
      sym (w.1 ∙ ap (λ (t : Tree). lists n (entries parameter_of t)) b.after.tree
      ∙ lists_true n (parameter_of (tree b.child)) (entries parameter_of b.after.rest.got.0) (name_at s (o + 6)) (parameter b.child).is e)
  search_says {m} (BlockNamed.missing p) l =
      let w = behind_others p m 0 (omega arith) l in
      sym (w.1 ∙ ap (λ (z : Tree × ℕ). lists n (entries parameter_of z.0)) (none_left w.0 (omega arith)))

-- the root and the parameters of a type tree
pub tree_of : {s : List ℕ} {at u : ℕ} (a : Accepted s 161 161 at) → u ≡ le2 s (at + 6) → IsTree a (at + 16 + u)
tree_of {s} {at} {u} a e = let f : at + 16 + u ≡ at + 6 + 2 + le2 s (at + 6) + 8 = omega arith in type_tree a f

-- the list of a type tree's parameters begins at q
pub record ParametersAt {s : List ℕ} {at : ℕ} (a : Accepted s 161 161 at) (q : ℕ) : Type 0 where
  pub inside : q + 2 ≤ length s
  pub list : Listed s 162 162 (le2 s q) (q + 2)
  pub is : rest (part 3 (body (tree a))) ≡ list.got.0

-- it stands behind the root
pub parameters_at : {s : List ℕ} {at u v : ℕ} (a : Accepted s 161 161 at) → u ≡ le2 s (at + 6) → v ≡ le4 s (at + 16 + u) → ParametersAt a (at + 16 + u + 4 + v)
parameters_at {s} {at} {u} {v} a e f =
    let t = tree_of a e in
    subst (λ (v : ℕ). ParametersAt a (at + 16 + u + 4 + v)) (sym f) (record { inside = t.count; list = t.list; is = t.parameters })

-- in the code's form: u is the count that was read. The search may be made among a type tree's parameters
pub parameters_in : {s : List ℕ} {at q : ℕ} {a : Accepted s 161 161 at} (u : ℕ) → ParametersAt a q → u ≡ le2 s q → Stand s (q + 2) u
parameters_in {s} {q} u p e = subst (Stand s (q + 2)) (sym e) (parameters_stand p.list)

-- and says whether they list the name
pub listed_of : {s : List ℕ} {at q u : ℕ} {n : Name} {r : Option Position} (a : Accepted s 161 161 at) → ParametersAt a q → u ≡ le2 s q →
    BlockNamed s n (q + 2) u r →
    is_some r ≡ lists n (parameters_of (tree a))
listed_of {s} {q} {n} {r} a p e f =
    search_says (subst (λ (m : ℕ). BlockNamed s n (q + 2) m r) e f) p.list ∙ ap (λ (t : Tree). lists n (entries parameter_of t)) (sym p.is)
