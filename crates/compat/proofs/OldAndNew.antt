-- "Old and new layout": the theorem. Grown sets build to extended layouts, which stay extended when they are read, and
-- extended layouts agree.
use Prim.Native.Nat.{ℕ, ◌≤◌}
use mathlib.Core.Path.{◌≡◌, refl, sym, ◌∙◌, ap}
use mathlib.Core.Bool.{Bool, true, false}
use mathlib.Core.List.{List}
use lib.Dec.{leb}
use lib.ListN.{length}
use borrow.Author.Tests.{leb-true, le-leb}
use Rattle.errors.specs.Refusal.{Outcome, done, Refusal, ◌>>=◌, ask, enough, answered, nowhere}
use Rattle.errors.proofs.Laws.{done_one, asked, asked_yes, bound, bound_done}
use Rattle.blocks.specs.Name.{Name}
use Rattle.blocks.specs.Tree.{Tree}
use Rattle.blocks.specs.Read.{small, read_set, read_layout, name_of}
use Rattle.blocks.specs.Write.{write}
use Rattle.blocks.proofs.Name.{and_left, and_right}
use Rattle.resolved.specs.Set.{types_of}
use Rattle.ir.specs.Ir.{TypeIr}
use Rattle.ir.specs.Layout.{layout_tree, layout_of}
use Rattle.builder.specs.Build.{build_types, write_layout, build_set, holds}
use Rattle.interpreter.specs.Eval.{ParamMap}
use Rattle.interpreter.specs.Validate.{validate, validate_type, values_of}
use Rattle.compat.specs.Nodes.{Found, LayoutExtended}
use Rattle.compat.specs.Grown.{Extends, TypeOf}
use Rattle.compat.specs.Statement.{SamePlace, SameParameters, Agree, Pair, OldAndNew}
use Rattle.compat.proofs.Set.{types_grown, type_found}
use Rattle.compat.proofs.Built.{built, known}
use Rattle.compat.proofs.Reread.{layout_read}
use Rattle.compat.proofs.Extends.{reread, found_read}
use Rattle.compat.proofs.Evaluated.{evaluated}
use Rattle.blocks.proofs.Refusals.{Unread, input_unread}

-- what a built set says: the type trees that were written
pub record Built (tree : Tree) (layout : List ℕ) : Type 0 where
  pub types : List TypeIr
  pub built : build_types (types_of tree) 0 (types_of tree) ≡ done types
  pub written : write (layout_tree types) ≡ layout
  pub short : length layout ≤ 65536

-- said of the same tree under another name
moved : (t u : Tree) (o : Outcome (List TypeIr)) → t ≡ u → build_types (types_of t) 0 (types_of t) ≡ o → build_types (types_of u) 0 (types_of u) ≡ o
moved t u o e h = rw e at h

-- a set that builds: its type trees, written, are the layout, of at most 65,536 bytes
built_set : (words out : ℕ) (set layout : List ℕ) (tree : Tree) → read_set set ≡ done tree → build_set words out set ≡ done layout → Built tree layout
unfolding build_set enough small write_layout
built_set words out set layout tree read e =
    let a = asked (leb 8192 words) _ _ _ e in
    let b = asked (leb (length set) 65536) _ _ _ a.1 in
    let t = bound (read_set set) _ _ b.1 in
    let x = bound (build_types (types_of t.0) 0 (types_of t.0)) _ _ t.2 in
    let w = asked (holds out (write (layout_tree x.0))) _ _ _ x.2 in
    let q : write (layout_tree x.0) ≡ layout = done_one w.1 in
    let fits : leb (length (write (layout_tree x.0))) 65536 ≡ true =
    and_right (leb (length (write (layout_tree x.0))) out) _ (and_left _ (answered (read_layout (write (layout_tree x.0)))) w.0) in
    let l : length (write (layout_tree x.0)) ≤ 65536 = leb-true _ _ fits in
    record {
      types = x.0;
      built = moved _ _ _ (done_one (sym t.1 ∙ read)) x.1;
      written = q;
      short = rw q at l;
    }

-- the same answer of reading on both sides
same_values : (old new : List TypeIr) (f g : Tree → Outcome ℕ) {o : Outcome Tree} → Unread o
    → ((t : Tree) → Agree old new (f t) (g t)) → Agree old new (o >>= f) (o >>= g)
unfolding ◌>>=◌
same_values old new f g (Unread.given t) h = h t
same_values old new f g (Unread.at_offset q o) h = Agree.refusal _ _ refl refl SamePlace.none

-- the same question on both sides, whose refusal has no place
same_asked : (old new : List TypeIr) (f g : Unit → Outcome ℕ) (b : Bool) (r : Refusal) → r.place ≡ nowhere
    → Agree old new (f tt) (g tt) → Agree old new (ask b r >>= f) (ask b r >>= g)
unfolding ◌>>=◌ ask
same_asked old new f g true r e h = h
same_asked old new f g false r e h = Agree.refusal r r refl refl (rw e SamePlace.none)

-- two layouts that are read, with answers on their type trees that agree
validated : (old new : List ℕ) (l l' : Tree) → length old ≤ 65536 → length new ≤ 65536 → read_layout old ≡ done l → read_layout new ≡ done l'
    → (n : Name) (values : List ℕ) (len words : ℕ)
    → ((γ : ParamMap) → Agree (layout_of l) (layout_of l') (validate_type (layout_of l) n len γ) (validate_type (layout_of l') n len γ))
    → Agree (layout_of l) (layout_of l') (validate words old n values len) (validate words new n values len)
unfolding validate enough small
validated old new l l' s s' e e' n values len words h =
    same_asked _ _ _ _ (leb 8192 words) _ refl
    (rw (asked_yes _ _ (le-leb (length old) 65536 s), asked_yes _ _ (le-leb (length new) 65536 s'))
    (same_asked _ _ _ _ (leb (length values) 65536) _ refl
    (rw (bound_done _ e, bound_done _ e')
    (same_values _ _ _ _ (input_unread 2 192 values) (λ v. h (values_of v))))))

-- ---- the parts put together

module _ (p : Pair) (extends : Extends p.old_tree p.new_tree) where
  -- what was built
  old : Built p.old_tree p.old_layout
  old = built_set _ _ _ _ _ p.old_read p.old_built

  -- the new set's
  new : Built p.new_tree p.new_layout
  new = built_set _ _ _ _ _ p.new_read p.new_built

  -- the old layout is read from what was written
  old_layout_read_written : read_layout (write (layout_tree old.types)) ≡ done p.old_layout_tree
  old_layout_read_written = rw old.written p.old_layout_read

  -- the new layout is
  new_layout_read_written : read_layout (write (layout_tree new.types)) ≡ done p.new_layout_tree
  new_layout_read_written = rw new.written p.new_layout_read

  -- the layouts as they are read
  pub layouts_extended : LayoutExtended (layout_of p.old_layout_tree) (layout_of p.new_layout_tree)
  layouts_extended =
      reread _ _ (built _ _ (types_grown _ _ p.old_bytes p.new_bytes _ _ p.old_read p.new_read extends) _ _ old.built new.built)
      (rw old.written old.short) (rw new.written new.short) _ _ old_layout_read_written new_layout_read_written

  -- a type of the old set is in the old layout
  in_old : (b : Tree) → TypeOf b p.old_tree → Found (layout_of p.old_layout_tree) (name_of b)
  in_old b m =
      found_read (layout_read old.types _ (rw old.written old.short) old_layout_read_written) _
      (known _ _ old.built _ _ (type_found _ p.old_bytes _ b p.old_read m))

  -- The hypothesis on parameters follows from the others.
  pub parameters_follow : SameParameters (layout_of p.old_layout_tree) (layout_of p.new_layout_tree)
  parameters_follow n i j t t' e f =
      let x = layouts_extended n i t e in
      let q : ◌≡◌ {A = ℕ × TypeIr} (x.place, x.type) (j, t') = done_one (sym x.found ∙ f) in
      x.parameters ∙ ap (λ (z : ℕ × TypeIr). z.1.parameters) q

  -- and is not used here
  pub agree : (b : Tree) → TypeOf b p.old_tree → (values : List ℕ) (len words : ℕ)
      → Agree (layout_of p.old_layout_tree) (layout_of p.new_layout_tree)
      (validate words p.old_layout (name_of b) values len) (validate words p.new_layout (name_of b) values len)
  agree b m values len words =
      validated _ _ _ _ old.short new.short p.old_layout_read p.new_layout_read (name_of b) values len words
      (λ γ. evaluated _ _ layouts_extended (name_of b) (in_old b m) len γ)

-- Old and new layouts agree.
pub old_and_new : OldAndNew
old_and_new p extends same b m values len words = agree p extends b m values len words
