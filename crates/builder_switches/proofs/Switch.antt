-- The switch over alternatives, and the three types that it stands for.
use mathlib.Core.Path.{◌≡◌, refl, ap, ◌∙◌}
use mathlib.Core.Bool.{true, false}
use mathlib.Core.List.{List, ◌++◌}
use Prim.Native.Nat.{ℕ, ◌+◌, ◌-◌, ◌≤◌}
use native.Mathlib.Omega.{arith}
use lib.ListN.{length, get_or}
use Rattle.std.specs.Prelude.{Result, Ok, Err}
use Rattle.errors.specs.Refusal.{Outcome, UnsupportedSize}
use Rattle.errors.specs.declared.Reason.{Reason}
use Rattle.errors.specs.declared.Reason.TheVariants as reason
use Rattle.answers.specs.Answers.{AnswersIn}
use Rattle.answers.proofs.Laws.{refuses}
use Rattle.blocks.specs.Bytes.{bytes, le2, name_at}
use Rattle.blocks.specs.Name.{Name}
use Rattle.blocks.specs.Tree.{Tree, name, num, block, nil, cons, view}
use Rattle.blocks.specs.Write.{write}
use Rattle.accepted.specs.Accepted.{Accepted, tree, Listed}
use Rattle.accepted.proofs.Laws.{opened, none_left, block_entry}
use Rattle.expr.specs.Expr.{ExprKind, expr_of}
use Rattle.resolved.specs.Resolved.{Fields, Variants, Head, ResolvedTypeKind, head, kind_of}
use Rattle.resolved.specs.Set.{form_of, make_thing, thing_of, variants_in, type_of}
use Rattle.ir.specs.Ir.{IrNode, SwitchCases, DefaultNode, aligned, unplaced}
use Rattle.ir.specs.Layout.{node_tree, cases_tree, case_count, default_tree}
use Rattle.ir_nodes.specs.Codes.{code_at}
use Rattle.builder.specs.Registry.{Registry, Build, ◌>>=◌, give, extend_with, add_synthetic}
use Rattle.builder.specs.Nodes.{Alternative, not_empty, enum_tag_parameter}
use Rattle.builder.specs.Nodes.{build_cases, build_switch, build_enum_node, build_union_node, build_size_discriminated_union_node}
use Rattle.builder.proofs.Steps.{require_yes, require_no}
use Rattle.wire.specs.Poke.{Wrote}
use Rattle.wire.proofs.Laws.{parts, no_parts}
use Rattle.resolved_parts.specs.declared.TypeHead.{TypeHead}
use Rattle.resolved_parts.specs.declared.EnumParts.{EnumParts}
use Rattle.resolved_parts.specs.declared.ListParts.{ListParts}
use Rattle.resolved_parts.specs.Types.{HeadAt, EnumAt, FieldsAt, SizedAt, owners_of}
use Rattle.builder_registry.specs.declared.Tagged.{Tagged}
use Rattle.builder_registry.specs.declared.Made.{Made}
use Rattle.builder_registry.specs.declared.Made.TheVariants.{Variant, PayloadSize}
use Rattle.builder_registry.specs.Texts.{made_path}
use Rattle.builder_registry.specs.Words.{Standing, Kept, Tags, held, made_parameter, entries_of, entry_name}
use Rattle.builder_registry.proofs.Laws.{held_name, standing, kept_index, tags_done, tags_index}
use Rattle.builder_nodes.specs.declared.Built.{Built}
use Rattle.builder_nodes.specs.Built.{Builds, node_start, text_flag, count_part, no_node}
use Rattle.builder_nodes.proofs.Laws.{node_closed, step_passes, step_goes}
use Rattle.builder_nodes.proofs.Parts.{switch_tag, switch_count, switch_default}
use Rattle.builder_switches.specs.declared.Kind.{Kind}
use Rattle.builder_switches.specs.declared.Kind.TheVariants.{Union, Enum, Sized}
use Rattle.builder_switches.specs.Cases.{block_of, alternatives, Cases, Switching}
use Rattle.builder_switches.specs.Ready.{Ready}

-- ---- the switch

-- the bytes of a switch, its parts as the table of the node kinds has them
switch_write : {xs x₁ x₂ x₃ x₄ x₅ ys : List ℕ} {at b c d r u j : ℕ} (a : ℕ) (tag : Name) (count : ℕ) (cs : SwitchCases) →
    case_count cs ≡ count → Wrote xs at (node_start 132 a) x₁ b → Wrote x₁ b (text_flag true (code_at 132 2) ++ write (name tag)) x₂ c →
    Wrote x₂ c (count_part (code_at 132 3) count) x₃ d → Wrote x₃ d (write (cases_tree cs)) x₄ r →
    Wrote x₄ r (no_node (code_at 132 4)) x₅ u →
    Wrote x₅ at (bytes 4 (u - at - 4)) ys j →
    Wrote xs at (write (node_tree (IrNode.Switch unplaced (aligned a) tag cs DefaultNode.no_default))) ys u
unfolding node_tree default_tree
switch_write {x₅} {u} a tag count cs e w₁ w₂ w₃ w₄ w₅ w₆ =
    let none : Tree = cons (cons (num 1 0) nil) nil in
    let cases : Tree = cons (num 2 (case_count cs)) (cases_tree cs) in
    node_closed 132 a (cons (name tag) (cons cases none)) w₁
    (parts (name tag) (cons cases none) (switch_tag tag w₂)
    (parts cases none (parts (num 2 (case_count cs)) (cases_tree cs) (rw e (switch_count count w₃)) w₄)
    (parts (cons (num 1 0) nil) nil (parts (num 1 0) nil (switch_default w₅) (no_parts x₅ u)) (no_parts x₅ u)))) w₆

-- the switch that the definition builds of the type at a, over the alternatives of the list l
abbrev switched : {s : List ℕ} {kind count first : ℕ} (k : Kind) (ws : List ℕ) → Tagged → Accepted s 1 7 kind →
    Listed s (block_of k) (block_of k) count first →
    Outcome (IrNode × Registry)
switched {s} k ws t a l =
    build_switch (head (type_of (tree a))) (entry_name s (get_or ws t.at 0)) (alternatives k 0 l.got.0) (entries_of s ws t.count)

-- the cases under the references of the type itself
cases_of : {s ws x₃ x₄ : List ℕ} {d kind count first : ℕ} {h : TypeHead} {r : Result Built Reason} (k : Kind) (g : Registry) →
    ((a : Accepted s 1 7 kind) → HeadAt a h) →
    ((l : Listed s (block_of k) (block_of k) count first) (a : Accepted s 32 32 h.references) →
    Cases s x₃ d ws x₄ count r (build_cases (owners_of (tree a)) (alternatives k 0 l.got.0) g)) →
    (a : Accepted s 1 7 kind) (l : Listed s (block_of k) (block_of k) count first) →
    Cases s x₃ d ws x₄ count r (build_cases (head (type_of (tree a))).dynamic_params (alternatives k 0 l.got.0) g)
cases_of k g hd cs a l = rw (hd a).owners (cs l (hd a).references)

module _ {s xs ws : List ℕ} {at kind first count : ℕ} (k : Kind) (t : Tagged) {h : TypeHead}
    (hd : (a : Accepted s 1 7 kind) → HeadAt a h) where
  -- a case was refused
  pub switch_stops : {x₃ x₄ ys : List ℕ} {d : ℕ} {e : Reason} →
      ((l : Listed s (block_of k) (block_of k) count first) (a : Accepted s 32 32 h.references) →
      Cases s x₃ d ws x₄ count (Err e) (build_cases (owners_of (tree a)) (alternatives k 0 l.got.0) (entries_of s ws t.count))) →
      (a : Accepted s 1 7 kind) (l : Listed s (block_of k) (block_of k) count first) → Builds s xs at ws ys (Err e) (switched k ws t a l)
  unfolding build_switch
  switch_stops cs a l =
      step_passes (build_cases (head (type_of (tree a))).dynamic_params (alternatives k 0 l.got.0)) _ _ (cases_of k _ hd cs a l)

  -- the switch was written
  pub switch_done : {x₁ x₂ x₃ x₄ x₅ ys : List ℕ} {b c d u j : ℕ} {r : Built} → Wrote xs at (node_start 132 h.alignment) x₁ b →
      Wrote x₁ b (text_flag true (code_at 132 2) ++ write (name (entry_name s (get_or ws t.at 0)))) x₂ c →
      Wrote x₂ c (count_part (code_at 132 3) count) x₃ d →
      ((l : Listed s (block_of k) (block_of k) count first) (a : Accepted s 32 32 h.references) →
      Cases s x₃ d ws x₄ count (Ok r) (build_cases (owners_of (tree a)) (alternatives k 0 l.got.0) (entries_of s ws t.count))) →
      Wrote x₄ r.at (no_node (code_at 132 4)) x₅ u → Wrote x₅ at (bytes 4 (u - at - 4)) ys j →
      (a : Accepted s 1 7 kind) (l : Listed s (block_of k) (block_of k) count first) →
      Builds s xs at ws ys (Ok (record { at = u; count = r.count })) (switched k ws t a l)
  unfolding build_switch give
  switch_done w₁ w₂ w₃ cs w₄ w₅ a l =
      step_goes (build_cases (head (type_of (tree a))).dynamic_params (alternatives k 0 l.got.0)) _ _ (cases_of k _ hd cs a l)
      (λ v f.
      let tag = entry_name s (get_or ws t.at 0) in
      AnswersIn.made (IrNode.Switch unplaced (aligned (head (type_of (tree a))).alignment) tag v.0 DefaultNode.no_default, v.1) (record {
        entries = f.entries;
        index = f.index;
        wrote = rw (hd a).alignment (switch_write h.alignment tag count v.0 f.counted w₁ w₂ w₃ f.wrote w₄ w₅);
      }))

-- ---- a tag, then the switch

-- the switch of a type, by the tag that an action finds or makes
abbrev pub switch_by : Build Name → Head → List Alternative → Build IrNode
switch_by tag h xs = tag >>= (λ name. build_switch h name xs)

module _ {s xs ws ys : List ℕ} {at : ℕ} (m : Build Name) (h : Head) (as' : List Alternative) (g : Registry) where
  -- a refused tag is the answer
  pub tag_stops : {us : List ℕ} {e : Reason} → Tags s us (Err e) (m g) → Builds s xs at ws ys (Err e) (switch_by m h as' g)
  tag_stops t = step_passes m _ g t

  -- with a tag the switch is
  pub tag_goes : {t : Tagged} {r : Result Built Reason} → Tags s ws (Ok t) (m g) →
      Builds s xs at ws ys r (build_switch h (entry_name s (get_or ws t.at 0)) as' (entries_of s ws t.count)) →
      Builds s xs at ws ys r (switch_by m h as' g)
  tag_goes t b = step_goes m _ g t (λ x e. rw (e.named, ← e.entries) b)

-- what `put_switch` stands on, once the tag is there
pub switching : {s ws us : List ℕ} {n kind type at count first : ℕ} (k : Kind) {t : Tagged} {o : Outcome (Name × Registry)} →
    Ready s ws n kind type at →
    length us ≡ length ws → t.count ≤ 512 → Tags s us (Ok t) o → Listed s (block_of k) (block_of k) count first → count ≤ 64 →
    Switching s us type t k count first at
switching k p e c tg l h = record {
  standing = standing p.standing e c (tags_index tg);
  type_at = p.type_at;
  within = (tags_done tg).0;
  list = l;
  most = h;
  cursor = p.cursor;
}

-- ---- the three types

-- two enums that are the same type have the same parts
same_enum : {k : ResolvedTypeKind} {e d : ExprKind} {vs us : Variants} → k ≡ ResolvedTypeKind.Enum e vs → k ≡ ResolvedTypeKind.Enum d us →
    (e ≡ d) × (vs ≡ us)
same_enum p q = (cc, cc)

-- so have two unions
same_union : {k : ResolvedTypeKind} {fs gs : Fields} → k ≡ ResolvedTypeKind.Union fs → k ≡ ResolvedTypeKind.Union gs → fs ≡ gs
same_union p q = cc

-- and two size-discriminated unions
same_sized : {k : ResolvedTypeKind} {vs us : Variants} → k ≡ ResolvedTypeKind.SizeDiscriminatedUnion vs →
    k ≡ ResolvedTypeKind.SizeDiscriminatedUnion us → vs ≡ us
same_sized p q = cc

-- a list of no variants is empty
none_sized : {s : List ℕ} {count first : ℕ} (l : Listed s 35 35 count first) → count ≡ 0 →
    not_empty (variants_in (view thing_of l.got.0)) ≡ false
unfolding variants_in view
none_sized l e = rw (none_left l (omega arith)) refl

-- one with a variant in front is not
first_sized : (at : ℕ) (t u : Tree) → not_empty (variants_in (view thing_of (cons (block at 35 t) u))) ≡ true
unfolding variants_in view thing_of make_thing form_of
first_sized at t u = refl

-- so a list of some variants is not
some_sized : {s : List ℕ} {count first : ℕ} (l : Listed s 35 35 count first) → (count ≡ 0 → ⊥) →
    not_empty (variants_in (view thing_of l.got.0)) ≡ true
some_sized {s} {first} l n =
    let b = block_entry l (omega arith) in
    let w = opened b.child refl refl in
    let o = opened b.child (let k : le2 s (first + 4) ≡ 35 = omega (arith, w.least, w.most) in k) refl in
    rw (b.after.tree, o.tree) (first_sized first o.parts.got.0 b.after.rest.got.0)

-- a made tag, under a name
abbrev pub made_tag : Made → Name → Build Name
made_tag made n = add_synthetic n (made_path made) (made_parameter made n)

-- what is said of the name that the code passes is said of the type's own
own_name : {s xs vs ys : List ℕ} {at kind : ℕ} {h : TypeHead} {r : Result Built Reason} (made : Made) (as' : List Alternative)
    (g : Registry) →
    ((a : Accepted s 1 7 kind) → HeadAt a h) → (a : Accepted s 1 7 kind) →
    Builds s xs at vs ys r (switch_by (made_tag made (held s (kind + 6))) (head (type_of (tree a))) as' g) →
    Builds s xs at vs ys r (switch_by (made_tag made (head (type_of (tree a))).name) (head (type_of (tree a))) as' g)
own_name made as' g hd a b = rw ((hd a).name, ← held_name (hd a).named) b

-- with the references entered, what comes next has the registry and its index
pub refs_standing : {s ws us : List ℕ} {n k kind at x : ℕ} {h : TypeHead} (g : Registry) → Ready s ws n k kind at →
    ((a : Accepted s 1 7 kind) → HeadAt a h) →
    length us ≡ length ws → x ≤ 512 → ((a : Accepted s 32 32 h.references) → Kept s us (Ok x) (extend_with (owners_of (tree a)) g)) →
    Standing s us x
refs_standing g r hd e c kp = standing r.standing e c (kept_index (kp (hd r.type_at).references))

module _ {s xs : List ℕ} {at kind : ℕ} {h : TypeHead} (g : Registry) (hd : (a : Accepted s 1 7 kind) → HeadAt a h) where
  -- refused references end the building of each of the three
  pub refs_stop : {us vs ys : List ℕ} {e : Reason} (k : Unit → Build IrNode) →
      ((a : Accepted s 32 32 h.references) → Kept s us (Err e) (extend_with (owners_of (tree a)) g)) →
      (a : Accepted s 1 7 kind) → Builds s xs at vs ys (Err e) ((extend_with (head (type_of (tree a))).dynamic_params >>= k) g)
  refs_stop k kp a = rw (hd a).owners (step_passes (extend_with (owners_of (tree (hd a).references))) k g (kp (hd a).references))

  module _ {us : List ℕ} {x : ℕ} (kp : (a : Accepted s 32 32 h.references) → Kept s us (Ok x) (extend_with (owners_of (tree a)) g)) where
    -- with the references entered the building goes on
    refs_go : {vs ys : List ℕ} {r : Result Built Reason} (k : Unit → Build IrNode) (a : Accepted s 1 7 kind) →
        Builds s xs at vs ys r (k tt (entries_of s us x)) →
        Builds s xs at vs ys r ((extend_with (head (type_of (tree a))).dynamic_params >>= k) g)
    refs_go k a b =
        rw (hd a).owners
        (step_goes (extend_with (owners_of (tree (hd a).references))) k g (kp (hd a).references) (λ y e. rw (← e.entries) b))

    module _ {vs ys : List ℕ} {r : Result Built Reason} where
      -- an enum is the switch over its variants, by its own expression
      pub enum_is : {p : EnumParts} → ((a : Accepted s 1 7 kind) → EnumAt a p) →
          ((a : Accepted s 1 7 kind) (t : Accepted s 64 91 p.tag) (l : Listed s 34 34 p.count p.first) →
          Builds s xs at vs ys r
          (switch_by (enum_tag_parameter (name_at s (kind + 6)) (expr_of (tree t))) (head (type_of (tree a)))
          (alternatives Enum 0 l.got.0) (entries_of s us x))) →
          (a : Accepted s 1 7 kind) (e : ExprKind) (vs' : Variants) → kind_of (type_of (tree a)) ≡ ResolvedTypeKind.Enum e vs' →
          Builds s xs at vs ys r (build_enum_node (head (type_of (tree a))) e vs' g)
      unfolding build_enum_node
      enum_is ep sw a e vs' q =
          let i = same_enum q (ep a).is in
          refs_go _ a (rw (i.0, i.1, (hd a).name) (sw a (ep a).tag (ep a).list))

      -- a union is the switch over its fields
      pub union_is : {p : ListParts} → le2 s (kind + 4) ≡ 3 → ((a : Accepted s 1 7 kind) → FieldsAt a p) →
          ((a : Accepted s 1 7 kind) (l : Listed s 33 33 p.count p.first) →
          Builds s xs at vs ys r
          (switch_by (made_tag Variant (held s (kind + 6))) (head (type_of (tree a))) (alternatives Union 0 l.got.0)
          (entries_of s us x))) →
          (a : Accepted s 1 7 kind) (fs : Fields) → kind_of (type_of (tree a)) ≡ ResolvedTypeKind.Union fs →
          Builds s xs at vs ys r (build_union_node (head (type_of (tree a))) fs g)
      unfolding build_union_node made_parameter
      union_is k lp sw a fs q =
          refs_go _ a (rw (same_union q ((lp a).union k)) (own_name Variant _ _ hd a (sw a (lp a).list)))

      -- a size-discriminated union of some variants is the switch over them
      pub sized_is : {p : ListParts} → ((a : Accepted s 1 7 kind) → SizedAt a p) → (p.count ≡ 0 → ⊥) →
          ((a : Accepted s 1 7 kind) (l : Listed s 35 35 p.count p.first) →
          Builds s xs at vs ys r
          (switch_by (made_tag PayloadSize (held s (kind + 6))) (head (type_of (tree a))) (alternatives Sized 0 l.got.0)
          (entries_of s us x))) →
          (a : Accepted s 1 7 kind) (vs' : Variants) → kind_of (type_of (tree a)) ≡ ResolvedTypeKind.SizeDiscriminatedUnion vs' →
          Builds s xs at vs ys r (build_size_discriminated_union_node (head (type_of (tree a))) vs' g)
      unfolding build_size_discriminated_union_node made_parameter
      sized_is lp e sw a vs' q =
          refs_go _ a
          (rw (require_yes {b = not_empty vs'} UnsupportedSize _ (entries_of s us x)
          (ap not_empty (same_sized q (lp a).is) ∙ some_sized (lp a).list e))
          (rw (same_sized q (lp a).is) (own_name PayloadSize _ _ hd a (sw a (lp a).list))))

    -- one of no variants is refused
    pub sized_none : {vs ys : List ℕ} {p : ListParts} → ((a : Accepted s 1 7 kind) → SizedAt a p) → p.count ≡ 0 →
        (a : Accepted s 1 7 kind) (vs' : Variants) →
        kind_of (type_of (tree a)) ≡ ResolvedTypeKind.SizeDiscriminatedUnion vs' →
        Builds s xs at vs ys (Err reason.UnsupportedSize) (build_size_discriminated_union_node (head (type_of (tree a))) vs' g)
    unfolding build_size_discriminated_union_node
    sized_none lp e a vs' q =
        refs_go _ a
        (refuses (require_no {b = not_empty vs'} UnsupportedSize _ (entries_of s us x)
        (ap not_empty (same_sized q (lp a).is) ∙ none_sized (lp a).list e)))
