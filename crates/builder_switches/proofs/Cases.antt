-- The alternatives of a switch, their nodes and their cases, one by one.
use mathlib.Core.Path.{◌≡◌, refl, sym, ap, subst, ◌∙◌}
use mathlib.Core.List.{List, [], ◌∷◌, ◌++◌}
use mathlib.Core.Option.{some, none}
use Prim.Native.Nat.{ℕ, suc, ◌+◌, ◌-◌, ◌*◌, ◌≤◌, ◌<◌}
use native.Mathlib.Numerals.{add-one}
use native.Mathlib.Omega.{arith}
use lib.ListN.{length}
use Rattle.std.specs.Prelude.{Result, Ok, Err, IsErrAnd, Some, None}
use Rattle.std.proofs.lemmas.Result.{err_from_is_err_and}
use Rattle.std.specs.Prelude as std
use Rattle.errors.specs.Refusal.{done, refused, plain, MissingDynamicRefs}
use Rattle.errors.specs.Refusal.{◌>>=◌ as ◌and_then◌}
use Rattle.errors.specs.declared.Reason.{Reason}
use Rattle.errors.specs.declared.Reason.TheVariants as reason
use Rattle.answers.specs.Answers.{Answers, AnswersIn}
use Rattle.answers.proofs.Laws.{answered, refuses}
use Rattle.blocks.specs.Bytes.{bytes, le4, name_at}
use Rattle.blocks.specs.Name.{Name}
use Rattle.blocks.specs.Tree.{Tree, num, nil, cons, view}
use Rattle.blocks.specs.Write.{write}
use Rattle.accepted.specs.Accepted.{Accepted, tree, Item, Listed}
use Rattle.accepted.proofs.Laws.{block_entry}
use Rattle.accepted.proofs.Lists.{Left, starts, steps, ended}
use Rattle.resolved.specs.Resolved.{Owner, Size, fields, variants, get}
use Rattle.resolved.specs.Set.{fields_in, variants_in}
use Rattle.ir.specs.Ir.{IrNode, IrParameter, SwitchCases}
use Rattle.ir.specs.Layout.{node_tree, cases_tree, case_count, list_tree, parameter_tree}
use Rattle.builder.specs.Registry.{Registry, Build, ◌>>=◌, give, reads, owner_parameters}
use Rattle.builder.specs.Nodes.{Alternative, enum_alternatives, union_alternatives, sized_alternatives, align_node, const_or_zero}
use Rattle.builder.specs.Nodes.{sum_refs, build_alternative, build_cases}
use Rattle.builder.proofs.Steps.{need_some, need_none, reads_then}
use Rattle.wire.specs.Poke.{Wrote, opened}
use Rattle.wire.proofs.Laws.{both, parts, no_parts, closed}
use Rattle.resolved_parts.specs.declared.TypeHead.{TypeHead}
use Rattle.resolved_parts.specs.declared.FieldParts.{FieldParts}
use Rattle.resolved_parts.specs.declared.VariantParts.{VariantParts}
use Rattle.resolved_parts.proofs.Owners.{found_paths, found_none}
use Rattle.resolved_parts.specs.Types.{HeadAt, FieldAt, VariantAt, PathsAt, PathsFound, owners_of, texts_of, sized}
use Rattle.builder_registry.specs.Words.{Indexed, entries_of}
use Rattle.builder_nodes.specs.declared.Built.{Built}
use Rattle.builder_nodes.specs.Built.{Builds, Within, node_start}
use Rattle.builder_nodes.proofs.Laws.{align_closed, step_passes, step_goes, step_assoc}
use Rattle.builder_switches.specs.declared.Choice.{Choice}
use Rattle.builder_switches.specs.declared.Kind.{Kind}
use Rattle.builder_switches.specs.declared.Kind.TheVariants.{Union, Enum, Sized}
use Rattle.builder_switches.specs.Cases.{block_of, alternatives, AltAt, Cases, CaseIn, CaseAt, build_case, case_tree}

-- ---- the alternatives of each kind

-- an alternative from its four parts
abbrev alternative_of : ℕ → Name → Size → ℕ → Alternative
alternative_of t n s a = record { tag = t; name = n; size = s; alignment = a }

module _ {s : List ℕ} {q : ℕ} where
  -- a block of one kind is a block of that number
  pub as_kind : {k : Kind} (j : Kind) → k ≡ j → Accepted s (block_of k) (block_of k) q → Accepted s (block_of j) (block_of j) q
  as_kind j e a = rw e at a

  module _ {k : Kind} {i : ℕ} {h : TypeHead} where
    -- a field of a union, with its place as the tag
    pub alt_union : {f : FieldParts} → k ≡ Union → ((c : Accepted s 33 33 q) → FieldAt c f) → ((a : Accepted s 1 7 f.kind) → HeadAt a h) →
        (c : Accepted s (block_of k) (block_of k) q) →
        AltAt k c i (record { name = q + 6; tag = i; size = h.size; alignment = h.alignment })
    unfolding union_alternatives
    alt_union e p t = rw e go
      where
        go : (c : Accepted s 33 33 q) → AltAt Union c i (record { name = q + 6; tag = i; size = h.size; alignment = h.alignment })
        go c =
            let x = p c in
            let y = t x.type in record { named = x.named; is = λ u. ap (union_alternatives i) (x.is u) ∙ rw (y.size, y.alignment) refl }

    -- a variant of an enum, with its number as the tag
    pub alt_enum : {v : VariantParts} → k ≡ Enum → ((c : Accepted s 34 34 q) → VariantAt c v) → ((a : Accepted s 1 7 v.kind) → HeadAt a h) →
        (c : Accepted s (block_of k) (block_of k) q) →
        AltAt k c i (record { name = q + 6; tag = v.number; size = h.size; alignment = h.alignment })
    unfolding enum_alternatives
    alt_enum {v} e p t = rw e go
      where
        go : (c : Accepted s 34 34 q) → AltAt Enum c i (record { name = q + 6; tag = v.number; size = h.size; alignment = h.alignment })
        go c =
            let x = p c in
            let y = t x.type in record { named = x.named; is = λ u. ap enum_alternatives (x.is u) ∙ rw (y.size, y.alignment) refl }

    -- a variant of a size-discriminated union, with its expected size as tag and size
    pub alt_sized : {v : VariantParts} → k ≡ Sized → ((c : Accepted s 35 35 q) → VariantAt c v) →
        ((a : Accepted s 1 7 v.kind) → HeadAt a h) →
        (c : Accepted s (block_of k) (block_of k) q) →
        AltAt k c i (record { name = q + 6; tag = v.number; size = Some v.number; alignment = h.alignment })
    unfolding sized_alternatives
    alt_sized {v} e p t = rw e go
      where
        go : (c : Accepted s 35 35 q) →
            AltAt Sized c i (record { name = q + 6; tag = v.number; size = Some v.number; alignment = h.alignment })
        go c =
            let x = p c in
            let y = t x.type in record { named = x.named; is = λ u. ap sized_alternatives (x.is u) ∙ rw y.alignment refl }

-- behind the last there is none
none_more : (k : Kind) (i : ℕ) → alternatives k i nil ≡ []
unfolding view fields_in variants_in fields variants union_alternatives enum_alternatives sized_alternatives
none_more Union i = refl
none_more Enum i = refl
none_more Sized i = refl

-- ---- the node of an alternative

module _ {s : List ℕ} {references : ℕ} {f : std.Option ℕ} {o : Name} (q : ℕ) (d : o ≡ name_at s q)
    (p : (a : Accepted s 32 32 references) → PathsFound s o (owners_of (tree a)) f) where
  -- no references have the name
  no_paths : f ≡ None → (a : Accepted s 32 32 references) → get (name_at s q) (owners_of (tree a)) ≡ none
  no_paths h a = found_none (rw (d, h) at (p a))

  -- its references, accepted
  some_paths : {b : ℕ} → f ≡ Some b → (a : Accepted s 32 32 references) →
      (y : PathsAt s b) × (get (name_at s q) (owners_of (tree a)) ≡ some (texts_of y.list.got.0))
  some_paths h a = found_paths (rw (d, h) at (p a))

  -- the same, as `sum_refs` asks for it
  pub paths_at : {b : ℕ} → f ≡ Some b → Accepted s 32 32 references → PathsAt s b
  paths_at h a = (some_paths h a).0

  -- and by their names
  abbrev paths_of : {b : ℕ} → f ≡ Some b → Accepted s 32 32 references → List Name
  paths_of h a = texts_of (some_paths h a).0.list.got.0

-- the definition's node of the alternative x
abbrev node_of : {s : List ℕ} {references : ℕ} → Accepted s 32 32 references → Choice → Build IrNode
node_of {s} a x = build_alternative (owners_of (tree a)) (name_at s x.name) (sized x.size) x.alignment

module _ {s : List ℕ} {references : ℕ} {f : std.Option ℕ} {o : Name} (x : Choice) (v : x.size ≡ None) (d : o ≡ name_at s x.name)
    (p : (a : Accepted s 32 32 references) → PathsFound s o (owners_of (tree a)) f) (g : Registry) where
  -- of variable size, without references of its name
  not_found : f ≡ None → (a : Accepted s 32 32 references) → node_of a x g ≡ refused (plain MissingDynamicRefs)
  unfolding build_alternative
  not_found h a = rw v (need_none {o = get (name_at s x.name) (owners_of (tree a))} MissingDynamicRefs _ g (no_paths x.name d p h a))

  module _ {b : ℕ} (h : f ≡ Some b) where
    -- with them the node is their sum, aligned
    is_sum : (a : Accepted s 32 32 references) →
        node_of a x g ≡ (sum_refs (name_at s x.name) (paths_of x.name d p h a) >>= (λ sum. give (align_node sum x.alignment))) g
    unfolding build_alternative
    is_sum a = rw v (need_some {o = get (name_at s x.name) (owners_of (tree a))} MissingDynamicRefs _ g (some_paths x.name d p h a).1)

    -- the sum that was built is theirs
    summed : {zs ws y : List ℕ} {t : ℕ} {r : Result Built Reason} →
        ((p : PathsAt s b) → Builds s zs t ws y r (sum_refs o (texts_of p.list.got.0) g)) →
        (a : Accepted s 32 32 references) → Builds s zs t ws y r (sum_refs (name_at s x.name) (paths_of x.name d p h a) g)
    summed {zs} {ws} {y} {t} {r} m a =
        subst (λ (z : Name). Builds s zs t ws y r (sum_refs z (paths_of x.name d p h a) g)) d (m (some_paths x.name d p h a).0)

module _ {s xs ws : List ℕ} {at references : ℕ} (n : ℕ) (x : Choice) where
  -- of constant size: the constant was written
  pub node_const : {ys : List ℕ} {r size : ℕ} → Indexed s ws n → x.size ≡ Some size →
      Wrote xs at (write (node_tree (const_or_zero size x.alignment))) ys r → (a : Accepted s 32 32 references) →
      Builds s xs at ws ys (Ok (record { at = r; count = n })) (node_of a x (entries_of s ws n))
  unfolding build_alternative give
  node_const {size = size} i h w a =
      rw h (AnswersIn.made (const_or_zero size x.alignment, entries_of s ws n) (record { entries = refl; index = i; wrote = w }))

  module _ {f : std.Option ℕ} {o : Name} (v : x.size ≡ None) (d : o ≡ name_at s x.name)
      (p : (a : Accepted s 32 32 references) → PathsFound s o (owners_of (tree a)) f) where
    -- of variable size: the name has no references
    pub node_missing : {ys : List ℕ} → f ≡ None → (a : Accepted s 32 32 references) →
        Builds s xs at ws ys (Err reason.MissingDynamicRefs) (node_of a x (entries_of s ws n))
    node_missing h a = refuses (not_found x v d p (entries_of s ws n) h a)

    module _ {zs y : List ℕ} {b t : ℕ} (h : f ≡ Some b) where
      -- the sum was refused
      pub node_stops : {ys : List ℕ} {e : Reason} →
          ((p : PathsAt s b) → Builds s zs t ws y (Err e) (sum_refs o (texts_of p.list.got.0) (entries_of s ws n))) →
          (a : Accepted s 32 32 references) → Builds s xs at ws ys (Err e) (node_of a x (entries_of s ws n))
      node_stops m a = rw (is_sum x v d p (entries_of s ws n) h a)
          (step_passes (sum_refs (name_at s x.name) (paths_of x.name d p h a)) _ (entries_of s ws n)
          (summed x v d p (entries_of s ws n) h m a))

      -- the sum was written, and the length of its AlignUp is patched in
      pub node_done : {ys : List ℕ} {j : ℕ} {r : Built} → Wrote xs at (node_start 131 x.alignment ++ write (num 8 x.alignment)) zs t →
          ((p : PathsAt s b) → Builds s zs t ws y (Ok r) (sum_refs o (texts_of p.list.got.0) (entries_of s ws n))) →
          Wrote y at (bytes 4 (r.at - at - 4)) ys j →
          (a : Accepted s 32 32 references) → Builds s xs at ws ys (Ok r) (node_of a x (entries_of s ws n))
      unfolding give
      node_done u m c a =
          rw (is_sum x v d p (entries_of s ws n) h a)
          (step_goes (sum_refs (name_at s x.name) (paths_of x.name d p h a)) _ (entries_of s ws n)
          (summed x v d p (entries_of s ws n) h m a)
          (λ w e. AnswersIn.made (align_node w.0 x.alignment, w.1) (record {
            entries = e.entries;
            index = e.index;
            wrote = align_closed x.alignment w.0 u e.wrote c;
          })))

-- ---- a case

-- the alternative, as the code read it
abbrev alternative_at : List ℕ → Choice → Alternative
alternative_at s x = alternative_of x.tag (name_at s x.name) (sized x.size) x.alignment

-- the bytes of a case
case_write : {xs x₁ x₂ x₃ x₄ ys : List ℕ} {at b p r u j : ℕ} (v : ℕ) (n : IrNode) (ps : List IrParameter) → Wrote xs at (opened 163) x₁ b →
    Wrote x₁ b (bytes 8 v) x₂ p → Wrote x₂ p (write (node_tree n)) x₃ r → Wrote x₃ r (write (list_tree parameter_tree ps)) x₄ u →
    Wrote x₄ at (bytes 4 (u - at - 4)) ys j → Wrote xs at (write (case_tree v n ps)) ys u
unfolding write
case_write {x₄} {u} v n ps w₁ w₂ w₃ w₄ w₅ =
    closed 0 163
    (cons (num 8 v) (cons (node_tree n) (cons (list_tree parameter_tree ps) nil)))
    (both w₁
    (parts
    (num 8 v)
    (cons (node_tree n) (cons (list_tree parameter_tree ps) nil)) w₂
    (parts (node_tree n) (cons (list_tree parameter_tree ps) nil) w₃ (parts (list_tree parameter_tree ps) nil w₄ (no_parts x₄ u))))) w₅

module _ {s xs ws : List ℕ} {q i at references : ℕ} (k : Kind) {x : Choice} (n : ℕ)
    (alt : (c : Accepted s (block_of k) (block_of k) q) → AltAt k c i x) where
  -- the node of the case was refused
  pub case_stops : {x₂ x₃ ys : List ℕ} {p : ℕ} {e : Reason} →
      ((a : Accepted s 32 32 references) → Builds s x₂ p ws x₃ (Err e) (node_of a x (entries_of s ws n))) →
      (c : Accepted s (block_of k) (block_of k) q) (a : Accepted s 32 32 references) →
      CaseAt k c i xs at ws ys (Err e) (owners_of (tree a)) (entries_of s ws n)
  unfolding build_case
  case_stops nd c a =
      record { alternative = alternative_at s x; is = (alt c).is; made = step_passes (node_of a x) _ (entries_of s ws n) (nd a) }

  -- the case was written
  pub case_done : {x₁ x₂ x₃ x₄ ys : List ℕ} {b p u j : ℕ} {r : Built} {o : Name} → o ≡ name_at s x.name → Wrote xs at (opened 163) x₁ b →
      Wrote x₁ b (bytes 8 x.tag) x₂ p →
      ((a : Accepted s 32 32 references) → Builds s x₂ p ws x₃ (Ok r) (node_of a x (entries_of s ws n))) →
      Wrote x₃ r.at (write (list_tree parameter_tree (owner_parameters o (entries_of s ws r.count)))) x₄ u →
      Wrote x₄ at (bytes 4 (u - at - 4)) ys j → (c : Accepted s (block_of k) (block_of k) q) (a : Accepted s 32 32 references) →
      CaseAt k c i xs at ws ys (Ok (record { at = u; count = r.count })) (owners_of (tree a)) (entries_of s ws n)
  unfolding build_case give
  case_done d w₁ w₂ nd w₃ w₄ c a = record {
    alternative = alternative_at s x;
    is = (alt c).is;
    made = step_goes (node_of a x) _ (entries_of s ws n) (nd a)
        (λ y e.
        let ps = owner_parameters (name_at s x.name) y.1 in
        rw (reads_then {B = IrNode × List IrParameter} (owner_parameters (name_at s x.name)) (λ ps. give (y.0, ps)) y.1)
        (AnswersIn.made ((y.0, ps), y.1) (record {
          entries = e.entries;
          index = e.index;
          wrote = case_write x.tag y.0 ps w₁ w₂ e.wrote (rw (d, e.entries) at w₃) w₄;
        })));
  }

-- where a `?` hands a reason on, that is what was answered
pub case_hands : {s xs ws ys : List ℕ} {q i at : ℕ} {k : Kind} {c : Accepted s (block_of k) (block_of k) q} {os : List Owner} {g : Registry}
    (r : Result Built Reason) {e : Reason} → IsErrAnd r (λ d. d ≡ e) → CaseAt k c i xs at ws ys (Err e) os g →
    CaseAt k c i xs at ws ys r os g
case_hands r h b = let q = err_from_is_err_and r h in rw (q.1, q.2) b

-- ---- one case more

-- the cases of the definition: the first, then the others
cases_are : (os : List Owner) (x : Alternative) (xs : List Alternative) (g : Registry) →
    build_cases os (x ∷ xs) g ≡ (build_case os x >>= (λ c. build_cases os xs >>= (λ cs. give (SwitchCases.case x.tag c.0 c.1 cs)))) g
unfolding build_cases build_case ◌>>=◌ ◌and_then◌ reads give
cases_are os x xs g =
    sym
    (step_assoc (build_alternative os x.name x.size x.alignment) g
    (λ node. reads (owner_parameters x.name) >>= (λ ps. give {A = IrNode × List IrParameter} (node, ps)))
    (λ c. build_cases os xs >>= (λ cs. give (SwitchCases.case x.tag c.0 c.1 cs))))

-- no alternative, no case
no_cases : (os : List Owner) (g : Registry) → build_cases os [] g ≡ done (SwitchCases.no_case, g)
unfolding build_cases give
no_cases os g = refl

module _ {s xs ws ys : List ℕ} {at : ℕ} (os : List Owner) (x : Alternative) (xs' : List Alternative) (j : ℕ) (g : Registry) where
  -- one case, then the others
  case_more : {zs : List ℕ} {r : Built} {t : Result Built Reason} → Answers (CaseIn s xs at ws ys x.tag) (Ok r) (build_case os x g) →
      Cases s ys r.at ws zs j t (build_cases os xs' (entries_of s ws r.count)) →
      Cases s xs at ws zs (suc j) t (build_cases os (x ∷ xs') g)
  unfolding case_count cases_tree give
  case_more {zs} {r} {t} c d =
      rw (cases_are os x xs' g)
      (step_goes (build_case os x) _ g c (λ y e. more t y e (rw e.entries at d)))
    where
      more : (t : Result Built Reason) (y : (IrNode × List IrParameter) × Registry) → CaseIn s xs at ws ys x.tag r y →
          Cases s ys r.at ws zs j t (build_cases os xs' y.1) →
          Cases s xs at ws zs (suc j) t ((build_cases os xs' >>= (λ cs. give (SwitchCases.case x.tag y.0.0 y.0.1 cs))) y.1)
      more (Ok v) y e d =
          step_goes (build_cases os xs') _ y.1 d
          (λ w h. AnswersIn.made (SwitchCases.case x.tag y.0.0 y.0.1 w.0, w.1) (record {
            entries = h.entries;
            index = h.index;
            counted = omega (arith, h.counted);
            wrote = parts (case_tree x.tag y.0.0 y.0.1) (cases_tree w.0) e.wrote h.wrote;
          }))
      more (Err q) y e d = step_passes (build_cases os xs') _ y.1 d

  -- one case that was refused ends them
  case_stop : {zs : List ℕ} {p : ℕ} {e : Reason} → Answers (CaseIn s xs at ws ys x.tag) (Err e) (build_case os x g) →
      Cases s xs p ws zs j (Err e) (build_cases os (x ∷ xs') g)
  case_stop c = rw (cases_are os x xs' g) (step_passes (build_case os x) _ g c)

-- ---- all the cases

-- i of the cases are written up to b: whatever writes the others, j of them, makes the whole
abbrev pub Goes : List ℕ → List ℕ → ℕ → List ℕ → ℕ → ℕ → Kind → ℕ → ℕ → ℕ → List ℕ → Built → Tree → Tree → Type 0
Goes s xs at ws n references k count j i ys b w u =
    (a : Accepted s 32 32 references) (zs : List ℕ) (r : Result Built Reason) →
    Cases s ys b.at ws zs j r (build_cases (owners_of (tree a)) (alternatives k i u) (entries_of s ws b.count)) →
    Cases s xs at ws zs count r (build_cases (owners_of (tree a)) (alternatives k 0 w) (entries_of s ws n))

-- and so far the cursor and the entries are within their bounds, and the words hold the index of the entries
pub record Written (s xs : List ℕ) (at : ℕ) (ws : List ℕ) (n references : ℕ) (k : Kind) (count first i q : ℕ) (ys : List ℕ)
    (b : Built) : Type 0 where
  pub within : Within at (540000 * i) b
  pub index : Indexed s ws b.count
  pub rest : Left (Goes s xs at ws n references k count (count - i) i ys b) s (Item.blocks (block_of k) (block_of k)) count first
      (count - i) q

-- before the loop no case is written
pub cases_begin : {s xs ws : List ℕ} {at n references : ℕ} (k : Kind) {count first : ℕ} → n ≤ 512 → Indexed s ws n →
    Listed s (block_of k) (block_of k) count first →
    Written s xs at ws n references k count first 0 first xs (record { at = at; count = n })
cases_begin {s} {xs} {ws} {at} {n} {references} k {count} {first} h x l = record {
  within = record { low = omega arith; high = omega arith; count = h };
  index = x;
  rest =
      let e : count ≡ count - 0 = omega arith in
      subst (λ (j : ℕ). Left (Goes s xs at ws n references k count j 0 xs (record { at = at; count = n })) s
      (Item.blocks (block_of k) (block_of k)) count first j first) e
      (starts (λ t a zs r c. c) l);
}

module _ {s xs ws : List ℕ} {at n references : ℕ} {k : Kind} {count first i q : ℕ} {ys : List ℕ} {b : Built} (h : i < count)
    (inv : Written s xs at ws n references k count first i q ys b) where
  -- there is a case left
  left_over : 0 < count - i
  left_over = omega arith

  -- the alternative at hand is accepted
  pub next_block : Accepted s (block_of k) (block_of k) q
  next_block = (block_entry inv.rest.here left_over).child

  -- it lies inside the set
  pub next_low : q + 4 + le4 s q ≤ length s
  next_low = omega (arith, (block_entry inv.rest.here left_over).after.inside, inv.rest.here.fits)

  -- its case was refused
  pub cases_stop : {y zs : List ℕ} {e : Reason} →
      ((c : Accepted s (block_of k) (block_of k) q) (a : Accepted s 32 32 references) →
      CaseAt k c i ys b.at ws y (Err e) (owners_of (tree a)) (entries_of s ws b.count)) →
      (l : Listed s (block_of k) (block_of k) count first) (a : Accepted s 32 32 references) →
      Cases s xs at ws zs count (Err e) (build_cases (owners_of (tree a)) (alternatives k 0 l.got.0) (entries_of s ws n))
  cases_stop {zs = zs} {e = e} put l a =
      let w = inv.rest.whole l in
      let f = block_entry w.0 left_over in
      let c = put f.child a in
      w.1 a zs (Err e)
      (rw (f.after.tree, c.is f.after.rest.got.0)
      (case_stop (owners_of (tree a))
      c.alternative
      (alternatives k (suc i) f.after.rest.got.0)
      (count - i)
      (entries_of s ws b.count)
      c.made))

  module _ {y : List ℕ} {r : Built}
      (put : (c : Accepted s (block_of k) (block_of k) q) (a : Accepted s 32 32 references) →
      CaseAt k c i ys b.at ws y (Ok r) (owners_of (tree a)) (entries_of s ws b.count)) where
    -- its case was written: whatever writes those behind it makes the whole
    step : (c : Accepted s (block_of k) (block_of k) q) (w u : Tree) →
        Goes s xs at ws n references k count (count - i) i ys b w (cons (tree c) u) →
        Goes s xs at ws n references k count (count - i - 1) (i + 1) y r w u
    step c w u f a zs t d =
        let x = put c a in
        let j : suc (count - i - 1) ≡ count - i = omega arith in
        f a zs t
        (rw (x.is u, ← add-one i, ← j)
        (case_more (owners_of (tree a)) x.alternative (alternatives k (i + 1) u) (count - i - 1) (entries_of s ws b.count) x.made d))

    -- the loop goes on behind it
    pub cases_more : {v : ℕ} → Accepted s 32 32 references → Within b.at 540000 r → v ≡ le4 s q →
        Written s xs at ws n references k count first (i + 1) (q + 4 + v) y r
    cases_more {v} a m d =
        let j : count - i - 1 ≡ count - (i + 1) = omega arith in record {
          within = record { low = omega (arith, m.low, inv.within.low); high = omega (arith, m.high, inv.within.high); count = m.count };
          index = (answered (put next_block a).made).2.index;
          rest = rw
              (d, ← j)
              (steps
              (λ l. (block_entry l left_over).child.got.0)
              (λ l. (block_entry l left_over).after)
              (λ l w u. step (block_entry l left_over).child w u)
              inv.rest);
        }

-- no case is left
pub cases_end : {s xs ws : List ℕ} {at n references : ℕ} {k : Kind} {count first i q : ℕ} {ys : List ℕ} {b : Built} → count ≤ i →
    Written s xs at ws n references k count first i q ys b →
    (l : Listed s (block_of k) (block_of k) count first) (a : Accepted s 32 32 references) →
    Cases s xs at ws ys count (Ok b) (build_cases (owners_of (tree a)) (alternatives k 0 l.got.0) (entries_of s ws n))
unfolding cases_tree case_count
cases_end {s} {ws = ws} {k = k} {count = count} {i = i} {ys = ys} {b = b} h inv l a =
    let z : 0 ≡ count - i = omega arith in
    (ended
    (omega arith)
    inv.rest l).0 a ys (Ok b)
    (rw (none_more k i, no_cases (owners_of (tree a)) (entries_of s ws b.count))
    (AnswersIn.made (SwitchCases.no_case, entries_of s ws b.count)
    (record { entries = refl; index = inv.index; counted = z; wrote = no_parts ys b.at })))
