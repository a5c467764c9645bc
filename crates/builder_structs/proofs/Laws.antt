-- What the code leaves, place by place: the end of the prefix, the next node, sums, the count, the struct.
use Rattle.std.specs.Prelude as std
use Rattle.std.specs.Prelude.{Some, None, SomeIff, Result, Ok, Err}
use mathlib.Core.Path.{◌≡◌, refl, sym, ◌∙◌, ap, subst}
use mathlib.Core.Bool.{Bool, true, false, cond}
use mathlib.Core.List.{List, ◌∷◌}
use mathlib.Core.Option.{Option, some, none}
use Prim.Native.Nat.{ℕ, suc, ◌+◌, ◌-◌, ◌*◌, ◌^◌, ◌≤◌, ◌<◌}
use native.Mathlib.Omega.{arith}
use lib.Dec.{ltb}
use lib.ListN.{length}
use borrow.Author.Tests.{lt-ltb, le-ltb}
use Rattle.errors.specs.Refusal.{Outcome, done, refused, plain}
use Rattle.errors.specs.Refusal.{◌>>=◌ as ◌and_then◌}
use Rattle.errors.specs.declared.Reason.{Reason}
use Rattle.errors.specs.declared.Reason.TheVariants as reason
use Rattle.answers.specs.Answers.{AnswersIn}
use Rattle.answers.proofs.Laws.{answered, refuses, makes, passes, goes}
use Rattle.blocks.specs.Bytes.{le2, le4, bytes}
use Rattle.blocks.specs.Tree.{Tree, nil, cons, view}
use Rattle.blocks.specs.Read.{read_set}
use Rattle.blocks.specs.Write.{write}
use Rattle.accepted.specs.Accepted.{Accepted, tree, name_at, Item, Listed}
use Rattle.accepted.proofs.Laws.{none_left, block_entry}
use Rattle.accepted.proofs.Lists.{Left, starts, steps, ended}
use Rattle.resolved.specs.Resolved.{Owner, Head, ResolvedType, ResolvedTypeKind, Fields, ResolvedField, head, kind_of, fields}
use Rattle.resolved.specs.Set.{type_of, types_of, thing_of, fields_in}
use Rattle.ir.specs.Ir.{IrNode}
use Rattle.ir.specs.Layout.{node_tree}
use Rattle.builder.specs.Registry.{Registry, ◌>>=◌, need, give, refuse}
use Rattle.builder.specs.Nodes.{align_node, const_or_zero, build_field, build_variable_struct}
use Rattle.wire.specs.Poke.{Wrote}
use Rattle.wire.proofs.Laws.{parts, no_parts}
use Rattle.resolved_parts.specs.declared.TypeHead.{TypeHead}
use Rattle.resolved_parts.specs.declared.FieldParts.{FieldParts}
use Rattle.resolved_parts.specs.declared.ListParts.{ListParts}
use Rattle.resolved_parts.specs.Types.{HeadAt, FieldAt, FieldsAt, owners_of, offset_of}
use Rattle.builder_registry.specs.Words.{Indexed, entries_of}
use Rattle.builder_registry.proofs.Laws.{standing}
use Rattle.builder_nodes.specs.declared.Built.{Built}
use Rattle.builder_nodes.specs.Built.{Builds, node_start}
use Rattle.builder_nodes.proofs.Laws.{node_closed}
use Rattle.builder_structs.specs.declared.Rest.{Rest}
use Rattle.builder_structs.specs.declared.Run.{Run}
use Rattle.builder_structs.specs.Fold.{up_to, combine, summed}
use Rattle.builder_structs.specs.Next.{fields_of, pad_size, const_end, prefix_end, end_of, State, state_of, state_at, field_node, next_of, next, nodes_of, count_of}
use Rattle.builder_structs.specs.Field.{with_align}
use Rattle.builder_structs.specs.Ready.{ReadyNext, ReadySum, RanIn, Ran, Goes}
use Rattle.builder_structs.proofs.Fold.{sum_node, plus, more, summed_one, summed_at}
use Rattle.builder_structs.proofs.Next.{struct_is}
use Rattle.builder_structs.proofs.Field.{Opened, FieldLeft, aligned_closes}

-- ---- how many nodes a field makes

-- a field without padding makes one
pub one_node : {v : ℕ} (end : ℕ) (o : Option ℕ) → v ≡ pad_size end o → v ≡ 0 → 1 ≡ nodes_of end o 0
one_node end o e z = let h : pad_size end o ≤ 0 = omega arith in rw (le-ltb 0 (pad_size end o) h)

-- a field with padding makes two
pub two_nodes : {v : ℕ} (end : ℕ) (o : Option ℕ) → v ≡ pad_size end o → (v ≡ 0 → ⊥) → 2 ≡ nodes_of end o 0
two_nodes end o e z = let h : 0 < pad_size end o = omega arith in rw (lt-ltb 0 (pad_size end o) h)

-- ---- the end of the prefix

-- a field without an offset does not move it
pub end_unplaced : {s : List ℕ} {kind : ℕ} {offset : std.Option ℕ} (end : ℕ) → offset ≡ None → (a : Accepted s 1 7 kind) →
    Some end ≡ end_of (prefix_end end (offset_of offset) (head (type_of (tree a))).size)
unfolding prefix_end
end_unplaced end e a = rw e

module _ {s : List ℕ} {kind : ℕ} {h : TypeHead} (end : ℕ) (hd : (a : Accepted s 1 7 kind) → HeadAt a h) where
  -- the end of the prefix behind a field, as the code has it
  abbrev After : std.Option ℕ → std.Option ℕ → Type 0
  After offset v = (a : Accepted s 1 7 kind) → v ≡ end_of (prefix_end end (offset_of offset) (head (type_of (tree a))).size)

  -- a field of variable size does not move it
  pub end_variable : (place : ℕ) → h.size ≡ None → After (Some place) (Some end)
  unfolding prefix_end
  end_variable place e a = rw ((hd a).size, e)

  -- a constant field with an offset moves it behind itself, unless that is 2^64 or more
  pub end_const : (place : ℕ) {size : ℕ} {v : std.Option ℕ} → h.size ≡ Some size → SomeIff v (place + size < 2 ^ 64) (place + size) → After (Some place) v
  unfolding prefix_end
  end_const place {size} {v} e f a = rw ((hd a).size, e) (go v f)
    where
      go : (v : std.Option ℕ) → SomeIff v (place + size < 2 ^ 64) (place + size) → v ≡ end_of (const_end (place + size))
      go None f = let l : 2 ^ 64 ≤ place + size = omega (arith, f) in rw (le-ltb (place + size) (2 ^ 64) l)
      go (Some x) f = rw (lt-ltb (place + size) (2 ^ 64) f.0, f.1)

-- v is the end of the prefix behind a field
abbrev EndIs : List ℕ → FieldParts → ℕ → std.Option ℕ → Type 0
EndIs s f end v = (a : Accepted s 1 7 f.kind) → v ≡ end_of (prefix_end end (offset_of f.offset) (head (type_of (tree a))).size)

-- the end that the code gives is the definition's
ended_at : {o : Option ℕ} {n : ℕ} → Some n ≡ end_of o → o ≡ some n
ended_at {o = none} e = absurd (cc)
ended_at {o = some m} e = cc

-- where the code gives none, neither does the definition
ended_over : {o : Option ℕ} → None ≡ end_of o → o ≡ none
ended_over {o = none} e = refl
ended_over {o = some m} e = absurd (cc)

-- ---- the next node

-- r is what the next node leaves, where `left` fields are left from `field` on and the entries were g
abbrev NextLeft : (s xs : List ℕ) (at : ℕ) (us ys : List ℕ) (r : Result Run Reason) (references left field : ℕ) (g : Registry) (end : ℕ) (half : Bool) → Type 0
NextLeft s xs at us ys r references left field g end half =
    (t : Tree) (d : Accepted s 32 32 references) (l : Listed s 33 33 left field) → read_set s ≡ done t →
    Ran s xs at us ys r (next (types_of t) (owners_of (tree d)) (state_of g (fields_of l.got.0) end half))

module _ {s : List ℕ} {left field : ℕ} (h : 0 < left) where
  -- the next field is accepted
  pub field_here : Listed s 33 33 left field → Accepted s 33 33 field
  field_here l = (block_entry l h).child

  -- it stands inside the set
  pub field_inside : Listed s 33 33 left field → field + 4 + le4 s field ≤ length s
  field_inside l = omega (arith, (block_entry l h).after.inside, l.fits)

  -- behind it stand the others
  pub field_rest : {u : ℕ} → u ≡ le4 s field → Listed s 33 33 left field → Listed s 33 33 (left - 1) (field + 4 + u)
  field_rest e l = subst (λ (k : ℕ). Listed s 33 33 (left - 1) (field + 4 + k)) (sym e) (block_entry l h).after.rest

-- a field's node and the state behind it, where the prefix ends at n and these fields are left
abbrev node_of : ℕ → List ResolvedField → IrNode × Registry → Outcome (State × IrNode)
node_of n fs y = done (state_of y.1 fs n false, y.0)

module _ {s : List ℕ} {left field : ℕ} {f : FieldParts} (h : 0 < left) (fp : (a : Accepted s 33 33 field) → FieldAt a f) where
  -- the type of the field
  abbrev kind_at : Listed s 33 33 left field → Accepted s 1 7 f.kind
  kind_at l = (fp (block_entry l h).child).type

  -- the field
  abbrev field_at : Listed s 33 33 left field → ResolvedField
  field_at l = record { name = name_at s (field + 6); offset = offset_of f.offset; field_type = type_of (tree (kind_at l)) }

  -- the fields behind it
  abbrev rest_at : Listed s 33 33 left field → Listed s 33 33 (left - 1) (field + 4 + le4 s field)
  rest_at l = (block_entry l h).after.rest

  -- the fields that are left, by the first
  first_field : (l : Listed s 33 33 left field) → fields_of l.got.0 ≡ field_at l ∷ fields_of (rest_at l).got.0
  first_field l = ap fields_of (block_entry l h).after.tree ∙ (fp (block_entry l h).child).is (rest_at l).got.0

  module _ (types : List ResolvedType) (refs : List Owner) (g : Registry) (end : ℕ) where
    -- the next node, by the first field
    next_first : (l : Listed s 33 33 left field) (half : Bool) → next types refs (state_of g (fields_of l.got.0) end half) ≡ next_of types refs (field_at l ∷ fields_of (rest_at l).got.0) end half g
    next_first l half = ap (λ (fs : List ResolvedField). next_of types refs fs end half g) (first_field l)

    -- the next node, once the padding is made
    next_node : (l : Listed s 33 33 left field) → next types refs (state_of g (fields_of l.got.0) end true) ≡ field_node types refs (field_at l) (fields_of (rest_at l).got.0) end g
    unfolding next_of
    next_node l = next_first l true

    -- there is no padding
    pub next_same : {v : ℕ} → v ≡ pad_size end (offset_of f.offset) → v ≡ 0 → (l : Listed s 33 33 left field) →
        next types refs (state_of g (fields_of l.got.0) end false) ≡ next types refs (state_of g (fields_of l.got.0) end true)
    unfolding next_of
    next_same e z l =
        let p : pad_size end (offset_of f.offset) ≤ 0 = omega arith in
        next_first l false ∙ rw (le-ltb 0 (pad_size end (offset_of f.offset)) p) (sym (next_node l))

    -- there is padding: a constant
    next_pad : {v : ℕ} → v ≡ pad_size end (offset_of f.offset) → (v ≡ 0 → ⊥) → (l : Listed s 33 33 left field) →
        next types refs (state_of g (fields_of l.got.0) end false) ≡ done (state_of g (fields_of l.got.0) end true, const_or_zero v 1)
    unfolding next_of
    next_pad {v} e z l =
        let p : 0 < pad_size end (offset_of f.offset) = omega arith in
        next_first l false ∙ rw (lt-ltb 0 (pad_size end (offset_of f.offset)) p, first_field l, e)

    -- the end of the prefix is 2^64 or more: 16
    node_over : EndIs s f end None → (l : Listed s 33 33 left field) →
        next types refs (state_of g (fields_of l.got.0) end true) ≡ refused (plain 16)
    unfolding field_node ◌and_then◌ need refuse
    node_over pe l = let q : prefix_end end (offset_of f.offset) (head (type_of (tree (kind_at l)))).size ≡ none = ended_over (pe (kind_at l)) in next_node l ∙ rw q

    -- the field's node, and the state behind it
    node_at : {n : ℕ} → EndIs s f end (Some n) → (l : Listed s 33 33 left field) →
        next types refs (state_of g (fields_of l.got.0) end true) ≡
        ◌and_then◌ (build_field types refs (name_at s (field + 6)) (head (type_of (tree (kind_at l)))).size (head (type_of (tree (kind_at l)))) (kind_of (type_of (tree (kind_at l)))) g)
        (node_of n (fields_of (rest_at l).got.0))
    unfolding field_node ◌and_then◌ need give
    node_at {n} pe l = let q : prefix_end end (offset_of f.offset) (head (type_of (tree (kind_at l)))).size ≡ some n = ended_at (pe (kind_at l)) in next_node l ∙ rw q

  -- what the code leaves of it
  module _ {references : ℕ} (g : Registry) (end : ℕ) where
    -- the end of the prefix is too large
    pub over_left : {xs us ys : List ℕ} {at : ℕ} → EndIs s f end None → NextLeft s xs at us ys (Err reason.OffsetTooLarge) references left field g end true
    over_left pe t d l q = refuses (node_over (types_of t) (owners_of (tree d)) g end pe l)

    module _ {xs us zs : List ℕ} {at n : ℕ} (pe : EndIs s f end (Some n)) where
      -- the field was refused
      pub node_stopped : {vs ys : List ℕ} {e : Reason} → FieldLeft s xs at us zs (Err e) references (field + 6) f.kind g → NextLeft s xs at vs ys (Err e) references left field g end true
      node_stopped {vs} {ys} {e} b t d l q =
          rw (node_at (types_of t) (owners_of (tree d)) g end pe l)
          (passes (node_of n (fields_of (rest_at l).got.0)) (b t d (kind_at l) q))

      -- the field was built: the next is the one behind it
      pub node_left : {u : ℕ} {r : Built} → FieldLeft s xs at us zs (Ok r) references (field + 6) f.kind g → u ≡ le4 s field →
          NextLeft s xs at us zs (Ok (record { at = r.at; rest = record { count = r.count; field = field + 4 + u; left = left - 1; end = n; half = false } }))
          references left field g end true
      node_left {r} b eu t d l q =
          let fs = fields_of (rest_at l).got.0 in
          subst (λ (k : ℕ).
          Ran s xs at us zs (Ok (record { at = r.at; rest = record { count = r.count; field = field + 4 + k; left = left - 1; end = n; half = false } }))
          (next (types_of t) (owners_of (tree d)) (state_of g (fields_of l.got.0) end true))) (sym eu)
          (rw (node_at (types_of t) (owners_of (tree d)) g end pe l)
          (goes (node_of n fs) (b t d (kind_at l) q) (λ x m.
          AnswersIn.made _ (record {
            list = rest_at l;
            state = ap (λ (w : Registry). state_of w fs n false) (sym m.entries);
            index = m.index;
            wrote = m.wrote;
          }))))

-- ---- padding, or the field

-- no field is left
pub child_none : {s xs us ys : List ℕ} {at references left field : ℕ} (g : Registry) (end : ℕ) (half : Bool) → left ≡ 0 →
    NextLeft s xs at us ys (Err reason.MissingDynamicRefs) references left field g end half
unfolding next_of fields fields_in view
child_none g end half z t d l q =
    refuses (ap (λ (y : Tree × ℕ). next_of (types_of t) (owners_of (tree d)) (fields_of y.0) end half g) (none_left l (omega arith)))

module _ {s xs us ys : List ℕ} {at references left field : ℕ} {r : Result Run Reason} (g : Registry) (end : ℕ) (half : Bool)
    (k : NextLeft s xs at us ys r references left field g end true) where
  -- the padding is made: the field's node
  pub child_half : half ≡ true → NextLeft s xs at us ys r references left field g end half
  child_half e t d l q = subst (λ (b : Bool). Ran s xs at us ys r (next (types_of t) (owners_of (tree d)) (state_of g (fields_of l.got.0) end b))) (sym e) (k t d l q)

  -- there is no padding: the field's node
  pub child_plain : {f : FieldParts} {v : ℕ} → half ≡ false → 0 < left → ((a : Accepted s 33 33 field) → FieldAt a f) → v ≡ pad_size end (offset_of f.offset) → v ≡ 0 →
      NextLeft s xs at us ys r references left field g end half
  child_plain e h fp ev z t d l q =
      subst (λ (b : Bool). Ran s xs at us ys r (next (types_of t) (owners_of (tree d)) (state_of g (fields_of l.got.0) end b))) (sym e)
      (subst (Ran s xs at us ys r) (sym (next_same h fp (types_of t) (owners_of (tree d)) g end ev z l)) (k t d l q))

-- there is padding
pub child_pad : {s xs ws ys : List ℕ} {at u n references left field end v : ℕ} {half : Bool} {f : FieldParts} → Indexed s ws n → half ≡ false → 0 < left →
    ((a : Accepted s 33 33 field) → FieldAt a f) → v ≡ pad_size end (offset_of f.offset) → (v ≡ 0 → ⊥) →
    Wrote xs at (write (node_tree (const_or_zero v 1))) ys u →
    NextLeft s xs at ws ys (Ok (record { at = u; rest = record { count = n; field = field; left = left; end = end; half = true } })) references left field (entries_of s ws n) end half
child_pad {s} {xs} {ws} {ys} {at} {u} {n} {left} {field} {end} {v} x e h fp ev z w t d l q =
    subst (λ (b : Bool).
    Ran s xs at ws ys (Ok (record { at = u; rest = record { count = n; field = field; left = left; end = end; half = true } }))
    (next (types_of t) (owners_of (tree d)) (state_of (entries_of s ws n) (fields_of l.got.0) end b))) (sym e)
    (makes _ (next_pad h fp (types_of t) (owners_of (tree d)) (entries_of s ws n) end ev z l) (record { list = l; state = refl; index = x; wrote = w }))

-- ---- sums

-- the bytes of an Add
sum_puts : {xs x₁ x₂ x₃ ys : List ℕ} {at p u v q : ℕ} (a b : IrNode) → Wrote xs at (node_start 134 1) x₁ p → Wrote x₁ p (write (node_tree a)) x₂ u →
    Wrote x₂ u (write (node_tree b)) x₃ v → Wrote x₃ at (bytes 4 (v - at - 4)) ys q →
    Wrote xs at (write (node_tree (sum_node a b))) ys v
unfolding node_tree
sum_puts {x₃} {v} a b w₁ w₂ w₃ w₄ = node_closed 134 1 (cons (node_tree a) (cons (node_tree b) nil)) w₁ (parts (node_tree a) (cons (node_tree b) nil) w₂ (parts (node_tree b) nil w₃ (no_parts x₃ v))) w₄

-- of any way to make the next node
pub sum_one : {s xs us ys : List ℕ} {at k : ℕ} {r : Result Run Reason} (nx : State → Outcome (State × IrNode)) (st : State) → k ≡ 1 → Ran s xs at us ys r (nx st) → Ran s xs at us ys r (summed nx k st)
sum_one {s} {xs} {us} {ys} {at} {r} nx st z g = subst (Ran s xs at us ys r) (sym (ap (λ (k : ℕ). summed nx k st) z ∙ summed_one nx st)) g

module _ {k : ℕ} (nx : State → Outcome (State × IrNode)) (st : State) (h : 0 < k) (z : k ≡ 1 → ⊥) where
  -- the sum, by the sum of the first
  sum_is : summed nx k st ≡ ◌and_then◌ (summed nx (k - 1) st) (more nx)
  sum_is = summed_at nx k st (λ e. omega arith) z

  -- the sum of the first was refused
  pub sum_stops : {s xs x₁ x₂ us vs ys : List ℕ} {at p : ℕ} {e : Reason} → Ran s x₁ p us x₂ (Err e) (summed nx (k - 1) st) → Ran s xs at vs ys (Err e) (summed nx k st)
  sum_stops g = rw sum_is (passes (more nx) g)

  -- the sum of the first, then the last
  module _ {s x₁ x₂ x₃ us vs : List ℕ} {p : ℕ} {a : Run} (g : Ran s x₁ p us x₂ (Ok a) (summed nx (k - 1) st)) where
    -- the last, from the state behind the first
    last : {r : Result Run Reason} → ((l : Listed s 33 33 a.rest.left a.rest.field) → Ran s x₂ a.at vs x₃ r (nx (state_at s us a.rest l))) →
        (x : State × IrNode) → RanIn s x₁ p us x₂ a x → Ran s x₂ a.at vs x₃ r (nx x.0)
    last {r} f x m = subst (λ (c : State). Ran s x₂ a.at vs x₃ r (nx c)) (sym m.state) (f m.list)

    -- the last was refused
    pub sum_stops_last : {xs ws ys : List ℕ} {at : ℕ} {e : Reason} →
        ((l : Listed s 33 33 a.rest.left a.rest.field) → Ran s x₂ a.at vs x₃ (Err e) (nx (state_at s us a.rest l))) → Ran s xs at ws ys (Err e) (summed nx k st)
    sum_stops_last f = rw sum_is (goes (more nx) g (λ x m. passes (plus x) (last f x m)))

    -- both were made: the Add node is closed
    pub sum_done : {xs ys : List ℕ} {at q : ℕ} {r : Run} → ((l : Listed s 33 33 a.rest.left a.rest.field) → Ran s x₂ a.at vs x₃ (Ok r) (nx (state_at s us a.rest l))) →
        Wrote xs at (node_start 134 1) x₁ p → Wrote x₃ at (bytes 4 (r.at - at - 4)) ys q → Ran s xs at vs ys (Ok r) (summed nx k st)
    sum_done f w c =
        rw sum_is
        (goes (more nx) g (λ x m.
        goes (plus x) (last f x m) (λ o q. AnswersIn.made _
        (record { list = q.list; state = q.state; index = q.index; wrote = sum_puts x.1 o.1 w m.wrote q.wrote c }))))

-- where a sum was made, the words hold the index of the entries
pub ran_index : {s xs us ys : List ℕ} {at : ℕ} {r : Run} {o : Outcome (State × IrNode)} → Ran s xs at us ys (Ok r) o → Indexed s us r.rest.count
ran_index g = (answered g).2.index

-- an Add node begins with 15 bytes; behind them stands the sum of the first k - 1 nodes: what the last node stands on
pub last_ready : {s ws us : List ℕ} {at p references : ℕ} {from : Rest} (k : ℕ) {a : Run} → p ≡ at + 15 → 0 < k → Goes s p (2 ^ 29 * (k - 1)) a →
    ReadySum s ws references from k at → length us ≡ length ws → Indexed s us a.rest.count → ReadyNext s us references a.rest a.at
last_ready k e h x r l i = record {
  standing = standing r.standing l x.count i;
  set = r.set;
  refs = r.refs;
  list = x.list;
  cursor = omega (arith, x.high, r.room);
}

-- ---- the count

-- the nodes of the fields w are n, and those of the fields u behind this end of the prefix
pub record Counts (n end : ℕ) (w u : Tree) : Type 0 where
  pub is : count_of 0 (fields_of w) ≡ n + count_of end (fields_of u)

-- Of the fields from `field` on, `rest` are left, from `at` on; the others make n nodes, and the prefix ends at `end`.
abbrev pub Count : List ℕ → ℕ → ℕ → ℕ → ℕ → ℕ → ℕ → Type 0
Count s left field rest at end n = Left (Counts n end) s (Item.blocks 33 33) left field rest at

-- before the first field no node is counted
pub count_begin : {s : List ℕ} {left field : ℕ} → Listed s 33 33 left field → Count s left field left field 0 0
count_begin l = starts (λ t. record { is = omega arith }) l

-- a field's nodes, and those behind it
nodes_more : (end k : ℕ) (o : Option ℕ) → nodes_of end o k ≡ nodes_of end o 0 + k
nodes_more end k o = go (ltb 0 (pad_size end o))
  where
    go : (b : Bool) → cond b (suc (suc k)) (suc k) ≡ cond b 2 1 + k
    go true = omega arith
    go false = omega arith

module _ {s : List ℕ} {at k : ℕ} {f : FieldParts} (end : ℕ) (fp : (a : Accepted s 33 33 at) → FieldAt a f) (ek : k ≡ nodes_of end (offset_of f.offset) 0) where
  -- the field, its own nodes, and those of the fields u behind it
  count_one : (a : Accepted s 33 33 at) (u : Tree) (m : ℕ) {o : Option ℕ} →
      prefix_end end (offset_of f.offset) (head (type_of (tree (fp a).type))).size ≡ o → elim o [ none ↦ 0 | some e ↦ count_of e (fields_of u) ] ≡ m →
      count_of end (fields_of (cons (tree a) u)) ≡ k + m
  unfolding count_of
  count_one a u m e i =
      ap (count_of end) ((fp a).is u)
      ∙ ap (λ (o : Option ℕ). nodes_of end (offset_of f.offset) (elim o [ none ↦ 0 | some e ↦ count_of e (fields_of u) ])) e
      ∙ ap (nodes_of end (offset_of f.offset)) i ∙ nodes_more end m (offset_of f.offset) ∙ ap (λ (z : ℕ). z + m) (sym ek)

  -- a field's nodes are counted, and the next field is reached
  pub count_next : {left field rest n u m : ℕ} → EndIs s f end (Some m) → 0 < rest → u ≡ le4 s at → Count s left field rest at end n → Count s left field (rest - 1) (at + 4 + u) m (n + k)
  count_next {left} {field} {rest} {n} {u} {m} pe h eu c =
      subst (λ (j : ℕ). Count s left field (rest - 1) (at + 4 + j) m (n + k)) (sym eu)
      (steps (λ r. tree (block_entry r h).child) (λ r. (block_entry r h).after)
      (λ r w y q. record { is = let a = (block_entry r h).child in let i = count_one a y (count_of m (fields_of y)) (ended_at (pe (fp a).type)) refl in omega (arith, q.is, i) }) c)

  -- the end of the prefix is 2^64 or more: what is behind does not count
  pub count_over : {left field rest n : ℕ} → EndIs s f end None → 0 < rest → Count s left field rest at end n → (l : Listed s 33 33 left field) → n + k ≡ count_of 0 (fields_of l.got.0)
  count_over pe h c l =
      let w = c.whole l in
      let a = block_entry w.0 h in
      let i = count_one a.child a.after.rest.got.0 0 (ended_over (pe (fp a.child).type)) refl in
      omega (arith, w.1.is, i, ap (λ (t : Tree). count_of end (fields_of t)) a.after.tree)

-- no field is left: the count is the definition's
pub count_end : {s : List ℕ} {left field rest at n end : ℕ} → rest ≤ 0 → Count s left field rest at end n → (l : Listed s 33 33 left field) → n ≡ count_of 0 (fields_of l.got.0)
unfolding count_of fields fields_in view
count_end h c l = let e = (ended h c l).0.is in omega (arith, e)

-- ---- the struct

-- the node, and the registry behind it
abbrev node_out : State × IrNode → Outcome (IrNode × Registry)
node_out y = done (y.1, y.0.registry)

-- what was built of a sum of nodes, without the fields that are left
ran_built : {s xs us ys : List ℕ} {at : ℕ} {r : Run} {x : Outcome (State × IrNode)} → Ran s xs at us ys (Ok r) x →
    Builds s xs at us ys (Ok (record { at = r.at; count = r.rest.count })) (◌and_then◌ x node_out)
ran_built b = goes node_out b (λ y m. AnswersIn.made _ (record { entries = ap (λ (c : State). c.registry) (sym m.state); index = m.index; wrote = m.wrote }))

-- that node, aligned
up_is : (a : ℕ) (g : Registry) (x : Outcome (State × IrNode)) → ◌and_then◌ x (λ y. done (align_node y.1 a, y.0.registry)) ≡ with_align a (λ _. ◌and_then◌ x node_out) g
unfolding with_align ◌>>=◌ ◌and_then◌ give
up_is a g (done y) = refl
up_is a g (refused q) = refl

-- a struct has one list of fields
same_fields : {z : ResolvedTypeKind} {fs gs : Fields} → z ≡ ResolvedTypeKind.Struct fs → z ≡ ResolvedTypeKind.Struct gs → fs ≡ gs
same_fields e j = cc

module _ {s : List ℕ} {kind k : ℕ} {h : TypeHead} {f : ListParts} (g : Registry) (ek : le2 s (kind + 4) ≡ 2)
    (hd : (a : Accepted s 1 7 kind) → HeadAt a h) (fl : (a : Accepted s 1 7 kind) → FieldsAt a f)
    (ck : (l : Listed s 33 33 f.count f.first) → k ≡ count_of 0 (fields_of l.got.0)) where
  -- the struct's node, by the sum
  abbrev up : ℕ → State × IrNode → Outcome (IrNode × Registry)
  up a y = done (align_node y.1 a, y.0.registry)

  -- the struct's node is the sum of the nodes that the code counts, aligned
  whole_is : (types : List ResolvedType) (a : Accepted s 1 7 kind) {fs : Fields} → kind_of (type_of (tree a)) ≡ ResolvedTypeKind.Struct fs →
      build_variable_struct types (head (type_of (tree a))) fs g ≡
      ◌and_then◌ (summed (next types (owners_of (tree (hd a).references))) k (state_of g (fields_of (fl a).list.got.0) 0 false)) (up h.alignment)
  whole_is types a {fs} e =
      let H : Head = head (type_of (tree a)) in
      let F : Fields = fields_in (view thing_of (fl a).list.got.0) in
      let j : kind_of (type_of (tree a)) ≡ ResolvedTypeKind.Struct F = (fl a).struct ek in
      let i : fs ≡ F = same_fields e j in
      ap (λ (z : Fields). build_variable_struct types H z g) i ∙ struct_is types H F g
      ∙ ap (λ (os : List Owner). ◌and_then◌ (summed (next types os) (count_of 0 (fields F)) (state_of g (fields F) 0 false)) (up H.alignment)) (hd a).owners
      ∙ ap (λ (n : ℕ). ◌and_then◌ (summed (next types (owners_of (tree (hd a).references))) n (state_of g (fields F) 0 false)) (up H.alignment)) (sym (ck (fl a).list))
      ∙ ap (λ (m : ℕ). ◌and_then◌ (summed (next types (owners_of (tree (hd a).references))) k (state_of g (fields F) 0 false)) (up m)) (hd a).alignment

  -- there is no node
  pub struct_none : {xs us ys : List ℕ} {at : ℕ} → k ≡ 0 → (t : Tree) (a : Accepted s 1 7 kind) (fs : Fields) → read_set s ≡ done t → kind_of (type_of (tree a)) ≡ ResolvedTypeKind.Struct fs →
      Builds s xs at us ys (Err reason.MissingDynamicRefs) (build_variable_struct (types_of t) (head (type_of (tree a))) fs g)
  unfolding summed up_to combine ◌and_then◌
  struct_none z t a fs q e =
      refuses
      (whole_is (types_of t) a e
      ∙ ap (λ (n : ℕ). ◌and_then◌ (summed (next (types_of t) (owners_of (tree (hd a).references))) n (state_of g (fields_of (fl a).list.got.0) 0 false)) (up h.alignment)) z)

  -- what the sum leaves
  abbrev SumLeft : (us x₁ : List ℕ) (p : ℕ) (x₂ : List ℕ) (r : Result Run Reason) → Type 0
  SumLeft us x₁ p x₂ r =
      (t : Tree) (d : Accepted s 32 32 h.references) (l : Listed s 33 33 f.count f.first) → read_set s ≡ done t →
      Ran s x₁ p us x₂ r (summed (next (types_of t) (owners_of (tree d))) k (state_of g (fields_of l.got.0) 0 false))

  -- what the struct leaves
  abbrev StructLeft : (xs : List ℕ) (at : ℕ) (us ys : List ℕ) (r : Result Built Reason) → Type 0
  StructLeft xs at us ys r =
      (t : Tree) (a : Accepted s 1 7 kind) (fs : Fields) → read_set s ≡ done t → kind_of (type_of (tree a)) ≡ ResolvedTypeKind.Struct fs →
      Builds s xs at us ys r (build_variable_struct (types_of t) (head (type_of (tree a))) fs g)

  -- the sum was refused
  pub struct_stops : {us xs x₁ x₂ vs ys : List ℕ} {at p : ℕ} {e : Reason} → SumLeft us x₁ p x₂ (Err e) → StructLeft xs at vs ys (Err e)
  struct_stops sm t a fs q e = rw (whole_is (types_of t) a e) (passes (up h.alignment) (sm t (hd a).references (fl a).list q))

  -- it was built, and aligned
  pub struct_built : {us xs x₁ x₂ ys : List ℕ} {at p c : ℕ} {r : Run} → SumLeft us x₁ p x₂ (Ok r) → Opened xs at h x₁ p →
      Wrote x₂ at (bytes 4 (r.at - at - 4)) ys c → StructLeft xs at us ys (Ok (record { at = r.at; count = r.rest.count }))
  struct_built sm w c t a fs q e =
      let o = summed (next (types_of t) (owners_of (tree (hd a).references))) k (state_of g (fields_of (fl a).list.got.0) 0 false) in
      rw (whole_is (types_of t) a e, up_is h.alignment g o)
      (aligned_closes h.alignment (λ _. ◌and_then◌ o node_out) g w (ran_built (sm t (hd a).references (fl a).list q)) c)
