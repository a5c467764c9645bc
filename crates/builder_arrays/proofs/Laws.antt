-- What the code of arrays leaves, place by place. Assumes nothing.
use Rattle.std.specs.Prelude.{Option, Some, None, is_some, is_none, Result, Ok, Err}
use mathlib.Core.Path.{◌≡◌, refl, sym, ◌∙◌, ap}
use mathlib.Core.Bool.{Bool, true, false, not, ◌&&◌}
use mathlib.Core.List.{List, ◌++◌}
use Prim.Native.Nat.{ℕ, ◌+◌, ◌*◌, ◌^◌, ◌≤◌, ◌<◌}
use native.Mathlib.Omega.{arith}
use lib.ListN.{length}
use Rattle.errors.specs.Refusal.{Outcome, UnsupportedArrayElement}
use Rattle.errors.specs.declared.Reason.{Reason}
use Rattle.errors.specs.declared.Reason.TheVariants as reason
use Rattle.answers.specs.Answers.{AnswersIn}
use Rattle.answers.proofs.Laws.{refuses, makes}
use Rattle.blocks.specs.Bytes.{le2, le4}
use Rattle.blocks.specs.Name.{Name}
use Rattle.blocks.specs.Tree.{name, nil, cons}
use Rattle.blocks.specs.Write.{write}
use Rattle.accepted.specs.Accepted.{Accepted, tree, name_at}
use Rattle.expr.specs.Expr.{ExprKind, expr_of}
use Rattle.resolved.specs.Resolved.{Owner, Size, Head, head, kind_of, target_of}
use Rattle.resolved.specs.Set.{type_of}
use Rattle.resolved_parts.specs.Types.{HeadAt, ArrayAt, TargetAt, sized, owners_of}
use Rattle.resolved_parts.specs.declared.TypeHead.{TypeHead}
use Rattle.resolved_parts.specs.declared.ArrayParts.{ArrayParts}
use Rattle.ir.specs.Ir.{BinaryOp, IrNode, aligned, unplaced}
use Rattle.ir.specs.Layout.{node_tree}
use Rattle.ir_nodes.specs.Codes.{code_at}
use Rattle.builder.specs.Registry.{Registry, Build, ◌>>=◌, give, extend_with}
use Rattle.builder.specs.Nodes.{align_node, product, is_variable, build_expr_ir, sum_over_array, build_array_node_with_prefix}
use Rattle.builder.proofs.Steps.{need_some, need_none}
use Rattle.wire.specs.Poke.{Wrote}
use Rattle.wire.proofs.Laws.{parts, no_parts}
use Rattle.builder_registry.specs.Words.{Kept, Indexed, entries_of}
use Rattle.builder_registry.proofs.Laws.{standing}
use Rattle.builder_paths.specs.Joined.{prefix_of}
use Rattle.builder_nodes.specs.declared.Built.{Built}
use Rattle.builder_nodes.specs.Built.{Builds, Within, text_flag}
use Rattle.builder_nodes.proofs.Laws.{node_closed, align_closed, builds_index, step_passes, step_goes, widened}
use Rattle.builder_nodes.proofs.Parts.{sum_element, sum_field}
use Rattle.builder_expressions.specs.Ready.{Ready as ReadyCount}
use Rattle.builder_expressions.proofs.Laws.{two_written}
use Rattle.builder_arrays.specs.declared.Shape.{Shape}
use Rattle.builder_arrays.specs.Ready.{ReadyInside}
use Rattle.builder_arrays.specs.Array.{Opened, counted, summed, Closed}
use Rattle.builder_arrays.specs.Shapes.{ShapeAt}
use Rattle.builder_arrays.proofs.Steps.{element_of, array_sums, array_multiplies, element_constant, element_inside, element_refused, deeper, is_array, not_target, not_array}

-- ---- the shape of an array

-- the shape that the code reads says what the array and its element are
pub shaped : {s : List ℕ} {at : ℕ} {a : Accepted s 1 7 at} {h e : TypeHead} {p : ArrayParts} {b : Bool} (depth : ℕ) → HeadAt a h →
    (q : ArrayAt a p) → HeadAt q.element e → b ≡ (p.jagged && is_none e.size) →
    ShapeAt a depth (record {
      depth = depth;
      sums = b;
      alignment = h.alignment;
      size = p.size;
      element = p.element;
      constant = e.size;
      inner = e.alignment;
      references = e.references;
    })
shaped {p} depth h q i x =
    record {
      inside = refl;
      element = q.element;
      size = q.size;
      references = i.references;
      room = q.room;
      jagged = p.jagged;
      is = q.is;
      sums = x;
      alignment = h.alignment;
      inner_size = i.size;
      inner_alignment = i.alignment;
      owners = i.owners;
    }

-- the code's answer whether there is no constant size
pub none_as : (v : Option ℕ) {b : Bool} → is_some v ≡ not b → b ≡ is_none v
none_as v {b = true} e = rw e
none_as v {b = false} e = rw e

-- an element has no constant size where its size is variable
variable_as : (v : Option ℕ) → is_variable (sized v) ≡ is_none v
variable_as None = refl
variable_as (Some v) = refl

-- ---- the beginning of an array

module _ {s xs ws y₁ us : List ℕ} {at : ℕ} (owner prefix : Name) (x : ExprKind) (os : List Owner) (g : Registry) where
  -- the count was refused
  pub count_stops : {ys : List ℕ} {e : Reason} → Builds s xs at ws y₁ (Err e) (build_expr_ir owner prefix x g) → Builds s xs at us ys (Err e) (counted owner prefix x os g)
  unfolding counted
  count_stops b = step_passes _ _ g b

  -- the count was built, and the element's references were refused
  pub enter_stops : {ys : List ℕ} {c : Built} {e : Reason} → Builds s xs at ws y₁ (Ok c) (build_expr_ir owner prefix x g) → Kept s us (Err e) (extend_with os (entries_of s ws c.count)) →
      Builds s xs at us ys (Err e) (counted owner prefix x os g)
  unfolding counted give
  enter_stops b h = step_goes _ _ g b (λ y m. step_passes (extend_with os) (λ _. give y.0) y.1 (rw m.entries at h))

  -- the count was built, and the element's references entered
  pub count_goes : {c : Built} {k : ℕ} → Builds s xs at ws y₁ (Ok c) (build_expr_ir owner prefix x g) → Kept s us (Ok k) (extend_with os (entries_of s ws c.count)) →
      Builds s xs at us y₁ (Ok (record { at = c.at; count = k })) (counted owner prefix x os g)
  unfolding counted give
  count_goes b h =
      step_goes _ _ g b (λ y m. step_goes (extend_with os) (λ _. give y.0) y.1 (rw m.entries at h)
      (λ x e. AnswersIn.made _ (record { entries = e.entries; index = e.index; wrote = m.wrote })))

-- ---- the end of an array

module _ {xs y₀ y₁ : List ℕ} {at alignment q u : ℕ} (h : Head) (count : IrNode) (e : h.alignment ≡ alignment) (w : Wrote y₀ q (write (node_tree count)) y₁ u) where
  -- the bytes of count times element, inside an AlignUp node
  product_written : {y₂ ys : List ℕ} {v : ℕ} (element : IrNode) → Opened xs at 136 alignment y₀ q → Wrote y₁ u (write (node_tree element)) y₂ v → Closed y₂ at v ys →
      Wrote xs at (write (node_tree (product h count element))) ys v
  unfolding node_tree
  product_written element o f c =
      rw e
      (align_closed alignment (IrNode.Binary unplaced (aligned alignment) BinaryOp.MulChecked count element) o.align
      (two_written 136 alignment (node_tree count) (node_tree element) o.node w f c.one) c.two)

  -- the bytes of a sum over an array
  sum_written : {y₂ y₃ ys : List ℕ} {v x : ℕ} (t owner : Name) → Opened xs at 144 alignment y₀ q → Wrote y₁ u (text_flag true (code_at 144 3) ++ write (name t)) y₂ v →
      Wrote y₂ v (text_flag true (code_at 144 4) ++ write (name owner)) y₃ x → Closed y₃ at x ys →
      Wrote xs at (write (node_tree (align_node (IrNode.SumOverArray unplaced (aligned h.alignment) count t owner) h.alignment))) ys x
  unfolding node_tree
  sum_written {y₃} {x} t owner o f g c =
      rw e
      (align_closed alignment (IrNode.SumOverArray unplaced (aligned alignment) count t owner) o.align
      (node_closed 144 alignment (cons (node_tree count) (cons (name t) (cons (name owner) nil))) o.node
      (parts (node_tree count) (cons (name t) (cons (name owner) nil)) w
      (parts (name t) (cons (name owner) nil) (sum_element t f) (parts (name owner) nil (sum_field owner g) (no_parts y₃ x)))) c.one) c.two)

-- count times element, as the definition goes on
abbrev Multiplied : Head → Build IrNode → Build IrNode → Registry → Outcome (IrNode × Registry)
Multiplied h m e g = (m >>= (λ count. e >>= (λ element. give (product h count element)))) g

-- the count m was built
module _ {s xs y₀ ws y₁ : List ℕ} {at alignment q : ℕ} {c : Built} (h : Head) (m e : Build IrNode) (g : Registry) (d : h.alignment ≡ alignment)
    (o : Opened xs at 136 alignment y₀ q) (i : Builds s y₀ q ws y₁ (Ok c) (m g)) where
  -- the element was built behind it, and the array closed
  multiplies : {us y₂ ys : List ℕ} {b : Built} → ((k : Registry) → entries_of s ws c.count ≡ k → Builds s y₁ c.at us y₂ (Ok b) (e k)) →
      Closed y₂ at b.at ys → Builds s xs at us ys (Ok b) (Multiplied h m e g)
  unfolding give
  multiplies f t =
      step_goes m _ g i (λ x v. step_goes e _ x.1 (f x.1 v.entries)
      (λ y w. AnswersIn.made _ (record {
        entries = w.entries;
        index = w.index;
        wrote = product_written h x.0 d v.wrote y.0 o w.wrote t;
      })))

  -- the element was refused
  multiplies_not : {us y₂ ys : List ℕ} {b : Reason} → ((k : Registry) → entries_of s ws c.count ≡ k → Builds s y₁ c.at us y₂ (Err b) (e k)) →
      Builds s xs at us ys (Err b) (Multiplied h m e g)
  multiplies_not f = step_goes m _ g i (λ x v. step_passes e _ x.1 (f x.1 v.entries))

-- ---- an array by its shape

-- what building an array leaves, where the entries were g
abbrev pub Leaves : (s xs : List ℕ) (at : ℕ) (us ys : List ℕ) (r : Result Built Reason) (owner : Name) (depth array : ℕ) (g : Registry) → Type 0
Leaves s xs at us ys r owner depth array g = (a : Accepted s 1 7 array) → Builds s xs at us ys r (build_array_node_with_prefix owner (prefix_of depth) (type_of (tree a)) g)

-- what sum_over_array leaves
abbrev SumLeft : (s xs : List ℕ) (at : ℕ) (us ys : List ℕ) (r : Result Built Reason) (owner : Name) (depth alignment size element : ℕ) (g : Registry) → Type 0
SumLeft s xs at us ys r owner depth alignment size element g =
    (e : Accepted s 64 91 size) (t : Accepted s 1 7 element) (h : Head) → h.alignment ≡ alignment →
    Builds s xs at us ys r (summed h owner (prefix_of depth) (expr_of (tree e)) (kind_of (type_of (tree t))) g)

-- what build_counted leaves
abbrev Counts : (s xs : List ℕ) (at : ℕ) (us ys : List ℕ) (r : Result Built Reason) (owner : Name) (p : Shape) (g : Registry) → Type 0
Counts s xs at us ys r owner p g =
    (e : Accepted s 64 91 p.size) (f : Accepted s 32 32 p.references) →
    Builds s xs at us ys r (counted owner (prefix_of p.depth) (expr_of (tree e)) (owners_of (tree f)) g)

module _ {s : List ℕ} {array : ℕ} {p : Shape} (owner : Name) (depth : ℕ) (g : Registry) (sh : (a : Accepted s 1 7 array) → ShapeAt a depth p) where
  -- whether a jagged array sums over its elements, as the code has it
  sums_as : (a : Accepted s 1 7 array) → ((sh a).jagged && is_variable (head (type_of (tree (sh a).element))).size) ≡ p.sums
  sums_as a = rw ((sh a).inner_size, variable_as p.constant) (sym (sh a).sums)

  -- a jagged array of variable elements is what `sum_over_array` leaves
  pub sums_leave : {xs us ys : List ℕ} {at : ℕ} {r : Result Built Reason} → p.sums ≡ true →
      SumLeft s xs at us ys r owner p.depth p.alignment p.size p.element g → Leaves s xs at us ys r owner depth array g
  sums_leave t b a =
      let q = sh a in
      rw (← q.inside, array_sums owner (prefix_of p.depth) (type_of (tree a)) _ _ _ g q.is (sums_as a ∙ t)) (b q.size q.element (head (type_of (tree a))) q.alignment)

  -- the element as it is built inside
  abbrev element_at : (a : Accepted s 1 7 array) → Build IrNode
  element_at a = element_of owner (prefix_of depth) (type_of (tree (sh a).element))

  -- the count, with the element's references entered
  abbrev count_at : (a : Accepted s 1 7 array) → Build IrNode
  count_at a = counted owner (prefix_of depth) (expr_of (tree (sh a).size)) (head (type_of (tree (sh a).element))).dynamic_params

  -- every other array multiplies its count with its element
  multiplied : p.sums ≡ false → (a : Accepted s 1 7 array) →
      build_array_node_with_prefix owner (prefix_of depth) (type_of (tree a)) g ≡ Multiplied (head (type_of (tree a))) (count_at a) (element_at a) g
  multiplied t a = array_multiplies owner (prefix_of depth) (type_of (tree a)) _ _ _ g (sh a).is (sums_as a ∙ t)

  module _ {xs y₀ ws y₁ : List ℕ} {at q : ℕ} (t : p.sums ≡ false) (o : Opened xs at 136 p.alignment y₀ q) where
    -- the count that the code built is the definition's
    counts : {r : Result Built Reason} → Counts s y₀ q ws y₁ r owner p g → (a : Accepted s 1 7 array) → Builds s y₀ q ws y₁ r (count_at a g)
    counts k a = rw ((sh a).owners, ← (sh a).inside) (k (sh a).size (sh a).references)

    -- the count, or the references, were refused
    pub counted_stops : {us ys : List ℕ} {e : Reason} → Counts s y₀ q ws y₁ (Err e) owner p g → Leaves s xs at us ys (Err e) owner depth array g
    counted_stops k a = rw (multiplied t a) (step_passes (count_at a) _ g (counts k a))

    module _ {c : Built} (k : Counts s y₀ q ws y₁ (Ok c) owner p g) where
      -- an element of variable size that is no array
      pub element_stops : {us ys : List ℕ} → p.constant ≡ None → (le2 s (p.element + 4) ≡ 5 → ⊥) →
          Leaves s xs at us ys (Err reason.UnsupportedArrayElement) owner depth array g
      element_stops {ys} e f a =
          let q = sh a in
          rw (multiplied t a)
          (multiplies_not (head (type_of (tree a))) (count_at a) (element_at a) g q.alignment o (counts k a) {y₂ = ys}
          (λ j _. refuses (element_refused _ _ _ j (q.inner_size ∙ rw e) (not_array q.element f))))

      module _ {us y₂ : List ℕ} {r : Result Built Reason} (e : p.constant ≡ None) (f : le2 s (p.element + 4) ≡ 5)
          (w : Leaves s y₁ c.at us y₂ r owner (p.depth + 1) p.element (entries_of s ws c.count)) where
        -- an element that is an array is built one array deeper
        deeper_at : (a : Accepted s 1 7 array) (j : Registry) → entries_of s ws c.count ≡ j → Builds s y₁ c.at us y₂ r (element_at a j)
        deeper_at a j i =
            let q = sh a in
            let x : element_at a j ≡ build_array_node_with_prefix owner (prefix_of (p.depth + 1)) (type_of (tree q.element)) j =
            rw (q.inside, deeper depth) (element_inside _ _ _ j (q.inner_size ∙ rw e) (is_array q.element f).1) in
            rw (x, ← i) (w q.element)

        -- it was refused
        pub nested_stops : {ys : List ℕ} {b : Reason} → r ≡ Err b → Leaves s xs at us ys (Err b) owner depth array g
        nested_stops u a =
            rw (multiplied t a)
            (multiplies_not (head (type_of (tree a))) (count_at a) (element_at a) g (sh a).alignment o (counts k a) {y₂ = y₂} (λ j i. rw (← u) (deeper_at a j i)))

        -- it was built, and the array closed
        pub nested_goes : {ys : List ℕ} {b : Built} → r ≡ Ok b → Closed y₂ at b.at ys → Leaves s xs at us ys (Ok b) owner depth array g
        nested_goes u h a =
            rw (multiplied t a)
            (multiplies (head (type_of (tree a))) (count_at a) (element_at a) g (sh a).alignment o (counts k a) (λ j i. rw (← u) (deeper_at a j i)) h)

      -- an element of constant size, and the array closed
      pub element_made : {y₂ ys : List ℕ} {v u : ℕ} → p.constant ≡ Some v →
          Wrote y₁ c.at (write (node_tree (IrNode.Const unplaced (aligned p.inner) v))) y₂ u → Closed y₂ at u ys →
          Leaves s xs at ws ys (Ok (record { at = u; count = c.count })) owner depth array g
      element_made {v} e w h a =
          let q = sh a in
          let d : (head (type_of (tree q.element))).size ≡ Size.Const v = q.inner_size ∙ rw e in
          rw (multiplied t a)
          (multiplies (head (type_of (tree a))) (count_at a) (element_at a) g q.alignment o (counts k a)
          (λ j i. makes _ (element_constant _ _ _ j d ∙ rw q.inner_alignment) (record { entries = i; index = builds_index (counts k a); wrote = w })) h)

-- ---- a sum over an array

module _ {s xs y₀ ws y₁ : List ℕ} {at q : ℕ} (owner : Name) (depth : ℕ) {alignment size element : ℕ} (g : Registry) (o : Opened xs at 144 alignment y₀ q) where
  -- the count was refused
  pub sum_count_stops : {us ys : List ℕ} {b : Reason} →
      ((e : Accepted s 64 91 size) → Builds s y₀ q ws y₁ (Err b) (build_expr_ir owner (prefix_of depth) (expr_of (tree e)) g)) → SumLeft s xs at us ys (Err b) owner depth alignment size element g
  unfolding summed
  sum_count_stops k e t h d = step_passes _ _ g (k e)

  module _ {c : Built} (k : (e : Accepted s 64 91 size) → Builds s y₀ q ws y₁ (Ok c) (build_expr_ir owner (prefix_of depth) (expr_of (tree e)) g)) where
    -- an element that is no type reference
    pub sum_element_stops : {us ys : List ℕ} → (le2 s (element + 4) ≡ 7 → ⊥) →
        SumLeft s xs at us ys (Err reason.UnsupportedArrayElement) owner depth alignment size element g
    unfolding summed sum_over_array
    sum_element_stops y e t h d = step_goes _ _ g (k e) (λ n m. refuses (need_none UnsupportedArrayElement _ n.1 (not_target t y)))

    -- the names of the called type and of the owner stand behind the count
    pub sum_made : {y₂ y₃ ys : List ℕ} {v w j : ℕ} {n : Name} → ((t : Accepted s 1 7 element) → TargetAt t j) → n ≡ name_at s j →
        Wrote y₁ c.at (text_flag true (code_at 144 3) ++ write (name n)) y₂ v → Wrote y₂ v (text_flag true (code_at 144 4) ++ write (name owner)) y₃ w → Closed y₃ at w ys →
        SumLeft s xs at ws ys (Ok (record { at = w; count = c.count })) owner depth alignment size element g
    unfolding summed sum_over_array give
    sum_made x y a b f e t h d =
        step_goes _ _ g (k e) (λ n m. makes _ (need_some UnsupportedArrayElement _ n.1 (ap target_of (x t).is))
        (record { entries = m.entries; index = m.index; wrote = sum_written h n.0 d m.wrote _ owner o (rw y at a) b f }))

-- where a sum ends: the two nodes' heads, the count, and two names
pub sum_ends : {at q u v i j room : ℕ} {c : Built} → q ≡ at + 38 → Within q room c → (c.at ≤ u) × (u ≤ c.at + 3 + i) → (u ≤ v) × (v ≤ u + 3 + j) →
    i ≤ 255 → j ≤ 255 → (at + 38 ≤ v) × Within at (2048 + room) (record { at = v; count = c.count })
sum_ends e w f g h k =
    (omega (arith, w.low), record { low = omega (arith, w.low); high = omega (arith, w.high); count = w.count })

-- ---- what calls stand on

-- the count, where the two nodes end
pub count_at_lem : {s ws : List ℕ} {n depth size at q : ℕ} {owner : Name} → q ≡ at → ReadyCount s ws n owner depth size at → ReadyCount s ws n owner depth size q
count_at_lem e r = rw e r

module _ {s ws : List ℕ} {n depth array at : ℕ} {owner : Name} {p : Shape} (r : ReadyInside s ws n owner depth array at) (q : ShapeAt r.ready.type depth p) where
  -- what the count stands on
  pub count_ready : ReadyCount s ws n owner p.depth p.size (at + 38)
  count_ready =
      record {
        standing = r.ready.standing;
        owned = r.owned;
        deep = omega (arith, r.deep, q.inside);
        expression = q.size;
        cursor = omega (arith, r.ready.cursor, q.room);
      }

  -- a sum is as short as an array may be
  pub sum_within : {b : Built} → Within at (2048 + 1024 * (4 + le4 s p.size)) b → Within at (1024 * (4 + le4 s array)) b
  sum_within w = widened (omega (arith, q.room)) w

  module _ {u : ℕ} {c : Built} (e : u ≡ at + 38) (w : Within u (1024 * (4 + le4 s p.size)) c) where
    -- what an array inside this one stands on: it is shorter, and one array deeper
    pub nested_ready : {us : List ℕ} → length us ≡ length ws → Indexed s us c.count → le2 s (p.element + 4) ≡ 5 →
        ReadyInside s us c.count owner (p.depth + 1) p.element c.at
    nested_ready l x k =
        record {
          ready = record {
            standing = standing r.ready.standing l w.count x;
            type = q.element;
            kind = k;
            cursor = omega (arith, r.ready.cursor, q.room, w.high);
          };
          owned = r.owned;
          deep = omega (arith, r.deep, q.room, q.inside);
        }

    -- a constant has room behind the count
    pub constant_cursor : c.at < 2 ^ 60
    constant_cursor = omega (arith, r.ready.cursor, q.room, w.high)

    module _ {b : Built} (v : Within c.at (1024 * (4 + le4 s p.element)) b) where
      -- what closing the array stands on
      pub close_ready : (at + 38 ≤ b.at) × (b.at < 2 ^ 61)
      close_ready = (omega (arith, w.low, v.low), omega (arith, r.ready.cursor, q.room, w.high, v.high))

      -- a closed array is as short as an array may be
      pub close_within : Within at (1024 * (4 + le4 s array)) b
      close_within = record { low = omega (arith, w.low, v.low); high = omega (arith, q.room, w.high, v.high); count = v.count }
