-- Nodes written part by part, each as the table of the node kinds says. Assumes nothing.
use mathlib.Core.Path.{◌≡◌, refl, sym, ◌∙◌, subst}
use mathlib.Core.Bool.{Bool, true, false, cond}
use mathlib.Core.List.{List, ◌++◌}
use Rattle.std.proofs.Common.{◌⊎◌, inl, inr}
use mathlib.Core.Option.{some, none}
use Prim.Native.Nat.{ℕ, ◌+◌, ◌-◌, ◌≤◌}
use native.Mathlib.Omega.{arith}
use lib.ListN.{length, length-append}
use borrow.Author.Tests.{le-leb, eq-eqb, ne_eqb}
use Rattle.blocks.specs.Bytes.{bytes}
use Rattle.blocks.specs.declared.Part.TheVariants.{Text, Number, OptText}
use Rattle.blocks.specs.Name.{Name, ascii}
use Rattle.blocks.specs.Grammar.{parts_of, node_table}
use Rattle.blocks.specs.Tree.{Tree, name, num, nil, cons}
use Rattle.blocks.specs.Write.{write}
use Rattle.ir.specs.Ir.{IrNode, aligned, default_alignment, default_metadata, unplaced}
use Rattle.ir_nodes.specs.Codes.{code_of, code_at}
use Rattle.ir.specs.Layout.{node_tree, optional_tree}
use Rattle.builder.specs.Nodes.{const_or_zero, ref_text, buffer_size}
use Rattle.wire.specs.Poke.{Wrote, opened}
use Rattle.wire.proofs.Laws.{none as nothing, both, parts, no_parts, closed, bytes_length}
use Rattle.builder_nodes.specs.Built.{node_start, number_part, text_flag, count_part, no_node, cases, arguments, optional_node}
use Rattle.builder_nodes.proofs.Laws.{node_closed, align_closed, start_at}

-- ---- one part, by its code in the table

module _ {xs ys : List ℕ} {at r code c : ℕ} (e : c ≡ code) where
  -- a number part is written where the table has one
  pub number_there : (v : ℕ) → c ≡ code_of Number → Wrote xs at (bytes 8 v) ys r → Wrote xs at (number_part code v) ys r
  unfolding number_part write
  number_there v h f = rw (eq-eqb code (code_of Number) (sym e ∙ h)) f

  -- the flag of a text where the table has an optional text
  pub flag_there : (b : Bool) → c ≡ code_of OptText → Wrote xs at (write (num 1 (cond b 1 0))) ys r → Wrote xs at (text_flag b code) ys r
  unfolding text_flag
  flag_there b h f = rw (eq-eqb code (code_of OptText) (sym e ∙ h)) f

  -- a count where it has cases or arguments
  pub count_there : (n : ℕ) → (c ≡ code_of cases) ⊎ ((c ≡ code_of cases → ⊥) × (c ≡ code_of arguments)) → Wrote xs at (bytes 2 n) ys r →
      Wrote xs at (count_part code n) ys r
  unfolding count_part write
  count_there n (inl h) f = rw (eq-eqb code (code_of cases) (sym e ∙ h)) f
  count_there n (inr h) f = rw (ne_eqb code (code_of cases) (λ q. h.0 (e ∙ q)), eq-eqb code (code_of arguments) (sym e ∙ h.1)) f

  -- the flag 0 where it has an optional node
  pub no_node_there : c ≡ code_of optional_node → Wrote xs at (write (num 1 0)) ys r → Wrote xs at (no_node code) ys r
  unfolding no_node
  no_node_there h f = rw (eq-eqb code (code_of optional_node) (sym e ∙ h)) f

module _ {xs : List ℕ} {at code c : ℕ} (e : c ≡ code) where
  -- nothing is written where the table has no number
  pub number_other : (v : ℕ) → (c ≡ code_of Number → ⊥) → Wrote xs at (number_part code v) xs at
  unfolding number_part
  number_other v h = rw (ne_eqb code (code_of Number) (λ q. h (e ∙ q))) (nothing xs at)

  -- no flag where it has none
  pub flag_other : (b : Bool) → (c ≡ code_of OptText → ⊥) → Wrote xs at (text_flag b code) xs at
  unfolding text_flag
  flag_other b h = rw (ne_eqb code (code_of OptText) (λ q. h (e ∙ q))) (nothing xs at)

  -- no count where it has neither cases nor arguments
  pub count_other : (n : ℕ) → (c ≡ code_of cases → ⊥) → (c ≡ code_of arguments → ⊥) → Wrote xs at (count_part code n) xs at
  unfolding count_part
  count_other n d h = rw (ne_eqb code (code_of cases) (λ q. d (e ∙ q)), ne_eqb code (code_of arguments) (λ q. h (e ∙ q))) (nothing xs at)

  -- and no flag where it has no optional node
  pub no_node_other : (c ≡ code_of optional_node → ⊥) → Wrote xs at (no_node code) xs at
  unfolding no_node
  no_node_other h = rw (ne_eqb code (code_of optional_node) (λ q. h (e ∙ q))) (nothing xs at)

-- ---- the rows: what is written by a part's code is what the definition writes

-- a text that is not optional
text_part : {xs ys : List ℕ} {at r code : ℕ} (t : Name) → code ≡ code_of Text → Wrote xs at (text_flag true code ++ write (name t)) ys r → Wrote xs at (write (name t)) ys r
unfolding text_flag
text_part t e w = rw e at w

-- the row of Switch: tag, cases, default
switch_row : (code_at 132 2 ≡ code_of Text) × (code_at 132 3 ≡ code_of cases) × (code_at 132 4 ≡ code_of optional_node)
unfolding code_at parts_of node_table
switch_row = (refl, refl, refl)

-- the row of CallNested: type_name, arguments
call_row : (code_at 133 2 ≡ code_of Text) × (code_at 133 3 ≡ code_of arguments)
unfolding code_at parts_of node_table
call_row = (refl, refl)

-- the row of SumOverArray behind its count: element_type_name, field_name
sum_row : (code_at 144 3 ≡ code_of Text) × (code_at 144 4 ≡ code_of Text)
unfolding code_at parts_of node_table
sum_row = (refl, refl)

module _ {xs ys : List ℕ} {at r : ℕ} where
  -- the tag of a switch is a name
  pub switch_tag : (t : Name) → Wrote xs at (text_flag true (code_at 132 2) ++ write (name t)) ys r → Wrote xs at (write (name t)) ys r
  switch_tag t w = text_part t switch_row.0 w

  -- the count of its cases is a number of 2 bytes
  pub switch_count : (n : ℕ) → Wrote xs at (count_part (code_at 132 3) n) ys r → Wrote xs at (write (num 2 n)) ys r
  unfolding count_part
  switch_count n w = rw switch_row.1 at w

  -- no default is the flag 0
  pub switch_default : Wrote xs at (no_node (code_at 132 4)) ys r → Wrote xs at (write (num 1 0)) ys r
  unfolding no_node
  switch_default w = rw switch_row.2 at w

  -- the called type's name is a name
  pub call_name : (t : Name) → Wrote xs at (text_flag true (code_at 133 2) ++ write (name t)) ys r → Wrote xs at (write (name t)) ys r
  call_name t w = text_part t call_row.0 w

  -- the count of the arguments is a number of 2 bytes
  pub call_count : (n : ℕ) → Wrote xs at (count_part (code_at 133 3) n) ys r → Wrote xs at (write (num 2 n)) ys r
  unfolding count_part
  call_count n w = rw call_row.1 at w

  -- the two names of a sum over an array are names
  pub sum_element : (t : Name) → Wrote xs at (text_flag true (code_at 144 3) ++ write (name t)) ys r → Wrote xs at (write (name t)) ys r
  sum_element t w = text_part t sum_row.0 w

  pub sum_field : (t : Name) → Wrote xs at (text_flag true (code_at 144 4) ++ write (name t)) ys r → Wrote xs at (write (name t)) ys r
  sum_field t w = text_part t sum_row.1 w

-- ---- the metadata

-- which every kind begins with
meta_codes : (k : ℕ) → 128 ≤ k → k ≤ 144 → (code_at k 0 ≡ code_of Number) × (code_at k 1 ≡ code_of OptText)
unfolding code_at parts_of node_table
meta_codes k l h = rw (le-leb _ _ l, le-leb _ _ h) (refl, refl)

-- a node's head has 15 bytes
start_length : (k a : ℕ) → length (node_start k a) ≡ 15
unfolding node_start write opened bytes
start_length k a = refl

-- the answer of `open_node`
pub started : {xs ys zs vs : List ℕ} {at p q r : ℕ} (k a : ℕ) → 128 ≤ k → k ≤ 144 → Wrote xs at (opened k) ys p →
    Wrote ys p (number_part (code_at k 0) a) zs q → Wrote zs q (text_flag false (code_at k 1)) vs r →
    Wrote xs at (node_start k a) vs r × (r ≡ at + 15)
unfolding node_start number_part text_flag
started {xs} {at = at} {r = r} k a l h f g i =
    let m = meta_codes k l h in
    let w : Wrote xs at (node_start k a) _ r = both f (both (rw m.0 at g) (rw m.1 at i)) in
    (w, omega (arith, w.end, start_length k a))

-- ---- nodes of numbers

-- `put_const_or_zero` of 0 writes a ZeroSize node
pub zero_closed : {xs ys zs : List ℕ} {at p e : ℕ} (a v : ℕ) → v ≡ 0 → Wrote xs at (node_start 128 a) ys p →
    Wrote ys at (bytes 4 (p - at - 4)) zs e → Wrote xs at (write (node_tree (const_or_zero v a))) zs p
unfolding node_tree
zero_closed {ys = ys} {p = p} a v z f c = rw (eq-eqb _ _ z) (node_closed 128 a nil f (no_parts ys p) c)

module _ {xs ys zs : List ℕ} {at p q : ℕ} (a : ℕ) where
  -- an AlignUp node, as far as the node that it aligns
  pub align_started : Wrote xs at (node_start 131 a) ys p → Wrote ys p (number_part (code_at 131 2) a) zs q →
      Wrote xs at (node_start 131 a ++ write (num 8 a)) zs q × (q ≡ at + 23)
  unfolding number_part code_at parts_of node_table write
  align_started f g = (both f g, omega (arith, f.end, g.end, start_length 131 a, bytes_length 8 a))

  -- the answer of `put_const`
  pub const_closed : {vs : List ℕ} {e : ℕ} (v : ℕ) → Wrote xs at (node_start 129 a) ys p →
      Wrote ys p (number_part (code_at 129 2) v) zs q → Wrote zs at (bytes 4 (q - at - 4)) vs e →
      Wrote xs at (write (node_tree (IrNode.Const unplaced (aligned a) v))) vs q × (q ≡ at + 23)
  unfolding number_part code_at parts_of node_table write node_tree
  const_closed v f g c =
      (node_closed 129 a (cons (num 8 v) nil) f (parts (num 8 v) nil g (no_parts zs q)) c, omega (arith, f.end, g.end, start_length 129 a, bytes_length 8 v))

  -- `put_const_or_zero` of another value writes a Const node in an AlignUp node
  pub value_closed : {vs : List ℕ} {e : ℕ} (v : ℕ) → (v ≡ 0 → ⊥) → Wrote xs at (node_start 131 a ++ write (num 8 a)) ys p →
      Wrote ys p (write (node_tree (IrNode.Const unplaced (aligned a) v))) zs q → Wrote zs at (bytes 4 (q - at - 4)) vs e →
      Wrote xs at (write (node_tree (const_or_zero v a))) vs q
  value_closed v z f g c = rw (ne_eqb _ _ z) (align_closed a (IrNode.Const unplaced (aligned a) v) f g c)

-- ---- FieldRef nodes

-- the parts of a FieldRef node behind its metadata
abbrev ref_parts : Name → Name → Tree
ref_parts path parameter = cons (name path) (cons (optional_tree name (some parameter)) nil)

-- the path `__buffer_size` has 15 bytes as a text
buffer_length : length (text_flag true (code_at 130 2) ++ write (name buffer_size)) ≡ 15
unfolding text_flag code_at parts_of node_table write bytes
buffer_length = refl

-- an absent parameter has one
buffer_flag : length (text_flag false (code_at 130 3)) ≡ 1
unfolding text_flag code_at parts_of node_table write bytes
buffer_flag = refl

-- the answer of `put_ref_parts`
pub ref_parts_lem : {xs ys zs : List ℕ} {at p q : ℕ} (path parameter : Name) → Wrote xs at (text_flag true (code_at 130 2) ++ write (name path)) ys p →
    Wrote ys p (text_flag true (code_at 130 3) ++ write (name parameter)) zs q → Wrote xs at (write (ref_parts path parameter)) zs q
unfolding text_flag code_at parts_of node_table write
ref_parts_lem {zs = zs} {q = q} path n f g =
    parts (name path) (cons (optional_tree name (some n)) nil) f (parts (optional_tree name (some n)) nil g (no_parts zs q))

-- the answer of `put_buffer_size`
pub buffer_closed : {xs ys zs vs us : List ℕ} {at p q r a e : ℕ} → a ≡ default_alignment → Wrote xs at (node_start 130 a) ys p →
    Wrote ys p (text_flag true (code_at 130 2) ++ write (name buffer_size)) zs q → Wrote zs q (text_flag false (code_at 130 3)) vs r →
    Wrote vs at (bytes 4 (r - at - 4)) us e →
    Wrote xs at (write (node_tree (IrNode.FieldRef unplaced default_metadata buffer_size none))) us r × (r ≡ at + 31)
unfolding text_flag code_at parts_of node_table node_tree
buffer_closed {xs} {ys} {vs = vs} {at = at} {p = p} {r = r} i f g h c =
    let w : Wrote xs at (node_start 130 default_alignment) ys p = start_at 130 i f in
    let t : Tree = cons (name buffer_size) (cons (optional_tree name none) nil) in
    let d = node_closed 130 default_alignment t w
    (parts (name buffer_size) (cons (optional_tree name none) nil) g
    (parts (optional_tree name none) nil (parts (num 1 0) nil h (no_parts vs r)) (no_parts vs r))) c in
    (d, omega (arith, w.end, g.end, h.end, start_length 130 default_alignment, buffer_length, buffer_flag))

-- the answer of `put_path_ref`
pub path_closed : {xs ys zs vs : List ℕ} {at p q a e : ℕ} (path parameter : Name) → a ≡ default_alignment →
    Wrote xs at (node_start 130 a) ys p → Wrote ys p (write (ref_parts path parameter)) zs q →
    Wrote zs at (bytes 4 (q - at - 4)) vs e →
    Wrote xs at (write (node_tree (IrNode.FieldRef unplaced default_metadata path (some parameter)))) vs q
unfolding node_tree
path_closed {xs} {ys} {at = at} {p = p} path n i f g c = node_closed 130 default_alignment (ref_parts path n) (start_at 130 i f) g c

-- the alignment of a FieldRef node is a number part
number_in : {xs ys : List ℕ} {at r : ℕ} → Wrote xs at (number_part (code_at 130 0) default_alignment) ys r → Wrote xs at (write (num 8 default_alignment)) ys r
unfolding number_part code_at parts_of node_table
number_in f = f

-- the size text: its flag, its length, and its three pieces
pub size_text : {xs ys zs us vs ws : List ℕ} {at p q u v r n : ℕ} (owner path : Name) → n ≡ length owner + 1 + length path →
    Wrote xs at (text_flag true (code_at 130 1)) ys p → Wrote ys p (bytes 2 n) zs q → Wrote zs q owner us u →
    Wrote us u (ascii ":") vs v → Wrote vs v path ws r → Wrote xs at (write (optional_tree name (some (ref_text owner path)))) ws r
unfolding text_flag code_at parts_of node_table write
size_text {ys = ys} {zs} {p = p} {q} owner path e f g h i j =
    let l : length owner + 1 + length path ≡ length (ref_text owner path) = omega (arith, length-append owner (ascii ":" ++ path)) in
    both f (both (subst (λ (n : ℕ). Wrote ys p (bytes 2 n) zs q) (e ∙ l) g) (both h (both i j)))

-- the answer of `put_size_ref`
pub size_closed : {xs ys zs us vs ws : List ℕ} {at p q u v a e : ℕ} (owner path parameter : Name) → a ≡ default_alignment →
    Wrote xs at (opened 130) ys p → Wrote ys p (number_part (code_at 130 0) a) zs q →
    Wrote zs q (write (optional_tree name (some (ref_text owner path)))) us u → Wrote us u (write (ref_parts path parameter)) vs v →
    Wrote vs at (bytes 4 (v - at - 4)) ws e →
    Wrote xs at (write (node_tree (IrNode.FieldRef unplaced (record {
      alignment =
          default_alignment;
      size_expr = some (ref_text owner path);
    }) path (some parameter)))) ws v
unfolding node_tree
size_closed {ys = ys} {zs} {p = p} {q} owner path n i f g h j c =
    let w : Wrote ys p (write (num 8 default_alignment)) zs q = number_in (subst (λ (m : ℕ). Wrote ys p (number_part (code_at 130 0) m) zs q) i g) in
    let t : Tree = cons (optional_tree name (some (ref_text owner path))) (ref_parts path n) in
    closed unplaced 130 (cons (num 8 default_alignment) t) (both f (parts (num 8 default_alignment) t w (parts (optional_tree name (some (ref_text owner path))) (ref_parts path n) h j))) c
