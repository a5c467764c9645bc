-- The sum of references, the last first: a sum of one more is the Add of the sum before it and the next reference.
use mathlib.Core.Path.{◌≡◌, refl, sym, ap, ◌∙◌}
use mathlib.Core.Bool.{Bool, true, false}
use mathlib.Core.List.{List, [], ◌∷◌, ◌++◌}
use mathlib.Core.Option.{Option, some, none}
use Prim.Native.Nat.{ℕ, zero, suc, ◌+◌, ◌-◌, ◌≤◌, ◌<◌}
use native.Mathlib.Numerals.{sub-one}
use native.Mathlib.Omega.{arith}
use lib.ListN.{length, take, get_or, length-append}
use lib.Seq.{take-suc, take-length}
use borrow.Author.Tests.{le-leb, lt-leb}
use Rattle.errors.specs.Refusal.{Outcome, done, refused, MissingParameter}
use Rattle.errors.specs.Refusal.{◌>>=◌ as ◌and_then◌}
use Rattle.std.specs.Prelude as std
use Rattle.std.specs.Prelude.{Some, None, Result, Ok, Err}
use Rattle.errors.specs.declared.Reason.{Reason}
use Rattle.errors.specs.declared.Reason.TheVariants as reason
use Rattle.answers.specs.Answers.{AnswersIn}
use Rattle.blocks.specs.Bytes.{bytes}
use Rattle.blocks.specs.Name.{Name}
use Rattle.blocks.specs.Tree.{nil, cons}
use Rattle.blocks.specs.Write.{write}
use Rattle.ir.specs.Ir.{IrNode, BinaryOp, default_alignment, default_metadata, unplaced}
use Rattle.ir.specs.Layout.{node_tree}
use Rattle.builder.specs.Registry.{Registry, Build, ◌>>=◌, give, refuse, require, need, reads, short, lookup_name}
use Rattle.builder.specs.Nodes.{ref_text, build_field_ref_nodes, add_all, combine_checked_add, sum_refs}
use Rattle.wire.specs.Poke.{Wrote}
use Rattle.wire.proofs.Laws.{parts, no_parts}
use Rattle.resolved_parts.specs.Types.{PathsAt, texts_of}
use Rattle.builder_registry.specs.Words.{Looked, entries_of, entry_name, Indexed}
use Rattle.builder_registry.proofs.Laws.{looked_entry, looked_missing}
use Rattle.builder_nodes.specs.declared.Built.{Built}
use Rattle.builder_nodes.specs.Built.{Builds, node_start}
use Rattle.builder_nodes.proofs.Laws.{node_closed, step_passes, step_goes, step_assoc, step_same}
use Rattle.builder_sums.specs.Ready.{chosen}
use Rattle.builder_sums.specs.Paths.{picks, build_ref}
use Rattle.builder_sums.proofs.Chosen.{picks_are}

-- ---- the definition, step by step

-- the node of a reference whose parameter was found
abbrev ref_node : Name → Name → Name → IrNode
ref_node owner path parameter = IrNode.FieldRef unplaced (record { alignment = default_alignment; size_expr = some (ref_text owner path) }) path (some parameter)

-- the Add of two nodes
abbrev added : IrNode → IrNode → IrNode
added l r = IrNode.Binary unplaced default_metadata BinaryOp.AddChecked l r

module _ (owner : Name) where
  -- references, and then l: the first reference, the others, and then l of all of them
  refs_then : (p : Name) (ps : List Name) (l : List IrNode → Build IrNode) (g : Registry) →
      (build_field_ref_nodes owner (p ∷ ps) >>= l) g ≡ (build_ref owner p >>= (λ n. build_field_ref_nodes owner ps >>= (λ ns. l (n ∷ ns)))) g
  unfolding build_field_ref_nodes build_ref ◌>>=◌ ◌and_then◌ reads need require give refuse
  refs_then p ps l g = go (lookup_name owner p g) (short (ref_text owner p))
    where
      go : (o : Option Name) (b : Bool) →
          ((need o MissingParameter >>= (λ x. require b 17 >>= (λ _. build_field_ref_nodes owner ps >>= (λ ns. give (ref_node owner p x ∷ ns))))) >>= l) g ≡
          ((need o MissingParameter >>= (λ x. require b 17 >>= (λ _. give (ref_node owner p x)))) >>= (λ n. build_field_ref_nodes owner ps >>= (λ ns. l (n ∷ ns)))) g
      go none b = refl
      go (some x) false = refl
      go (some x) true = step_assoc (build_field_ref_nodes owner ps) g (λ ns. give (ref_node owner p x ∷ ns)) l

  -- the node n, and references added to it
  abbrev onto : IrNode → List Name → Build IrNode
  onto n ps = build_field_ref_nodes owner ps >>= (λ ns. give (add_all n ns))

  -- the reference of p added last
  abbrev add_last : Name → IrNode → Build IrNode
  add_last p l = build_ref owner p >>= (λ r. give (added l r))

  module _ (l : List IrNode → Build IrNode) (f : IrNode → IrNode) (e : (m : IrNode) (ns : List IrNode) (h : Registry) → l (m ∷ ns) h ≡ give (add_all (f m) ns) h) where
    -- where l makes something of the first node and adds the others: the first reference, and the others added
    first_onto : (x : Name) (ps : List Name) (g : Registry) → (build_field_ref_nodes owner (x ∷ ps) >>= l) g ≡ (build_ref owner x >>= (λ m. onto (f m) ps)) g
    first_onto x ps g = refs_then x ps l g ∙ step_same (build_ref owner x) g _ _ (λ m h. step_same (build_field_ref_nodes owner ps) h _ _ (e m))

    -- what can be added last behind the first reference can be added last to the whole
    last_after : (x : Name) (ps : List Name) (p : Name) (g : Registry) →
        ((m : IrNode) (h : Registry) → onto (f m) (ps ++ (p ∷ [])) h ≡ (onto (f m) ps >>= add_last p) h) →
        (build_field_ref_nodes owner ((x ∷ ps) ++ (p ∷ [])) >>= l) g ≡ ((build_field_ref_nodes owner (x ∷ ps) >>= l) >>= add_last p) g
    unfolding ◌>>=◌
    last_after x ps p g i =
        first_onto x (ps ++ (p ∷ [])) g
        ∙ step_same (build_ref owner x) g _ _ i
        ∙ sym (step_assoc (build_ref owner x) g (λ m. onto (f m) ps) (add_last p))
        ∙ ap (λ (o : Outcome (IrNode × Registry)). ◌and_then◌ o (λ y. add_last p y.0 y.1)) (sym (first_onto x ps g))

  -- what is added to n last
  onto_last : (n : IrNode) (ps : List Name) (p : Name) (g : Registry) → onto n (ps ++ (p ∷ [])) g ≡ (onto n ps >>= add_last p) g
  unfolding build_field_ref_nodes add_all ◌>>=◌ ◌and_then◌ give
  onto_last n [] p g = refs_then p [] (λ ns. give (add_all n ns)) g
  onto_last n (x ∷ ps) p g = last_after (λ ns. give (add_all n ns)) (added n) (λ m ns h. refl) x ps p g (λ m h. onto_last (added n m) ps p h)

  -- the sum of one reference is that reference
  sum_one : (p : Name) (g : Registry) → sum_refs owner (p ∷ []) g ≡ build_ref owner p g
  unfolding sum_refs combine_checked_add build_field_ref_nodes add_all ◌>>=◌ ◌and_then◌ give
  sum_one p g = refs_then p [] combine_checked_add g ∙ go (build_ref owner p g)
    where
      go : (o : Outcome (IrNode × Registry)) → ◌and_then◌ o (λ x. done (x.0, x.1)) ≡ o
      go (done x) = refl
      go (refused q) = refl

  -- the sum of a list that is not empty, and one more
  sum_last : (x : Name) (ps : List Name) (p : Name) (g : Registry) → sum_refs owner ((x ∷ ps) ++ (p ∷ [])) g ≡ (sum_refs owner (x ∷ ps) >>= add_last p) g
  unfolding sum_refs combine_checked_add
  sum_last x ps p g = last_after combine_checked_add (λ n. n) (λ m ns h. refl) x ps p g (λ m h. onto_last m ps p h)

-- ---- one reference, in the code's form

-- how long the text owner.path is
ref_length : (owner path : Name) → length (ref_text owner path) ≡ length owner + (1 + length path)
ref_length owner path = simp length-append (omega arith)

module _ {s ws xs ys : List ℕ} {n at : ℕ} {f : std.Option ℕ} (owner : Name) {path name : Name} (e : path ≡ name)
    (l : Looked s ws n f (lookup_name owner path (entries_of s ws n))) where
  -- no entry has the path
  pub ref_missing : f ≡ None → Builds s xs at ws ys (Err reason.MissingParameter) (build_ref owner name (entries_of s ws n))
  unfolding build_ref ◌>>=◌ ◌and_then◌ reads need refuse
  ref_missing m = rw (← e, looked_missing m l) AnswersIn.not

  -- the text owner.path is too long
  pub ref_long : {i : ℕ} → f ≡ Some i → 255 < length owner + (1 + length path) →
      Builds s xs at ws ys (Err reason.LimitExceeded) (build_ref owner name (entries_of s ws n))
  unfolding build_ref ◌>>=◌ ◌and_then◌ reads need require give refuse
  ref_long m h =
      rw (← e, (looked_entry m l).1, lt-leb (length (ref_text owner path)) 255 (omega (arith, ref_length owner path))) AnswersIn.not

  -- the reference was written
  pub ref_done : {i r : ℕ} → Indexed s ws n → f ≡ Some i → length owner + (1 + length path) ≤ 255 →
      Wrote xs at (write (node_tree (ref_node owner path (entry_name s (get_or ws i 0))))) ys r →
      Builds s xs at ws ys (Ok (record { at = r; count = n })) (build_ref owner name (entries_of s ws n))
  unfolding build_ref ◌>>=◌ ◌and_then◌ reads need require give
  ref_done {i} x m h v =
      rw (← e, (looked_entry m l).1, le-leb (length (ref_text owner path)) 255 (omega (arith, ref_length owner path)))
      (AnswersIn.made (ref_node owner path (entry_name s (get_or ws i 0)), entries_of s ws n)
      (record { entries = refl; index = x; wrote = v }))

-- ---- a sum, in the code's form

-- the sum of the first path alone
pub sum_first : {s xs us ys : List ℕ} {at k : ℕ} {r : Result Built Reason} (owner : Name) (cs : List Name) (g : Registry) → k ≡ 1 → 0 < length cs →
    Builds s xs at us ys r (build_ref owner (get_or cs 0 []) g) → Builds s xs at us ys r (sum_refs owner (take k cs) g)
sum_first owner [] g e h b = absurd (omega arith)
sum_first owner (c ∷ cs) g e h b = rw (e, sum_one owner c g) b

-- the sum of k, for k over 1, is the Add of the sum of k - 1 and the last reference
whole : (owner : Name) (cs : List Name) (k : ℕ) (g : Registry) → 0 < k → (k ≡ 1 → ⊥) → k ≤ length cs →
    sum_refs owner (take k cs) g ≡ (sum_refs owner (take (k - 1) cs) >>= add_last owner (get_or cs (k - 1) [])) g
whole owner cs zero g a b c = absurd (omega arith)
whole owner cs (suc zero) g a b c = absurd (b refl)
whole owner [] (suc (suc m)) g a b c = absurd (omega arith)
whole owner (x ∷ cs) (suc (suc m)) g a b c =
    rw sub-one
    (ap (λ (ps : List Name). sum_refs owner ps g) (take-suc (x ∷ cs) (suc m) [] (omega arith)) ∙ sum_last owner x (take m cs) (get_or (x ∷ cs) (suc m) []) g)

module _ {s xs ws x₁ x₂ : List ℕ} {at k p : ℕ} (owner : Name) (cs : List Name) (n : ℕ) (h : 0 < k) (h₁ : k ≡ 1 → ⊥) (h₂ : k ≤ length cs) where
  -- the sum of one less was refused
  pub sum_stops : {e : Reason} {ys : List ℕ} → Builds s x₁ p ws x₂ (Err e) (sum_refs owner (take (k - 1) cs) (entries_of s ws n)) →
      Builds s xs at ws ys (Err e) (sum_refs owner (take k cs) (entries_of s ws n))
  sum_stops b = rw (whole owner cs k (entries_of s ws n) h h₁ h₂) (step_passes (sum_refs owner (take (k - 1) cs)) _ (entries_of s ws n) b)

  module _ {l : Built} (b : Builds s x₁ p ws x₂ (Ok l) (sum_refs owner (take (k - 1) cs) (entries_of s ws n))) {x₃ : List ℕ} where
    -- the last reference was refused
    pub sum_stops_last : {e : Reason} {ys : List ℕ} → Builds s x₂ l.at ws x₃ (Err e) (build_ref owner (get_or cs (k - 1) []) (entries_of s ws l.count)) →
        Builds s xs at ws ys (Err e) (sum_refs owner (take k cs) (entries_of s ws n))
    sum_stops_last v =
        rw (whole owner cs k (entries_of s ws n) h h₁ h₂)
        (step_goes (sum_refs owner (take (k - 1) cs)) _ (entries_of s ws n) b
        (λ x e. step_passes (build_ref owner (get_or cs (k - 1) [])) _ x.1 (rw e.entries at v)))

    -- both were written, and the length of the Add is patched in
    pub sum_done : {m : Built} {ys : List ℕ} {q : ℕ} → Wrote xs at (node_start 134 1) x₁ p →
        Builds s x₂ l.at ws x₃ (Ok m) (build_ref owner (get_or cs (k - 1) []) (entries_of s ws l.count)) →
        Wrote x₃ at (bytes 4 (m.at - at - 4)) ys q → Builds s xs at ws ys (Ok m) (sum_refs owner (take k cs) (entries_of s ws n))
    unfolding node_tree give
    sum_done {m} w v u =
        rw (whole owner cs k (entries_of s ws n) h h₁ h₂)
        (step_goes (sum_refs owner (take (k - 1) cs)) _ (entries_of s ws n) b
        (λ x e. step_goes (build_ref owner (get_or cs (k - 1) [])) _ x.1 (rw e.entries at v)
        (λ r f. AnswersIn.made (added x.0 r.0, r.1) (record {
          entries = f.entries;
          index = f.index;
          wrote = node_closed 134 1
              (cons (node_tree x.0) (cons (node_tree r.0) nil)) w
              (parts (node_tree x.0) (cons (node_tree r.0) nil) e.wrote (parts (node_tree r.0) nil f.wrote (no_parts x₃ m.at))) u;
        }))))

-- ---- all the chosen paths

-- no path is chosen
pub sum_none : {s xs us ys : List ℕ} {at k q : ℕ} (owner : Name) (only : Bool) (g : Registry) → k ≡ length (picks s only q) → k ≡ 0 → (p : PathsAt s q) →
    Builds s xs at us ys (Err reason.MissingDynamicRefs) (sum_refs owner (chosen only (texts_of p.list.got.0)) g)
unfolding sum_refs build_field_ref_nodes combine_checked_add ◌>>=◌ ◌and_then◌ give refuse
sum_none {s} {xs} {us} {ys} {at} {q = q} owner only g e z p = rw (picks_are only p) (go (picks s only q) (omega arith))
  where
    go : (ps : List Name) → length ps ≡ 0 → Builds s xs at us ys (Err reason.MissingDynamicRefs) (sum_refs owner ps g)
    go [] h = AnswersIn.not
    go (x ∷ ps) h = absurd (omega arith)

-- the sum of all the chosen paths
pub sum_all : {s xs us ys : List ℕ} {at k : ℕ} {r : Result Built Reason} (owner : Name) (only : Bool) (q : ℕ) (g : Registry) →
    k ≡ length (picks s only q) → Builds s xs at us ys r (sum_refs owner (take k (picks s only q)) g) → (p : PathsAt s q) →
    Builds s xs at us ys r (sum_refs owner (chosen only (texts_of p.list.got.0)) g)
sum_all {s} owner only q g e b p = rw (picks_are only p) (rw (e, take-length (picks s only q)) at b)
