-- The type tree of a type: its references enter the registry, then its root is built, then its parameters are listed.
use Rattle.std.specs.Prelude.{Result, Ok, Err}
use mathlib.Core.Path.{◌≡◌, refl, sym, ◌∙◌, subst}
use mathlib.Core.List.{List, []}
use Prim.Native.Nat.{ℕ, ◌+◌, ◌-◌, ◌^◌, ◌≤◌, ◌<◌}
use lib.ListN.{length}
use Rattle.errors.specs.Refusal.{done}
use Rattle.errors.specs.Refusal.{◌>>=◌ as ◌then◌}
use Rattle.errors.specs.declared.Reason.{Reason}
use Rattle.answers.specs.Answers.{Answers, AnswersIn}
use Rattle.answers.proofs.Laws.{makes, passes, goes}
use Rattle.blocks.specs.Bytes.{bytes}
use Rattle.blocks.specs.Tree.{Tree, name, num, nil, cons}
use Rattle.blocks.specs.Read.{read_set}
use Rattle.blocks.specs.Write.{write}
use Rattle.resolved.specs.Resolved.{Owner, ResolvedType, head}
use Rattle.resolved.specs.Set.{type_of, types_of}
use Rattle.ir.specs.Ir.{IrNode, IrParameter, TypeIr}
use Rattle.ir.specs.Layout.{node_tree, parameter_tree, list_tree, type_ir_tree}
use Rattle.accepted.specs.Accepted.{Accepted, tree, name_at}
use Rattle.resolved_parts.specs.declared.TypeHead.{TypeHead}
use Rattle.resolved_parts.specs.Types.{HeadAt, owners_of}
use Rattle.wire.specs.Poke.{Wrote, opened}
use Rattle.wire.proofs.Laws.{both, parts, no_parts, closed}
use Rattle.builder.specs.Registry.{Registry, give, extend_with, into_parameters}
use Rattle.builder.specs.Nodes.{node_from_resolved}
use Rattle.builder.specs.BuildType.{filter_jagged_element_parameters, build_type_ir}
use Rattle.builder.specs.Build.{build_type}
use Rattle.builder.proofs.Steps.{reads_then}
use Rattle.builder_registry.specs.Words.{Standing, Indexed, KeptIn, Kept, entries_of}
use Rattle.builder_nodes.specs.declared.Built.{Built}
use Rattle.builder_nodes.specs.Built.{Builds}
use Rattle.builder_nodes.proofs.Laws.{step_passes, step_goes}
use Rattle.builder_parameters.specs.Ready.{Ready as ListReady}
use Rattle.builder_type.specs.Built.{Ready, ReadyWords, TypeIn, BuildsType}
use Rattle.builder_type.proofs.Root.{Root}

-- ---- the definition, step by step

-- a type tree, by its root and the parameters of the registry behind it
abbrev tree_of : ResolvedType → IrNode → List IrParameter → TypeIr
tree_of t root ps = record { type_name = (head t).name; alignment = (head t).alignment; root = root; parameters = filter_jagged_element_parameters t ps }

-- what is answered from an empty registry, without the registry behind it
from_empty : {xs ys : List ℕ} {at : ℕ} {r : Result ℕ Reason} (ts : List ResolvedType) (t : ResolvedType) →
    Answers (λ (end : ℕ) (x : TypeIr × Registry). TypeIn xs at ys end x.0) r (build_type_ir ts t []) → BuildsType xs at ys r (build_type ts t)
unfolding build_type ◌then◌
from_empty {r = Ok end} ts t a = goes (λ x. done x.0) a (λ x m. AnswersIn.made x.0 m)
from_empty {r = Err e} ts t a = passes (λ x. done x.0) a

-- an empty registry has no entries, whatever the words are
none_held : (s ws : List ℕ) → entries_of s ws 0 ≡ []
unfolding entries_of
none_held s ws = refl

-- ---- what the code has built

-- its parts, one behind another
joined : {xs x₁ x₂ ys₁ ys₂ ys₃ ys : List ℕ} {at p₁ p₂ p u end q : ℕ} (x : TypeIr) →
    Wrote xs at (opened 161) x₁ p₁ → Wrote x₁ p₁ (write (name x.type_name)) x₂ p₂ → Wrote x₂ p₂ (bytes 8 x.alignment) ys₁ p →
    Wrote ys₁ p (write (node_tree x.root)) ys₂ u → Wrote ys₂ u (write (list_tree parameter_tree x.parameters)) ys₃ end →
    Wrote ys₃ at (bytes 4 (end - at - 4)) ys q → Wrote xs at (write (type_ir_tree x)) ys end
unfolding write
joined {ys₃} {end} x o n a r l c =
    let l' : Tree = cons (list_tree parameter_tree x.parameters) nil in
    let r' : Tree = cons (node_tree x.root) l' in
    let a' : Tree = cons (num 8 x.alignment) r' in
    closed 0 161 (cons (name x.type_name) a')
    (both o (parts (name x.type_name) a' n (parts (num 8 x.alignment) r' a (parts (node_tree x.root) l' r (parts (list_tree parameter_tree x.parameters) nil l (no_parts ys₃ end)))))) c

-- what `build_type` leaves
abbrev TreeBuilt : (s : List ℕ) (kind : ℕ) (xs : List ℕ) (at : ℕ) (ys : List ℕ) (r : Result ℕ Reason) → Type 0
TreeBuilt s kind xs at ys r = (t : Tree) (a : Accepted s 1 7 kind) → read_set s ≡ done t → BuildsType xs at ys r (build_type (types_of t) (type_of (tree a)))

-- what the references of a type leave of an empty registry
abbrev Entered : (s ws us : List ℕ) (references : ℕ) (r : Result ℕ Reason) → Type 0
Entered s ws us references r = (b : Accepted s 32 32 references) → Kept s us r (extend_with (owners_of (tree b)) (entries_of s ws 0))

-- the same by the type
owned : {s us : List ℕ} (ws : List ℕ) {kind : ℕ} {h : TypeHead} {r : Result ℕ Reason} (a : Accepted s 1 7 kind) → HeadAt a h → Entered s ws us h.references r →
    Kept s us r (extend_with (head (type_of (tree a))).dynamic_params [])
owned {s} {us} ws {r} a o k =
    subst (λ (g : Registry). Kept s us r (extend_with (head (type_of (tree a))).dynamic_params g)) (none_held s ws)
    (subst (λ (l : List Owner). Kept s us r (extend_with l (entries_of s ws 0))) (sym o.owners) (k o.references))

-- the root, from the registry that the references leave
root_from : {s us vs ys₁ ys₂ : List ℕ} {kind p n : ℕ} {root : Result Built Reason} → Root s kind ys₁ p vs ys₂ root (entries_of s us n) →
    (t : Tree) (a : Accepted s 1 7 kind) → read_set s ≡ done t → (x : Unit {0} × Registry) → KeptIn s us n x →
    Builds s ys₁ p vs ys₂ root (node_from_resolved (types_of t) (type_of (tree a)) x.1)
root_from {s} {vs} {ys₁} {ys₂} {p} {root} b t a d x m =
    subst (λ (g : Registry). Builds s ys₁ p vs ys₂ root (node_from_resolved (types_of t) (type_of (tree a)) g)) m.entries (b t a d)

module _ {s xs us ys : List ℕ} {kind at : ℕ} {h : TypeHead} (w : (a : Accepted s 1 7 kind) → HeadAt a h) (ws : List ℕ) where
  -- the references were refused
  pub not_entered : {e : Reason} → Entered s ws us h.references (Err e) → TreeBuilt s kind xs at ys (Err e)
  unfolding build_type_ir
  not_entered k t a d = from_empty (types_of t) (type_of (tree a)) (step_passes (extend_with (head (type_of (tree a))).dynamic_params) _ [] (owned ws a (w a) k))

  module _ {held : ℕ} (k : Entered s ws us h.references (Ok held)) {vs ys₁ ys₂ : List ℕ} {p : ℕ} where
    -- the root was refused
    pub no_root : {e : Reason} → Root s kind ys₁ p vs ys₂ (Err e) (entries_of s us held) → TreeBuilt s kind xs at ys (Err e)
    unfolding build_type_ir
    no_root b t a d =
        from_empty (types_of t) (type_of (tree a))
        (step_goes (extend_with (head (type_of (tree a))).dynamic_params) _ [] (owned ws a (w a) k) (λ x m.
        step_passes (node_from_resolved (types_of t) (type_of (tree a))) _ x.1 (root_from b t a d x m)))

    -- the type's tree was written
    pub tree_built : {root : Built} {x₁ x₂ ys₃ n : List ℕ} {p₁ p₂ end q : ℕ} → Root s kind ys₁ p vs ys₂ (Ok root) (entries_of s us held) → n ≡ name_at s (kind + 6) →
        Wrote xs at (opened 161) x₁ p₁ → Wrote x₁ p₁ (write (name n)) x₂ p₂ → Wrote x₂ p₂ (bytes 8 h.alignment) ys₁ p →
        ((a : Accepted s 1 7 kind) →
        Wrote ys₂ root.at (write (list_tree parameter_tree (filter_jagged_element_parameters (type_of (tree a)) (into_parameters (entries_of s vs root.count))))) ys₃ end) →
        Wrote ys₃ at (bytes 4 (end - at - 4)) ys q → TreeBuilt s kind xs at ys (Ok end)
    unfolding build_type_ir give
    tree_built {root} {x₁} {x₂} {ys₃} {n} {p₁} {p₂} {end} b en o nm al ps c t a d =
        let T : ResolvedType = type_of (tree a) in
        let nm' = subst (λ (l : List ℕ). Wrote x₁ p₁ (write (name l)) x₂ p₂) (en ∙ sym (w a).name) nm in
        let al' = subst (λ (v : ℕ). Wrote x₂ p₂ (bytes 8 v) ys₁ p) (sym (w a).alignment) al in
        let listed : Registry → Type 0 = λ (g : Registry). Wrote ys₂ root.at (write (list_tree parameter_tree (filter_jagged_element_parameters T (into_parameters g)))) ys₃ end in
        from_empty (types_of t) T
        (step_goes (extend_with (head T).dynamic_params) _ [] (owned ws a (w a) k) (λ x m.
        step_goes (node_from_resolved (types_of t) T) _ x.1 (root_from b t a d x m) (λ y i.
        let made : TypeIr = tree_of T y.0 (into_parameters y.1) in
        makes (made, y.1) (reads_then into_parameters _ y.1)
        (record { wrote = joined made o nm' al' i.wrote (subst listed i.entries (ps a)) c }))))

-- ---- what the calls stand on

module _ {s ws us : List ℕ} {m kind at : ℕ} (a : ReadyWords s ws kind at) (e : length us ≡ length ws) (h : m ≤ 512) (i : Indexed s us m) where
  -- m entries with their index
  pub words_ready : Standing s us m
  words_ready = record { size = a.size; words = rw e a.words; count = h; index = i }

  -- what the root stands on
  pub root_ready : {p : ℕ} → p < 2 ^ 55 → Ready s us m kind p
  root_ready l = record { standing = words_ready; set = a.set; type_at = a.type_at; cursor = l }

  -- what listing the parameters stands on
  pub list_ready : {p : ℕ} → p < 2 ^ 57 → ListReady s us m kind p
  list_ready l = record { standing = words_ready; type_at = a.type_at; cursor = l }
