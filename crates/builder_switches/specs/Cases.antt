-- The alternatives of a switch by their kind, and what their cases leave in the output.
use Rattle.std.specs.Prelude.{ℕ, suc, ◌+◌, ◌≤◌, ◌<◌, ◌^◌, ◌≡◌, List, ◌∷◌, length, Result}
use Rattle.errors.specs.Refusal.{Outcome}
use Rattle.errors.specs.declared.Reason.{Reason}
use Rattle.answers.specs.Answers.{Answers}
use Rattle.blocks.specs.Bytes.{name_at}
use Rattle.blocks.specs.Tree.{Tree, num, block, nil, cons, view}
use Rattle.blocks.specs.Write.{write}
use Rattle.accepted.specs.Accepted.{Accepted, tree, Listed}
use Rattle.resolved.specs.Resolved.{Owner, fields, variants}
use Rattle.resolved.specs.Set.{thing_of, fields_in, variants_in}
use Rattle.ir.specs.Ir.{IrNode, IrParameter, SwitchCases, unplaced}
use Rattle.ir.specs.Layout.{node_tree, cases_tree, case_count, list_tree, parameter_tree}
use Rattle.builder.specs.Registry.{Registry, Build, ◌>>=◌, give, reads, owner_parameters}
use Rattle.builder.specs.Nodes.{Alternative, enum_alternatives, union_alternatives, sized_alternatives, build_alternative}
use Rattle.wire.specs.Poke.{Wrote}
use Rattle.resolved_parts.specs.Types.{Named, sized}
use Rattle.builder_registry.specs.declared.Tagged.{Tagged}
use Rattle.builder_registry.specs.Words.{Standing, Indexed, entries_of}
use Rattle.builder_nodes.specs.declared.Built.{Built}
use Rattle.builder_switches.specs.declared.Choice.{Choice}
use Rattle.builder_switches.specs.declared.Kind.{Kind}
use Rattle.builder_switches.specs.declared.Kind.TheVariants.{Union, Enum, Sized}

-- the kind of the blocks: fields, variants of an enum, variants of a size-discriminated union
abbrev pub block_of : Kind → ℕ
block_of Union = 33
block_of Enum = 34
block_of Sized = 35

-- the alternatives that such blocks stand for; of the fields of a union from place i on
abbrev pub alternatives : Kind → ℕ → Tree → List Alternative
alternatives Union i u = union_alternatives i (fields (fields_in (view thing_of u)))
alternatives Enum i u = enum_alternatives (variants (variants_in (view thing_of u)))
alternatives Sized i u = sized_alternatives (variants (variants_in (view thing_of u)))

-- the alternative at place i, before others u
pub record AltAt {s : List ℕ} {q : ℕ} (k : Kind) (c : Accepted s (block_of k) (block_of k) q) (i : ℕ) (r : Choice) : Type 0 where
  pub named : Named s r.name
  pub is : (u : Tree) → alternatives k i (cons (tree c) u) ≡
      record { tag = r.tag; name = name_at s r.name; size = sized r.size; alignment = r.alignment } ∷ alternatives k (suc i) u

-- one case, as `build_cases` makes it: the alternative's node and the parameters of its name
unfoldable pub build_case : List Owner → Alternative → Build (IrNode × List IrParameter)
build_case refs x = do
  node ← build_alternative refs x.name x.size x.alignment
  parameters ← reads (owner_parameters x.name)
  give (node, parameters)

-- its block
abbrev pub case_tree : ℕ → IrNode → List IrParameter → Tree
case_tree v n ps = block unplaced 163 (cons (num 8 v) (cons (node_tree n) (cons (list_tree parameter_tree ps) nil)))

-- a case that was made: its bytes in the output ys, up to the next cursor, and the entries in the words us with their index
pub record CaseIn (s xs : List ℕ) (at : ℕ) (us ys : List ℕ) (tag : ℕ) (r : Built)
    (x : (IrNode × List IrParameter) × Registry) : Type 0 where
  pub entries : entries_of s us r.count ≡ x.1
  pub index : Indexed s us r.count
  pub wrote : Wrote xs at (write (case_tree tag x.0.0 x.0.1)) ys r.at

-- the same of so many cases
pub record CasesIn (s xs : List ℕ) (at : ℕ) (us ys : List ℕ) (count : ℕ) (r : Built) (x : SwitchCases × Registry) : Type 0 where
  pub entries : entries_of s us r.count ≡ x.1
  pub index : Indexed s us r.count
  pub counted : case_count x.0 ≡ count
  pub wrote : Wrote xs at (write (cases_tree x.0)) ys r.at

-- that, or the refusal
abbrev pub Cases : (s xs : List ℕ) (at : ℕ) (us ys : List ℕ) (count : ℕ) → Result Built Reason → Outcome (SwitchCases × Registry) → Type 0
Cases s xs at us ys count = Answers (CasesIn s xs at us ys count)

-- the case of the alternative at place i, under the references os, from the registry g
pub record CaseAt {s : List ℕ} {q : ℕ} (k : Kind) (c : Accepted s (block_of k) (block_of k) q) (i : ℕ) (xs : List ℕ) (at : ℕ)
    (us ys : List ℕ) (r : Result Built Reason) (os : List Owner) (g : Registry) : Type 0 where
  pub alternative : Alternative
  pub is : (u : Tree) → alternatives k i (cons (tree c) u) ≡ alternative ∷ alternatives k (suc i) u
  pub made : Answers (CaseIn s xs at us ys alternative.tag) r (build_case os alternative g)

-- an expression whose references are marked under an owner
pub record Marking (s ws : List ℕ) (n : ℕ) (owner : List ℕ) (e : ℕ) : Type 0 where
  pub standing : Standing s ws n
  pub owned : length owner ≤ 255
  pub expr : Accepted s 64 91 e

-- the tag expression of the type at an offset
pub record Tagging (s ws : List ℕ) (n type e : ℕ) : Type 0 where
  pub standing : Standing s ws n
  pub named : Named s (type + 6)
  pub expr : Accepted s 64 91 e

-- the alternative whose name stands at q, under the references of its type
pub record Choosing (s ws : List ℕ) (n references q at : ℕ) : Type 0 where
  pub standing : Standing s ws n
  pub references_at : Accepted s 32 32 references
  pub named : Named s q
  pub cursor : at < 2 ^ 56 + 2 ^ 27

-- the block of an alternative
pub record Casing (s ws : List ℕ) (n references : ℕ) (k : Kind) (q at : ℕ) : Type 0 where
  pub standing : Standing s ws n
  pub references_at : Accepted s 32 32 references
  pub block_at : Accepted s (block_of k) (block_of k) q
  pub cursor : at < 2 ^ 56 + 2 ^ 26

-- the list of all of them
pub record Listed_cases (s ws : List ℕ) (n references : ℕ) (k : Kind) (count first at : ℕ) : Type 0 where
  pub standing : Standing s ws n
  pub references_at : Accepted s 32 32 references
  pub list : Listed s (block_of k) (block_of k) count first
  pub most : count ≤ 64
  pub cursor : at < 2 ^ 56 + 1000

-- a type with such a list, and its tag: the name of an entry
pub record Switching (s ws : List ℕ) (type : ℕ) (tag : Tagged) (k : Kind) (count first at : ℕ) : Type 0 where
  pub standing : Standing s ws tag.count
  pub type_at : Accepted s 1 7 type
  pub within : tag.at < tag.count
  pub list : Listed s (block_of k) (block_of k) count first
  pub most : count ≤ 64
  pub cursor : at < 2 ^ 56
