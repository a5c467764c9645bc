-- `tree_lent` meets its contract: the part of the words that is needed is lent.
use Rattle.interpreter_validate.proofs.Laws.{words_for_lem}
use lib.Seq.{length-take-le, length_front}
use mathlib.Core.Path.{sym}
use native.Mathlib.Omega.{arith}
use lib.ListN.{length}
use Prim.Native.Nat.{◌≤◌}
use borrow.Author.Rules.{rules}
use Rattle.interpreter_validate.proofs.tree_lent.Statement.{statement}
use Rattle.interpreter_validate.proofs.tree_lent.Tie as tie

fits : (r : tie.After-needed-n) → r.needed-n.result ≤ length r.args.words.now
fits r = omega (arith, (words_for_lem _ _ _ r.needed-n.ensures).1, r.requires.1)

needed-requires : tie.Need-needed-n-requires
needed-requires c κs = search rules

slice-relend-prefix-evaluated-tree : tie.Need-slice_bounds-evaluated_tree-end
slice-relend-prefix-evaluated-tree c = fits c

slice-aggregate-evaluated-tree : tie.Need-slice_bounds-evaluated_tree-end-2
slice-aggregate-evaluated-tree c = sym (length-take-le _ _ (fits c.before))

evaluated-tree-requires : tie.Need-evaluated_tree-requires
evaluated-tree-requires c κs =
    (c.requires.0, omega (arith, (words_for_lem _ _ _ c.needed-n.ensures).0, length-take-le c.needed-n.result c.args.words.now (fits c.before)))

same_length : tie.Need-shape_of-words
same_length c = search rules

returns : tie.Need-returns
returns c = (
  length_front c.args.words.now c.evaluated_tree.new.words c.needed-n.result c.evaluated_tree.ensures.0,
  c.evaluated_tree.ensures.1,
)

pub tree_lent_spec : {M : Type 1} → statement M
tree_lent_spec =
    tie.close
    (tie.spec
    needed-requires
    slice-relend-prefix-evaluated-tree
    slice-aggregate-evaluated-tree
    evaluated-tree-requires
    same_length
    returns)
