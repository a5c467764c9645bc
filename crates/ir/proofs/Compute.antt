-- What a proof by computation opens: `unfolding compute` unfolds every definition of this crate.
use Rattle.ir.specs.Layout.{cases_in, operations, form_of, make_thing, thing_of, node_of, layout_of, entries_tree, node_tree, layout_tree}

-- has no value of interest: a proof that unfolds it unfolds what it names
unfoldable pub compute : Unit {0}
unfolding cases_in operations form_of make_thing thing_of node_of layout_of entries_tree node_tree layout_tree
compute = tt
