-- The type is looked up, and its tree evaluated.
use Rattle.interpreter_validate.proofs.Laws.{type_unknown, type_aimed}
use Rattle.interpreter_validate.proofs.type_alone.Goals as goal

pub tree_alone-requires : goal.tree_alone-requires
tree_alone-requires c = type_aimed c.lookup_type.ensures _ c.in-Some.is c.requires

pub returns-in-None : goal.returns-in-None
returns-in-None c = λ t rd a. type_unknown c.lookup_type.ensures c.in-None.is t rd _ _ _ c.plain.ensures
