-- The type is looked up, and its tree evaluated.
use Rattle.std.proofs.Common.{refl}
use Rattle.interpreter_validate.proofs.Laws.{type_unknown, type_aimed}
use Rattle.interpreter_validate.proofs.type_lent.Goals as goal

pub tree_lent-requires : goal.tree_lent-requires
tree_lent-requires c = (type_aimed c.lookup_type.ensures _ c.in-Some.is c.requires.0, c.requires.1)

pub returns-in-None : goal.returns-in-None
returns-in-None c = record {
  words_len_unchanged = refl;
  type_answers = λ t rd a. type_unknown c.lookup_type.ensures c.in-None.is t rd _ _ _ c.plain.ensures;
}
