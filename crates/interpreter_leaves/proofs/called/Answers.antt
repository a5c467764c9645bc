-- The type's name stands in the first part behind the metadata; where a call has opened the type that holds the node, that type's place and
-- offset are known from the call's word.
use native.Mathlib.Omega.{arith}
use Rattle.interpreter_leaves.proofs.Nodes.{call_type, type_is, held_here}
use Rattle.interpreter_leaves.proofs.called.Goals as goal

pub name_at-name-requires : goal.name_at-name-requires
name_at-name-requires c = (call_type c.first_part.ensures c.requires.0 c.requires.1).0

pub returns-then-f-eq0 : goal.returns-then-f-eq0
returns-then-f-eq0 c = λ t e a. type_is c.first_part.ensures c.requires.1 c.name_at-name.ensures t (c.lookup_type.ensures t e) a

pub offset_bounds-words-f : goal.offset_bounds-words-f
offset_bounds-words-f c = omega (arith, (held_here _ _ _ _ c.requires.3 c.if-f-eq0.false).0)

pub bounds-words-f : goal.bounds-words-f
bounds-words-f c = (held_here _ _ _ _ c.requires.3 c.if-f-eq0.false).0

pub returns : goal.returns
returns c = λ t e a. type_is c.first_part.ensures c.requires.1 c.name_at-name.ensures t (c.lookup_near.ensures t e) a
