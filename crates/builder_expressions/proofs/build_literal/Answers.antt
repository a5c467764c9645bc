-- A negative literal is refused, any other becomes a Const node.
use native.Mathlib.Omega.{arith}
use Rattle.builder_expressions.proofs.Laws.{literal_inside, literal_stops, literal_made}
use Rattle.builder_expressions.proofs.build_literal.Goals as goal

pub overflow_add-expr : goal.overflow_add-expr
overflow_add-expr c = omega (arith, literal_inside c.requires.0 c.requires.1)

pub read8-v-requires : goal.read8-v-requires
read8-v-requires c = omega (arith, literal_inside c.requires.0 c.requires.1)

pub returns-then-is_negative-clause-builds : goal.returns-then-is_negative-clause-builds
returns-then-is_negative-clause-builds c = literal_stops c.requires.1 c.is_negative.ensures c.if-is_negative.true

pub returns-clause-builds : goal.returns-clause-builds
returns-clause-builds c = literal_made c.requires.1 c.is_negative.ensures c.if-is_negative.false c.read8-v.ensures c.default_alignment.ensures c.put_const-u.ensures.wrote
