-- Of variable size it is `variable_field`; else its references enter, and it is a constant.
use Rattle.answers.proofs.Laws.{hands}
use Rattle.builder_structs.proofs.Field.{field_variable, field_stops, field_done}
use Rattle.builder_structs.proofs.build_field.Goals as goal

pub returns-in_default-clause-builds : goal.returns-in_default-clause-builds
returns-in_default-clause-builds c = field_variable _ _ _ c.type_head-t.ensures c.in_default.is c.variable_field.ensures.builds

pub returns-in_err-count-clause-builds : goal.returns-in_err-count-clause-builds
returns-in_err-count-clause-builds c = λ t b a q.
    hands _ c.from_residual.ensures.1 (field_stops _ _ _ c.type_head-t.ensures c.in-Some.is c.in_err-count.ensures.kept t b a q)

pub returns-clause-builds : goal.returns-clause-builds
returns-clause-builds c =
    field_done _ _ _ c.type_head-t.ensures c.in-Some.is c.in_ok-count.ensures.kept c.put_const_or_zero-end.ensures.wrote
