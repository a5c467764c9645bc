-- `third_part` meets its contract: it steps over the fourth part, whose code the table of node kinds gives.
use Rattle.std.proofs.Common.{arith}
use Rattle.interpreter_context.specs.Located.{Listing}
use Rattle.interpreter_context.proofs.Laws.{fourth_column, is_list, is_simple, stands, stands_next}
use Rattle.interpreter_context.proofs.third_part.Goals as goal

pub behind_list-requires : goal.behind_list-requires
behind_list-requires c =
    let x =
    stands fourth_column c.read2-kind.ensures.0 c.node_part-code.ensures (omega (arith, c.requires.1)) c.second_part-p.ensures
    c.requires.0 in
    (x.0, x.1, is_list Listing.cases c.if-code-eq-CASES.true x.2 x.3, x.4)

pub returns-then-code-eq-CASES : goal.returns-then-code-eq-CASES
returns-then-code-eq-CASES c =
    stands_next fourth_column c.read2-kind.ensures.0 c.node_part-code.ensures (omega (arith, c.requires.1)) c.second_part-p.ensures
    (λ p ps x h e. c.behind_list.ensures p ps x (is_list Listing.cases c.if-code-eq-CASES.true h e))

pub behind_list-requires-then-code-eq-ARGUMENTS : goal.behind_list-requires-then-code-eq-ARGUMENTS
behind_list-requires-then-code-eq-ARGUMENTS c =
    let x =
    stands fourth_column c.read2-kind.ensures.0 c.node_part-code.ensures (omega (arith, c.requires.1)) c.second_part-p.ensures
    c.requires.0 in
    (x.0, x.1, is_list Listing.arguments c.if-code-eq-ARGUMENTS.true x.2 x.3, x.4)

pub returns-then-code-eq-ARGUMENTS : goal.returns-then-code-eq-ARGUMENTS
returns-then-code-eq-ARGUMENTS c =
    stands_next fourth_column c.read2-kind.ensures.0 c.node_part-code.ensures (omega (arith, c.requires.1)) c.second_part-p.ensures
    (λ p ps x h e. c.behind_list-then-code-eq-ARGUMENTS.ensures p ps x (is_list Listing.arguments c.if-code-eq-ARGUMENTS.true h e))

pub behind-requires : goal.behind-requires
behind-requires c =
    let x =
    stands fourth_column c.read2-kind.ensures.0 c.node_part-code.ensures (omega (arith, c.requires.1)) c.second_part-p.ensures
    c.requires.0 in
    (x.0, x.1, is_simple c.if-code-eq-CASES.false c.if-code-eq-ARGUMENTS.false x.2 x.3, x.3, x.4)

pub returns : goal.returns
returns c =
    stands_next fourth_column c.read2-kind.ensures.0 c.node_part-code.ensures (omega (arith, c.requires.1)) c.second_part-p.ensures
    (λ p ps x h e. c.behind.ensures p ps x (is_simple c.if-code-eq-CASES.false c.if-code-eq-ARGUMENTS.false h e) e)
