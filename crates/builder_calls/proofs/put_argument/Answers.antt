-- The laws `argument_..` say at each return what the definition collects of one path behind the arguments that are there.
use Rattle.std.proofs.Common.{arith}
use Rattle.builder_calls.proofs.Collecting.{behind_hands}
use Rattle.builder_calls.proofs.Laws.{Names, argument_long, argument_full, argument_many, argument_done}
use Rattle.builder_calls.proofs.put_argument.Goals as goal
use Rattle.builder_calls.proofs.put_argument.Goals.{Else-canonical_length-gt255}

-- the two names, once they were found short enough
names : (c : Else-canonical_length-gt255) → Names c.args.s.now c.args.owner.at c.args.path c.name_at-o.result.now c.name_at-p.result.now
names c = record {
  owner_is = c.name_at-o.ensures;
  path_is = c.name_at-p.ensures;
  owned = c.requires.owned;
  named = c.requires.named;
  short = omega (arith, c.canonical_length.ensures);
}

pub returns-then-canonical_length-gt255-clause-behind :
    goal.returns-then-canonical_length-gt255-clause-behind
returns-then-canonical_length-gt255-clause-behind c =
    argument_long _ _ _ _ c.name_at-o.ensures c.name_at-p.ensures c.canonical_length.ensures c.if-canonical_length-gt255.true

pub returns-in_err-count-clause-behind : goal.returns-in_err-count-clause-behind
returns-in_err-count-clause-behind c =
    behind_hands _ c.from_residual.ensures.1
    (argument_full (names (goal.at.returns-in_err-count-clause-behind c).Else-canonical_length-gt255) c.in_err-count.ensures.kept)

pub returns-then-c-ge512-clause-behind : goal.returns-then-c-ge512-clause-behind
returns-then-c-ge512-clause-behind c =
    argument_many
    (names (goal.at.returns-then-c-ge512-clause-behind c).Else-canonical_length-gt255) c.in_ok-count.ensures.kept c.if-c-ge512.true

pub returns-clause-behind : goal.returns-clause-behind
returns-clause-behind c =
    argument_done
    (names (goal.at.returns-clause-behind c).Else-canonical_length-gt255)
    c.in_ok-count.ensures.kept
    c.if-c-ge512.false
    c.open_block-b.ensures.wrote
    c.put_canonical_name-u.ensures.wrote
    c.put_canonical_name-at.ensures.wrote
    c.close_block.ensures.wrote
