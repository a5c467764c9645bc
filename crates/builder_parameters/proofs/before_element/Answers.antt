-- `before_element`: the library's parts are the segments, one of which each turn is at.
use mathlib.Core.Path.{sym}
use borrow.Author.Rules.{rules}
use borrow.Author.Tests.{tests}
use lib.Dec.{eqb}
use Rattle.std.proofs.lemmas.List.{length_push}
use Rattle.std.proofs.lemmas.Iterator.Consumers.{YieldsList-turn, YieldsList-end}
use Rattle.std.proofs.lemmas.Iterator.Splits.{YieldsList-from_slice_split}
use Rattle.builder_parameters.proofs.Segments.{split_is, left_first, element_met, goes_on, no_element}
use Rattle.builder_parameters.proofs.before_element.Goals as goal

pub loop-segment-init : goal.loop-segment-init
loop-segment-init c = left_first _

pub returns-then-same_name : goal.returns-then-same_name
returns-then-same_name c =
    let t = YieldsList-turn (YieldsList-from_slice_split _ (λ x. eqb x 0x2E) c.args.name.now (cc) (cc) (cc)
    (λ x b q k. search (rules, tests)))
    c.loop-segment.yielded _ c.loop-segment.yielded_by _ _ c.in-Some.segment c.in-Some.is c.next.ensures.steps in
    element_met _ (split_is _) _ _ c.loop-segment.invariant c.in-Some.segment t (sym c.if-same_name.ensures)

pub loop-segment-preserved : goal.loop-segment-preserved
loop-segment-preserved c =
    let t = YieldsList-turn (YieldsList-from_slice_split _ (λ x. eqb x 0x2E) c.args.name.now (cc) (cc) (cc)
    (λ x b q k. search (rules, tests)))
    c.loop-segment.yielded _ c.loop-segment.yielded_by _ _ c.in-Some.segment c.in-Some.is c.next.ensures.steps in
    rw (length_push c.loop-segment.yielded c.in-Some.segment)
    (goes_on _ (split_is _) _ _ c.loop-segment.invariant c.in-Some.segment t (sym c.if-same_name.ensures))

pub returns : goal.returns
returns c =
    let t = YieldsList-end (YieldsList-from_slice_split _ (λ x. eqb x 0x2E) c.args.name.now (cc) (cc) (cc)
    (λ x b q k. search (rules, tests))) c.loop-segment.yielded _ c.loop-segment.yielded_by _ _ c.in-None.is c.next.ensures.steps in
    no_element _ (split_is _) _ _ c.loop-segment.invariant t.1
