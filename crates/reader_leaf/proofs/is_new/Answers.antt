-- `reader_leaf::is_new` meets its contract: where no slot has the mark the name is new, else it is compared. Assumes nothing.
use Rattle.blocks.proofs.Name.{false_true}
use Rattle.reader_leaf.specs.Mark.{mark_in}
use Rattle.reader_leaf.proofs.Distinct.{unmarked, mark_here, told}
use Rattle.reader_leaf.proofs.is_new.Goals as goal

pub returns-then-found-eq0 : goal.returns-then-found-eq0
returns-then-found-eq0 c = record {
  count_value = λ z. unmarked c.args.s.now c.args.apart c.args.first c.args.count c.args.at
      c.name_at.ensures
      c.mark-m.ensures
      c.if-found-eq0.true
      (c.last-found.ensures (record {
        marks = mark_in c.args.s.now c.args.apart c.args.first;
        count = c.args.count;
        linked = c.requires.5;
      }));
  linked = λ h. c.link.ensures _ c.requires.5 (mark_here _ _ _ _ _ c.name_at.ensures c.mark-m.ensures h);
}

pub returns-then-apart-gt8 : goal.returns-then-apart-gt8
returns-then-apart-gt8 c = record {
  count_value = λ z. false_true z;
  linked = λ h. c.link.ensures _ c.requires.5 (mark_here _ _ _ _ _ c.name_at.ensures c.mark-m.ensures h);
}

pub returns : goal.returns
returns c = record {
  count_value = told _ _ c.differs.ensures;
  linked = λ h. c.link.ensures _ c.requires.5 (mark_here _ _ _ _ _ c.name_at.ensures c.mark-m.ensures h);
}
