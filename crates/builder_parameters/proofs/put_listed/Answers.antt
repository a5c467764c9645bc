-- `put_listed`: of each entry, listed or not, the mark that goes on is the one that `mark_name` answered with.
use Rattle.builder_parameters.proofs.Pass.{going_pass, going_put, going_end, going_high}
use Rattle.builder_parameters.proofs.put_listed.Goals as goal
use Rattle.builder_parameters.proofs.put_listed.Goals.{then-is_listed, else-is_listed}

pub loop-i-preserved : goal.loop-i-preserved
loop-i-preserved c = elim c.if-is_listed.branch [
  | then-is_listed w ↦
      rw (w.out-is, w.p-is, w.count-is) (
        going_put c.loop-i.invariant.0 c.loop-i-test.true c.is_listed.ensures.value c.mark_name-marked.ensures.owner_marked
            c.is_listed.ensures.linked c.is_listed.auto.table
            w.if-is_listed.true w.put_parameter-p.ensures.wrote w.put_parameter-p.ensures.lower_bound w.put_parameter-p.auto.out,
        c.mark_name-marked.ensures.start_value,
      )
  | else-is_listed w ↦
      rw (w.out-is, w.p-is, w.count-is) (
        going_pass c.loop-i.invariant.0 c.loop-i-test.true c.is_listed.ensures.value c.mark_name-marked.ensures.owner_marked
            c.is_listed.ensures.linked c.is_listed.auto.table
            w.if-is_listed.false,
        c.mark_name-marked.ensures.start_value,
      )
]

pub returns : goal.returns
returns c = record {
  wrote = going_end c.loop-i.invariant.0 c.requires.ready c.loop-i-test.false c.put_le.ensures.wrote;
  lower_bound = going_high c.loop-i.invariant.0 c.requires.ready;
}
