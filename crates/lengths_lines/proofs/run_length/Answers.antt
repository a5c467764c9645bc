-- `run_length` meets its contract: the buffer length stands behind the name of an accepted run.
use Rattle.lengths_lines.proofs.Laws.{length_name, length_inside, length_is}
use Rattle.lengths_lines.proofs.run_length.Goals as goal

pub read2-n-requires : goal.read2-n-requires
read2-n-requires c = length_name c.requires

pub read8-requires : goal.read8-requires
read8-requires c = length_inside c.requires c.read2-n.ensures.0

pub returns : goal.returns
returns c =
    length_is c.requires c.read2-n.ensures.0 c.read8.ensures
