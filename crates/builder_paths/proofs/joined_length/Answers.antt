-- `builder_paths::joined_length` meets its contract: eight bytes for each array, and the last dot only before a path.
-- Assumes nothing.
use Rattle.builder_paths.proofs.Paths.{long_bare, long_empty, long_both}
use Rattle.builder_paths.proofs.joined_length.Goals as goal

pub returns-then-depth-eq0 : goal.returns-then-depth-eq0
returns-then-depth-eq0 c = long_bare c.path_length-n.ensures.value c.if-depth-eq0.true

pub returns-then-n-eq0 : goal.returns-then-n-eq0
returns-then-n-eq0 c =
    long_empty c.path_length-n.ensures.value c.if-depth-eq0.false c.if-n-eq0.true

pub returns : goal.returns
returns c =
    long_both c.path_length-n.ensures.value c.if-depth-eq0.false c.if-n-eq0.false
