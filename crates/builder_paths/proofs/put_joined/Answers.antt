-- `put_joined` meets its contract: the prefix and the path one behind the other; of an empty path the last dot is left out.
use Rattle.builder_paths.proofs.Paths.{put_bare, put_empty, put_both}
use Rattle.builder_paths.proofs.put_joined.Goals as goal

pub returns-then-depth-eq0 : goal.returns-then-depth-eq0
returns-then-depth-eq0 c = put_bare c.if-depth-eq0.true c.put_path.ensures

pub returns-then-path_length-eq0 : goal.returns-then-path_length-eq0
returns-then-path_length-eq0 c =
    put_empty c.path_length.ensures.value c.if-depth-eq0.false c.if-path_length-eq0.true c.put_prefix-p.ensures.wrote
    c.put_from.ensures.wrote

pub returns : goal.returns
returns c = put_both c.path_length.ensures.value c.if-depth-eq0.false c.if-path_length-eq0.false c.put_prefix-p-2.ensures.wrote
    c.put_path-2.ensures
