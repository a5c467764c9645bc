-- `ends_with` meets its contract: the library compares the last bytes of the name, as many as the end has.
use Rattle.builder_names.proofs.Strip.{ends_is}
use Rattle.builder_names.proofs.ends_with.Goals as goal

pub returns : goal.returns
returns c = rw c.ends_with.ensures.value (ends_is _ _)
