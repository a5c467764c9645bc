-- Flag, length, owner, colon and path one behind the other.
use mathlib.Core.Path.{refl}
use Rattle.builder_nodes.proofs.Parts.{size_text}
use Rattle.builder_nodes.proofs.put_size_text.Goals as goal

pub returns-clause-wrote : goal.returns-clause-wrote
returns-clause-wrote c = size_text _ _ refl c.put_text_flag-p.ensures.wrote c.put_le-q.ensures.wrote c.put_from-u.ensures.wrote
    c.put_byte-v.ensures.wrote c.put_from.ensures.wrote
