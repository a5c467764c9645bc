-- What a proof by computation opens: the questions that are put to a part, one behind the other.
use Rattle.errors.proofs.Compute.{compute as asked}
use Rattle.blocks.specs.Read.{in_order, read_part, in_type, read_text, read_number, read_flag, read_literal, read_count, read_header}
use Rattle.reader_leaf.specs.Answer.{forget, head_of, count_of, read_entry}
use Rattle.reader_leaf.specs.Seen.{Valid, Here, earlier_of}

-- has no value of interest: a proof that unfolds it unfolds what it names
unfoldable pub compute : Unit {0}
unfolding asked in_type read_text read_number read_flag read_literal read_count read_header forget head_of count_of
compute = tt

-- what is kept of the blocks before, and what it stands for
unfoldable pub seen : Unit {0}
unfolding Valid Here earlier_of in_order
seen = tt

-- which reader a part has
unfoldable pub plain : Unit {0}
unfolding read_part read_entry
plain = tt
