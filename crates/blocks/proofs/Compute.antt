-- What a proof by computation opens: `unfolding compute` unfolds every definition of this crate.
use Rattle.blocks.specs.Bytes.{le, bytes}
use Rattle.blocks.specs.Utf8.{utf8_char, begun, rest_of, utf8_octets}
use Rattle.blocks.specs.Name.{allowed, well_formed, is_text, same, less, among}
use Rattle.blocks.specs.Grammar.{grammar, node_table, find_row, parts_of}
use Rattle.blocks.specs.Tree.{part, entries, view, part_or, part_view}
use Rattle.blocks.specs.Read.{in_order, name_of, read_text, read_key, read_number, read_flag, read_if, read_optional, in_type, read_literal, read_count, read_entries, read_list, read_value, read_part, read_parts, read_header, read_block, small, read_input}
use Rattle.blocks.specs.Write.{write}

-- has no value of interest: a proof that unfolds it unfolds what it names; here names and question 3
unfoldable pub names : Unit {0}
unfolding utf8_char begun rest_of utf8_octets allowed well_formed is_text same less among
names = tt

-- parts of a block, read one by one
unfoldable pub parts : Unit {0}
unfolding in_order name_of read_text read_key read_number read_flag read_if read_optional in_type read_literal read_count read_entries read_list read_value read_part read_parts
parts = tt

-- all
unfoldable pub compute : Unit {0}
unfolding le bytes names grammar node_table find_row parts_of part entries view part_or part_view parts read_header read_block small read_input write
compute = tt
