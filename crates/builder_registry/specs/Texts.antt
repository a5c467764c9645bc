-- The texts of made parameters: their paths, what their names end with, and their descriptions.
use Rattle.std.specs.Prelude as std
use Rattle.std.specs.Prelude.{Some, None}
use Rattle.std.proofs.Math.Option.{Option, some, none}
use Rattle.blocks.specs.Name.{Name, ascii}
use Rattle.builder_registry.specs.declared.Made.{Made}
use Rattle.builder_registry.specs.declared.Made.TheVariants.{ComputedTag, Variant, PayloadSize}

abbrev pub made_path : Made → Name
made_path ComputedTag = ascii "__computed_tag"
made_path Variant = ascii "__variant"
made_path PayloadSize = ascii "__payload_size"

abbrev pub made_end : Made → Name
made_end ComputedTag = ascii ".computed_tag"
made_end Variant = ascii ".variant"
made_end PayloadSize = ascii ".payload_size"

abbrev pub made_text : Made → Name
made_text ComputedTag = ascii "Computed enum tag expression"
made_text Variant = ascii "Active union variant selector"
made_text PayloadSize = ascii "Runtime payload size (bytes) selecting size-discriminated variant"

-- the description of an entry: that of its made parameter, or none
abbrev pub describing : std.Option Made → Option Name
describing None = none
describing (Some made) = some (made_text made)
