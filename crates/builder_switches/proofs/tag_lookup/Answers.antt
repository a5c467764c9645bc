-- A path of over 511 bytes is no entry's. Any other is joined in a buffer, and looked up under the owner, then under its parent.
use Rattle.std.proofs.Common.{refl}
use Rattle.builder_switches.proofs.Tags.{tag_long, tag_found, tag_other}
use Rattle.builder_switches.proofs.tag_lookup.Goals as goal

pub returns-then-m-gt511 : goal.returns-then-m-gt511
returns-then-m-gt511 c =
    tag_long _ c.joined_length-m.ensures c.if-m-gt511.true c.requires.0.standing c.requires.0.owned

pub returns-in-Some : goal.returns-in-Some
returns-in-Some c =
    tag_found _
    c.joined_length-m.ensures
    c.if-m-gt511.false refl
    c.put_joined.ensures
    c.lookup_name.ensures.looked
    c.in-Some.is

pub returns-in-None : goal.returns-in-None
returns-in-None c =
    tag_other _
    c.joined_length-m.ensures
    c.if-m-gt511.false refl
    c.put_joined.ensures
    c.lookup_name.ensures.looked
    c.in-None.is
    c.lookup_qualified.ensures.looked
