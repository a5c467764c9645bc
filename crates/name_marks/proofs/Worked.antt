-- Marks of some names by a sum, by computation. The test in judge/driver/src/slow.rs has the numbers of those of eight bytes and more.
use Rattle.std.proofs.Common.{◌≡◌, refl}
use Rattle.blocks.specs.Name.{ascii}
use Rattle.blocks.proofs.Compute.{compute as blocks}
use Rattle.name_marks.specs.Mark.{step, short_of, short_mark, sum_from, sum_mark_of}

-- has no value of interest: a proof that unfolds it unfolds what it names
unfoldable compute : Unit {0}
unfolding blocks step short_of short_mark sum_from sum_mark_of
compute = tt

-- less than eight bytes
pub mark_of_six : sum_mark_of (ascii "legs.n") ≡ 10078614095914861927
unfolding compute
mark_of_six = refl

-- eight bytes, which are the last
pub mark_of_eight : sum_mark_of (ascii "abcdefgh") ≡ 9919595624331532684
unfolding compute
mark_of_eight = refl

-- nine, of which seven are taken twice
pub mark_of_nine : sum_mark_of (ascii "abcdefghi") ≡ 9737636600716664590
unfolding compute
mark_of_nine = refl

-- three eights
pub mark_of_three_eights : sum_mark_of (ascii "aaaaaaaabbbbbbbbcccccccc") ≡ 11834403638736806878
unfolding compute
mark_of_three_eights = refl

-- two of them change places: the mark stays
pub mark_with_eights_swapped : sum_mark_of (ascii "bbbbbbbbaaaaaaaacccccccc") ≡ 11834403638736806878
unfolding compute
mark_with_eights_swapped = refl

-- a sum that passes 2 ^ 64
pub mark_of_a_large_sum : sum_mark_of (ascii "zzzzzzzzzzzzzzzzzzzzzzzzzzzzzzzz") ≡ 11629930687621600819
unfolding compute
mark_of_a_large_sum = refl
