-- `clear_used` meets its contract: the first words and those behind them are cleared one part behind the other.
use Rattle.interpreter_validate.proofs.Laws.{used_few, first_fits, cleared_apart}
use Rattle.reader_calls.proofs.Laws.{used_within}
use lib.Seq.{length-take-le}
use lib.ListN.{length, drop}
use Prim.Native.Nat.{◌≤◌}
use mathlib.Core.List.{◌++◌}
use mathlib.Core.Path.{refl, sym}
use native.Mathlib.Omega.{arith}
use borrow.Author.Rules.{rules}
use Rattle.interpreter_validate.proofs.clear_used.Statement.{statement}
use Rattle.interpreter_validate.proofs.clear_used.Tie as tie

fits : (c : tie.After-slice_known-2-1) →
    c.used-calls.result
    ≤ length (c.clear_words.new.words ++ drop c.used-calls.result c.args.words.now)
fits c =
    first_fits c.args.words.now c.used-calls.result (used_within c.used-calls.ensures) c.clear_words.ensures

used-requires : tie.Need-used-calls-requires
used-requires c κs = search rules

slice-relend-prefix-clear-words : tie.Need-slice_bounds-clear_words-end
slice-relend-prefix-clear-words c = used_within c.used-calls.ensures

slice-aggregate-clear-words : tie.Need-slice_bounds-clear_words-end-2
slice-aggregate-clear-words c = sym (length-take-le _ _ (used_within c.used-calls.ensures))

clear-words-requires : tie.Need-clear_words-requires
clear-words-requires c κs = search rules

mul-clear-index : tie.Need-offset_bounds-words-calls
mul-clear-index c = omega (arith, used_few c.used-calls.ensures)

sub-clear-index : tie.Need-slice_bounds-clear_index-count
sub-clear-index c = fits c

part-clear-index-start : tie.Need-slice_bounds-clear_index-start
part-clear-index-start c = fits c

part-clear-index-end : tie.Need-slice_bounds-clear_index-end
part-clear-index-end c = search rules

clear-index-requires : tie.Need-clear_index-requires
clear-index-requires c κs = search rules

same_length : tie.Need-shape_of-words
same_length c = search rules

returns : tie.Need-returns
returns c =
    cleared_apart _ _ _ (used_within c.used-calls.ensures) c.clear_words.ensures _ _ refl c.clear_index.ensures

pub clear_used_spec : {M : Type 1} → statement M
clear_used_spec =
    tie.close
    (tie.spec
    used-requires
    slice-relend-prefix-clear-words
    slice-aggregate-clear-words
    clear-words-requires
    mul-clear-index
    sub-clear-index
    part-clear-index-start
    part-clear-index-end
    clear-index-requires
    same_length
    returns)
