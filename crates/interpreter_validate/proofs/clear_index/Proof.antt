-- `clear_index` meets its contract: the first words and those behind them are cleared one part behind the other.
use Rattle.interpreter_validate.proofs.Laws.{used_few, first_fits, cleared_apart}
use Rattle.reader_calls.proofs.Laws.{used_within}
use lib.Seq.{length-take-le}
use lib.ListN.{length, drop}
use Prim.Native.Nat.{◌≤◌}
use mathlib.Core.List.{◌++◌}
use mathlib.Core.Path.{refl, sym}
use native.Mathlib.Omega.{arith}
use borrow.Author.Rules.{rules}
use Rattle.interpreter_validate.proofs.clear_index.Statement.{statement}
use Rattle.interpreter_validate.proofs.clear_index.Tie as tie

fits : (c : tie.After-slice_known-2-1) →
    c.used-n.result
    ≤ length (c.clear_words.new.words ++ drop c.used-n.result c.args.words.now)
fits c =
    first_fits c.args.words.now c.used-n.result (used_within c.used-n.ensures) c.clear_words.ensures

used-requires : tie.Need-used-n-requires
used-requires c κs = search rules

slice-relend-prefix-clear-words : tie.Need-slice_bounds-clear_words-end
slice-relend-prefix-clear-words c = used_within c.used-n.ensures

slice-aggregate-clear-words : tie.Need-slice_bounds-clear_words-end-2
slice-aggregate-clear-words c = sym (length-take-le _ _ (used_within c.used-n.ensures))

clear-words-requires : tie.Need-clear_words-requires
clear-words-requires c κs = search rules

mul-clear-words : tie.Need-offset_bounds-words-n
mul-clear-words c = omega (arith, used_few c.used-n.ensures)

sub-clear-words : tie.Need-slice_bounds-clear_words-count
sub-clear-words c = fits c

part-clear-words-start : tie.Need-slice_bounds-clear_words-start
part-clear-words-start c = fits c

part-clear-words-end : tie.Need-slice_bounds-clear_words-end-3
part-clear-words-end c = search rules

clear-words-requires-2 : tie.Need-clear_words-requires-2
clear-words-requires-2 c κs = search rules

same_length : tie.Need-shape_of-words
same_length c = search rules

returns : tie.Need-returns
returns c =
    cleared_apart _ _ _ (used_within c.used-n.ensures) c.clear_words.ensures _ _ refl c.clear_words-2.ensures

pub clear_index_spec : {M : Type 1} → statement M
clear_index_spec =
    tie.close
    (tie.spec
    used-requires
    slice-relend-prefix-clear-words
    slice-aggregate-clear-words
    clear-words-requires
    mul-clear-words
    sub-clear-words
    part-clear-words-start
    part-clear-words-end
    clear-words-requires-2
    same_length
    returns)
