-- `put_digits` meets its contract. The measure is the number of digits that are left.
use Rattle.lengths_lines.proofs.+put_digits.Given as goal

abbrev pub decreases-put_digits : goal.decreases-put_digits
decreases-put_digits l = l.k
