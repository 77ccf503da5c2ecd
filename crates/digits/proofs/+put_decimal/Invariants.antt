-- What falls in the recursion of `digits::put_decimal` is the number.
use Rattle.digits.proofs.+put_decimal.Given as goal

abbrev pub decreases-put_decimal : goal.decreases-put_decimal
decreases-put_decimal l = l.n
