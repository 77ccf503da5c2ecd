-- What falls in the recursion of `digits::decimal_length` is the number.
use Rattle.digits.proofs.+decimal_length.Given as goal

abbrev pub decreases-decimal_length : goal.decreases-decimal_length
decreases-decimal_length l = l.n
