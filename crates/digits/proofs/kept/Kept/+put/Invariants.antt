-- What falls in the recursion of `Kept::put` is the number.
use Rattle.digits.proofs.kept.Kept.+put.Given as goal

abbrev pub decreases-put : goal.decreases-put
decreases-put l = l.n
