-- `cases::time::start` meets what `start_of` requires: the digits of a fraction are below the power of ten of their width.
use Rattle.std.proofs.Common.{arith}
use Rattle.digits.proofs.Theorems.{padded_below}
use Rattle.cases.proofs.time.start.Goals as goal

pub start_of-requires : goal.start_of-requires
start_of-requires g c = (omega arith, omega arith, omega arith, padded_below c.in-Some.ensures.spelled)
