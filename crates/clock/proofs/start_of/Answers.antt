-- `start_of` meets its contract: the quotient is the start of the fraction with ten digits, and so of the fraction.
use native.Mathlib.Omega.{arith}
use Rattle.clock.proofs.Starts.{same_fraction}
use Rattle.clock.proofs.start_of.Goals as goal

pub returns : goal.returns
returns c =
    same_fraction c.args.digits c.ten_digits-f.ensures.0
    (record { low = omega arith; high = omega arith })
