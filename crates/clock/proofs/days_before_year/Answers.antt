-- `days_before_year` meets its contract: the quotients count the leap years.
use native.Mathlib.Omega.{arith}
use Rattle.clock.proofs.Calendar.{quotients}
use Rattle.clock.proofs.days_before_year.Goals as goal

pub returns : goal.returns
returns c = omega (arith, quotients c.args.year c.requires.0)
