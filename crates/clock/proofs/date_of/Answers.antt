-- `date_of` meets its contract: the year, the month and the day that it takes the day count apart into are the date.
use native.Mathlib.Omega.{arith}
use Rattle.clock.proofs.Calendar.{leap_small}
use Rattle.clock.proofs.Dates.{made}
use Rattle.clock.proofs.date_of.Goals as goal

pub month_of-m-requires : goal.month_of-m-requires
month_of-m-requires c = omega (arith, leap_small c.year_of-y.result.year)

pub returns : goal.returns
returns c =
    let y = c.year_of-y.ensures in
    let m = c.month_of-m.ensures in
    made _ _ _ _ _ _ y.0 y.1 c.leap_of.ensures m.0 m.1 m.2
