-- `day_within` meets its contract: the days before the year, the month and the day are the count of the date.
use Prim.Native.Nat.{◌-◌}
use native.Mathlib.Omega.{arith}
use Rattle.base.proofs.Tests.{shown}
use Rattle.clock.specs.Date.{leap}
use Rattle.clock.proofs.Calendar.{leap_small, years}
use Rattle.clock.proofs.Dates.{within_year}
use Rattle.clock.proofs.day_within.Goals as goal

pub in_month-requires : goal.in_month-requires
in_month-requires c = omega (arith, leap_small c.args.d.year)

pub days_before-requires : goal.days_before-requires
days_before-requires c = omega (arith, leap_small c.args.d.year)

-- The count stays below 366 days for each of the years from 1899 to 2173.
pub overflow_add-count : goal.overflow_add-count
overflow_add-count c =
    let d = c.args.d in
    let i = rw c.leap_of-leap.ensures at (shown c.in_month.result c.if-not-in_month.false c.in_month.ensures) in
    let w = within_year (leap d.year) (d.month - 1) (d.day - 1) (omega arith) (omega (arith, i)) in
    let b = rw c.leap_of-leap.ensures at c.days_before.ensures in
    omega (arith, years (d.year - 1899), leap_small d.year, b)

pub overflow_add-count-2 : goal.overflow_add-count-2
overflow_add-count-2 c =
    let d = c.args.d in
    let i = rw c.leap_of-leap.ensures at (shown c.in_month.result c.if-not-in_month.false c.in_month.ensures) in
    let w = within_year (leap d.year) (d.month - 1) (d.day - 1) (omega arith) (omega (arith, i)) in
    let b = rw c.leap_of-leap.ensures at c.days_before.ensures in
    omega (arith, years (d.year - 1899), leap_small d.year, b)
