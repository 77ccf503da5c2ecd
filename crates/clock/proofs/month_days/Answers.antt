-- `month_days` meets its contract: a month ends where the next one begins, and December has 31 days.
use mathlib.Core.Path.{◌≡◌, ap}
use native.Mathlib.Omega.{arith}
use Rattle.clock.specs.Date.{month_days}
use Rattle.clock.proofs.Calendar.{next_month, december}
use Rattle.clock.proofs.month_days.Goals as goal

pub returns-then-month-eq11 : goal.returns-then-month-eq11
returns-then-month-eq11 c =
    let a = c.args in
    let e : month_days a.leap a.month ≡ month_days a.leap 11 = ap (month_days a.leap) (omega arith) in
    omega (arith, december a.leap)

pub overflow_sub-result : goal.overflow_sub-result
overflow_sub-result c = omega (arith, next_month c.args.leap c.args.month)

pub returns : goal.returns
returns c = omega (arith, next_month c.args.leap c.args.month)
