-- `in_month` meets its contract: a month has at least 28 days.
use native.Mathlib.Omega.{arith}
use borrow.Author.Tests.{le-leb}
use Rattle.clock.proofs.Calendar.{month_long}
use Rattle.clock.proofs.in_month.Goals as goal

pub returns-then-day-le28 : goal.returns-then-day-le28
returns-then-day-le28 c =
    let a = c.args in
    rw (le-leb a.day 28 c.if-day-le28.true) (omega (arith, month_long a.leap a.month c.requires.0 c.requires.1))
