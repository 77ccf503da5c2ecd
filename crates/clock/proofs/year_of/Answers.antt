-- `year_of` meets its contract: a year has 365 or 366 days, so that the guess is the year or the one before it.
use Prim.Native.Nat.{◌+◌, ◌-◌, ◌/◌}
use native.Mathlib.Omega.{arith}
use Rattle.clock.proofs.Calendar.{years, next_year}
use Rattle.clock.proofs.year_of.Goals as goal

pub returns-then-next-count : goal.returns-then-next-count
returns-then-next-count c =
    let y = 1899 + c.args.count / 366 + 1 in
    omega (arith, next_year y (omega arith), years (y + 1 - 1899))

pub overflow_sub-result-2 : goal.overflow_sub-result-2
overflow_sub-result-2 c = omega (arith, years (1899 + c.args.count / 366 - 1899))

pub returns : goal.returns
returns c =
    let y = 1899 + c.args.count / 366 in
    omega (arith, next_year y (omega arith), years (y - 1899))
