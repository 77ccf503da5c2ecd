-- `month_of` meets its contract: the guess is the month or the one before it.
use Prim.Native.Nat.{◌+◌, ◌/◌}
use mathlib.Core.Path.{◌≡◌, ap}
use native.Mathlib.Omega.{arith}
use Rattle.clock.specs.Date.{before}
use Rattle.clock.proofs.Calendar.{guess, next_month, whole_year}
use Rattle.clock.proofs.month_of.Goals as goal
use Rattle.clock.proofs.month_of.Goals.{then-guess-lt11+else-next-day, else-guess-lt11}

pub returns-then-next-day : goal.returns-then-next-day
returns-then-next-day c =
    let a = c.args in
    let m = a.day / 31 + 1 in
    omega (arith, guess a.leap m (omega arith) (omega arith), next_month a.leap m)

pub overflow_sub-result-2 : goal.overflow_sub-result-2
overflow_sub-result-2 c =
    let a = c.args in
    omega (arith, guess a.leap (a.day / 31) (omega arith) (omega arith))

pub returns : goal.returns
returns c =
    let a = c.args in
    let m = a.day / 31 in
    let g = guess a.leap m (omega arith) (omega arith) in
    let n = next_month a.leap m in
    elim c.if-guess-lt11.branch [
      | then-guess-lt11+else-next-day w ↦ omega arith
      | else-guess-lt11 w ↦
          let e : before a.leap (m + 1) ≡ before a.leap 12 = ap (before a.leap) (omega arith) in
          omega (arith, whole_year a.leap)
    ]
