-- `ascii_line_reader::stamp::time_field` refuses no time: each test holds of any.
use native.Mathlib.Omega.{arith}
use Rattle.base.proofs.Tests.{shown, refuted}
use Rattle.digits.proofs.Theorems.{padded_below}
use Rattle.ascii_line_reader.proofs.Stamps.{no_hour, no_minute, no_second, no_part, hour_is, minute_is, second_is, time_ends, time_accept}
use Rattle.ascii_line_reader.proofs.stamp.time_field.Goals as goal

pub returns-in_err-hour : goal.returns-in_err-hour
returns-in_err-hour c = rw c.from_residual.ensures (λ f rest a v p. no_hour c.args.w.now c.args.at a p c.in_err-hour.ensures)

pub returns-then-hour-gt23 : goal.returns-then-hour-gt23
returns-then-hour-gt23 c = λ f rest a v p. let e = hour_is a p c.in_ok-hour.ensures in omega (arith, p.hour)

pub returns-in_err-minute : goal.returns-in_err-minute
returns-in_err-minute c = rw c.from_residual-in_err-minute.ensures (λ f rest a v p. no_minute a p c.in_ok-hour.ensures c.in_err-minute.ensures)

pub returns-then-minute-gt59 : goal.returns-then-minute-gt59
returns-then-minute-gt59 c = λ f rest a v p. let e = minute_is a p c.in_ok-hour.ensures c.in_ok-minute.ensures in omega (arith, p.minute)

pub returns-in_err-second : goal.returns-in_err-second
returns-in_err-second c =
    rw c.from_residual-in_err-second.ensures (λ f rest a v p. no_second a p c.in_ok-hour.ensures c.in_ok-minute.ensures c.in_err-second.ensures)

pub returns-then-second-gt59 : goal.returns-then-second-gt59
returns-then-second-gt59 c =
    λ f rest a v p. let e = second_is a p c.in_ok-hour.ensures c.in_ok-minute.ensures c.in_ok-second.ensures in omega (arith, p.second)

pub returns-in_err-part : goal.returns-in_err-part
returns-in_err-part c =
    rw c.from_residual-in_err-part.ensures
    (λ f rest a v p. no_part a p c.in_ok-hour.ensures c.in_ok-minute.ensures c.in_ok-second.ensures c.in_err-part.ensures)

pub returns-then-not-ends : goal.returns-then-not-ends
returns-then-not-ends c =
    λ f rest a v p. refuted c.ends.result c.if-not-ends.true c.ends.ensures
    (time_ends a p c.in_ok-hour.ensures c.in_ok-minute.ensures c.in_ok-second.ensures c.in_ok-part.ensures)

pub overflow_add-result-4 : goal.overflow_add-result-4
overflow_add-result-4 c = let h = padded_below c.in_ok-part.ensures.padded in omega arith

pub returns : goal.returns
returns c =
    time_accept c.in_ok-hour.ensures c.in_ok-minute.ensures c.in_ok-second.ensures c.in_ok-part.ensures c.if-hour-gt23.false c.if-minute-gt59.false
    c.if-second-gt59.false (shown c.ends.result c.if-not-ends.false c.ends.ensures)
