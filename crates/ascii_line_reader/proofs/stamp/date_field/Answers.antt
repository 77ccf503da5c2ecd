-- `ascii_line_reader::stamp::date_field` refuses no date: each test holds of any.
use Rattle.base.proofs.Tests.{shown, refuted}
use Rattle.ascii_line_reader.proofs.Stamps.{no_day, no_month, no_year, date_ends, date_counted, date_accept}
use Rattle.ascii_line_reader.proofs.stamp.date_field.Goals as goal

pub returns-in_err-day : goal.returns-in_err-day
returns-in_err-day c = rw c.from_residual.ensures (λ f rest a v p. no_day c.args.w.now c.args.at a p c.in_err-day.ensures)

pub returns-in_err-month : goal.returns-in_err-month
returns-in_err-month c = rw c.from_residual-in_err-month.ensures (λ f rest a v p. no_month a p c.in_ok-day.ensures c.in_err-month.ensures)

pub returns-in_err-year : goal.returns-in_err-year
returns-in_err-year c =
    rw c.from_residual-in_err-year.ensures (λ f rest a v p. no_year a p c.in_ok-day.ensures c.in_ok-month.ensures c.in_err-year.ensures)

pub returns-then-not-ends : goal.returns-then-not-ends
returns-then-not-ends c =
    λ f rest a v p. refuted c.ends.result c.if-not-ends.true c.ends.ensures
    (date_ends a p c.in_ok-day.ensures c.in_ok-month.ensures c.in_ok-year.ensures)

pub returns-in_err-day_of : goal.returns-in_err-day_of
returns-in_err-day_of c =
    rw c.from_residual-in_err-day_of.ensures
    (λ f rest a v p. date_counted a p c.in_ok-day.ensures c.in_ok-month.ensures c.in_ok-year.ensures c.in_err-day_of.ensures)

pub returns : goal.returns
returns c =
    date_accept c.in_ok-day.ensures c.in_ok-month.ensures c.in_ok-year.ensures (shown c.ends.result c.if-not-ends.false c.ends.ensures)
    c.in_ok-day_of.ensures
