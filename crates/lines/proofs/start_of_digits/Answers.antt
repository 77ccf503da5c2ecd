-- `lines::start_of_digits` refuses no digits that give a start: each test holds of any.
use native.Mathlib.Omega.{arith}
use borrow.Author.Tests.{eqb-false}
use Rattle.digits.specs.inner.Answer.{ReadDecimal, ReadPadded}
use Rattle.digits.proofs.Theorems.{padded_below}
use Rattle.lines.proofs.Lines.{few_days, digits_one}
use Rattle.lines.proofs.start_of_digits.Goals as goal

pub start_of-start-requires : goal.start_of-start-requires
start_of-start-requires c =
    let day : ReadDecimal c.args.day.now c.in_ok-days.days = rw c.in_ok-days.was at c.read_decimal.ensures in
    let fraction : ReadPadded c.args.fraction.now c.in_ok-parts.parts = rw c.in_ok-parts.was at c.read_padded.ensures in
    (few_days day.spelled (omega arith), grind (arith, eqb-false), omega arith, padded_below fraction.spelled)

pub returns-then-start-gt-START_LIMIT : goal.returns-then-start-gt-START_LIMIT
returns-then-start-gt-START_LIMIT c =
    λ s d. let day : ReadDecimal c.args.day.now c.in_ok-days.days = rw c.in_ok-days.was at c.read_decimal.ensures in
    let fraction : ReadPadded c.args.fraction.now c.in_ok-parts.parts = rw c.in_ok-parts.was at c.read_padded.ensures in
    let e = digits_one day.spelled fraction.spelled c.start_of-start.ensures d in
    let l = d.limit in omega arith
