-- `ascii_line_reader::stamp::four` reads two digits, and two behind them.
use mathlib.Core.List.{[]}
use native.Mathlib.Omega.{arith}
use Rattle.digits.proofs.Theorems.{padded_below}
use Rattle.ascii_line_reader.proofs.Digits.{both, first_none, second_none}
use Rattle.ascii_line_reader.proofs.stamp.four.Goals as goal

pub returns-in_err-high : goal.returns-in_err-high
returns-in_err-high c = rw c.from_residual.ensures (first_none 2 2 [] c.args.w.now c.args.at c.in_err-high.ensures)

pub returns-in_err-low : goal.returns-in_err-low
returns-in_err-low c = rw c.from_residual-in_err-low.ensures (second_none 2 2 c.in_ok-high.ensures [] c.in_err-low.ensures)

pub overflow_mul-result : goal.overflow_mul-result
overflow_mul-result c = let h = padded_below c.in_ok-high.ensures.padded in omega arith

pub overflow_add-result : goal.overflow_add-result
overflow_add-result c =
    let h = padded_below c.in_ok-high.ensures.padded in
    let l = padded_below c.in_ok-low.ensures.padded in
    omega arith

pub returns : goal.returns
returns c = both 2 2 c.in_ok-high.ensures c.in_ok-low.ensures
