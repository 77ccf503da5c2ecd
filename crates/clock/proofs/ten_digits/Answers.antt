-- `ten_digits` meets its contract: it puts a digit 0 after the fraction for each that is missing.
use native.Mathlib.Omega.{arith}
use Rattle.clock.proofs.Starts.{with_zeros}
use Rattle.clock.proofs.ten_digits.Goals as goal

pub overflow_mul-result : goal.overflow_mul-result
overflow_mul-result c =
    let z = with_zeros c.args.fraction c.args.digits c.requires.0 c.requires.1 in
    rw c.pow.ensures (omega arith)

pub returns : goal.returns
returns c = rw c.pow.ensures (with_zeros c.args.fraction c.args.digits c.requires.0 c.requires.1)
