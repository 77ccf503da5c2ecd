-- `testing::words::key` keeps: the letters so far are the digits of its number.
use native.Mathlib.Omega.{arith}
use Rattle.digits.proofs.Readers.{none_passed, one_passed, room}
use Rattle.testing.proofs.Cutting.{letters}
use Rattle.testing.proofs.words.key.Goals as goal

pub loop-b-init : goal.loop-b-init
loop-b-init c = none_passed _ (omega arith)

pub overflow_mul-k : goal.overflow_mul-k
overflow_mul-k c = omega (arith, (room c.loop-b.invariant letters 7 (omega arith) (omega arith) (omega arith)))

pub overflow_add-k : goal.overflow_add-k
overflow_add-k c = omega (arith, (room c.loop-b.invariant letters 7 (omega arith) (omega arith) (omega arith)))

pub loop-b-preserved : goal.loop-b-preserved
loop-b-preserved c = one_passed c.loop-b.invariant (omega arith) (record { same = c.wide.ensures.0; small = c.wide.ensures.1 })
