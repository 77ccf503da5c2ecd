-- `digits::read_hex` keeps: the bytes passed are the digits of n.
use mathlib.Core.Path.{refl}
use native.Mathlib.Omega.{arith}
use Rattle.digits.proofs.Strings.{hex}
use Rattle.digits.proofs.Readers.{none_passed, one_passed, stopped, all_passed, room}
use Rattle.digits.proofs.read_hex.Goals as goal

pub returns-then-s-gt16 : goal.returns-then-s-gt16
returns-then-s-gt16 c = λ n q. omega (arith, q.short)

pub loop-b-init : goal.loop-b-init
loop-b-init c = none_passed _ (omega arith)

pub returns-in_err-digit : goal.returns-in_err-digit
returns-in_err-digit c = rw c.from_residual.ensures (λ n q. stopped c.loop-b.invariant (omega arith) c.in_err-digit.ensures q.spelled.digits)

pub overflow_mul-n : goal.overflow_mul-n
overflow_mul-n c = omega (arith, room c.loop-b.invariant hex 15 (omega arith) (omega arith) (omega arith))

pub overflow_add-n : goal.overflow_add-n
overflow_add-n c = omega (arith, room c.loop-b.invariant hex 15 (omega arith) (omega arith) (omega arith), hex.small c.in_ok-digit.ensures)

pub loop-b-preserved : goal.loop-b-preserved
loop-b-preserved c = one_passed c.loop-b.invariant (omega arith) (rw c.wide.ensures.0 c.in_ok-digit.ensures)

pub returns : goal.returns
returns c =
    let p = c.loop-b.invariant in
    record { spelled = record { digits = all_passed p (omega arith); width = refl }; short = p.few }
