-- `digits::read_padded` keeps: the bytes passed are the digits of n.
use mathlib.Core.Path.{refl}
use native.Mathlib.Omega.{arith}
use Rattle.digits.proofs.Strings.{decimal}
use Rattle.digits.proofs.Readers.{none_passed, one_passed, stopped, all_passed, room}
use Rattle.digits.proofs.read_padded.Goals as goal

pub returns-then-s-gt19 : goal.returns-then-s-gt19
returns-then-s-gt19 c = λ n q. omega (arith, q.short)

pub loop-b-init : goal.loop-b-init
loop-b-init c = none_passed _ (omega arith)

pub returns-then-not-is_ascii_digit : goal.returns-then-not-is_ascii_digit
returns-then-not-is_ascii_digit c = λ n q. stopped c.loop-b.invariant (omega arith) (λ d p. omega (arith, p.byte, p.value, c.if-not-is_ascii_digit.ensures.cases)) q.spelled.digits

pub overflow_mul-n : goal.overflow_mul-n
overflow_mul-n c = omega (arith, room c.loop-b.invariant decimal 18 (omega arith) (omega arith) (omega arith))

pub overflow_add-n : goal.overflow_add-n
overflow_add-n c = omega (arith, room c.loop-b.invariant decimal 18 (omega arith) (omega arith) (omega arith))

pub loop-b-preserved : goal.loop-b-preserved
loop-b-preserved c = one_passed c.loop-b.invariant (omega arith) (record { value = omega (arith, c.if-not-is_ascii_digit.ensures.cases); byte = omega (arith, c.if-not-is_ascii_digit.ensures.cases) })

pub returns : goal.returns
returns c =
    let p = c.loop-b.invariant in
    record { spelled = record { digits = all_passed p (omega arith); width = refl }; short = p.few }
