-- `digits::put_decimal` calls itself on the number over ten, then puts its last digit.
use Rattle.std.proofs.Common.{arith, refl}
use Rattle.base.proofs.Lists.{then}
use Rattle.digits.proofs.House.{one, step, length_one, length_step}
use Rattle.digits.proofs.+put_decimal.Goals as goal

pub bounds-out-at : goal.bounds-out-at
bounds-out-at t c = omega (arith, length_one c.args.n c.if-n-lt10.true)

pub returns-then-n-lt10 : goal.returns-then-n-lt10
returns-then-n-lt10 t c = rw (one c.args.n c.if-n-lt10.true) (record { next = refl; stored = refl })

pub put_decimal-p-requires : goal.put_decimal-p-requires
put_decimal-p-requires t c = (omega arith, omega (arith, length_step c.args.n c.if-n-lt10.false))

pub bounds-out-p : goal.bounds-out-p
bounds-out-p t c = omega (arith, length_step c.args.n c.if-n-lt10.false)

pub overflow_add-result-2 : goal.overflow_add-result-2
overflow_add-result-2 t c = omega (arith, length_step c.args.n c.if-n-lt10.false)

pub returns : goal.returns
returns t c = rw (step c.args.n c.if-n-lt10.false) (then c.put_decimal-p.ensures (record { next = refl; stored = refl }))
