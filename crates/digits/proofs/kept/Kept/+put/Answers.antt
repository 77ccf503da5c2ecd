-- `Kept::put` calls itself on the number over ten, then puts its last digit, down to the number whose digits are kept.
use Rattle.std.proofs.Common.{ℕ, ◌≡◌, length, arith, ap, refl}
use Rattle.base.proofs.Lists.{then}
use Rattle.digits.specs.House.{decimal_text}
use Rattle.digits.proofs.House.{one, step, length_one, length_step}
use Rattle.digits.proofs.kept.Kept.+put.Goals as goal

pub put_text-requires : goal.put_text-requires
put_text-requires t c =
    let e : c.args.n ≡ c.args.self.now.number = omega arith in
    omega (arith, ap length c.args.self.now.kept.text, ap (λ (k : ℕ). length (decimal_text k)) e)

pub returns-then-n-self : goal.returns-then-n-self
returns-then-n-self t c =
    let e : c.args.n ≡ c.args.self.now.number = omega arith in
    rw e (rw c.args.self.now.kept.text at c.put_text.ensures)

pub bounds-out-at : goal.bounds-out-at
bounds-out-at t c = omega (arith, length_one c.args.n c.if-n-lt10.true)

pub returns-then-n-lt10 : goal.returns-then-n-lt10
returns-then-n-lt10 t c = rw (one c.args.n c.if-n-lt10.true) (record { next = refl; stored = refl })

pub put-q-requires : goal.put-q-requires
put-q-requires t c = (omega arith, omega (arith, length_step c.args.n c.if-n-lt10.false))

pub bounds-out-q : goal.bounds-out-q
bounds-out-q t c = omega (arith, length_step c.args.n c.if-n-lt10.false)

pub overflow_add-result-2 : goal.overflow_add-result-2
overflow_add-result-2 t c = omega (arith, length_step c.args.n c.if-n-lt10.false)

pub returns : goal.returns
returns t c = rw (step c.args.n c.if-n-lt10.false) (then c.put-q.ensures (record { next = refl; stored = refl }))
