-- `fields::bus_field` refuses no bus: each test holds of any (`bus_shape`).
use mathlib.Core.Logic.{⊎_elim}
use native.Mathlib.Omega.{arith}
use Rattle.fields.proofs.Window.{inside}
use Rattle.fields.proofs.DigitFields.{bus_lead, bus_shape, bus_accept}
use Rattle.fields.proofs.bus_field.Goals as goal

pub returns-then-w-at-eq48 : goal.returns-then-w-at-eq48
returns-then-w-at-eq48 c = λ f rest a v p. bus_lead c.args.w.now c.args.at a p c.if-w-at-eq48.true

pub returns-then-e-at : goal.returns-then-e-at
returns-then-e-at c =
    λ f rest a v p.
    let h = bus_shape c.decimal-s.ensures a p in ⊎_elim (λ e. omega arith) (λ e. omega arith) c.then-e-at.either

pub bounds-w-e : goal.bounds-w-e
bounds-w-e c = omega (arith, inside c.args.w.now c.decimal-s.result.end c.decimal-s.ensures.lined)

pub returns-then-not-ends : goal.returns-then-not-ends
returns-then-not-ends c = λ f rest a v p. let h = bus_shape c.decimal-s.ensures a p in c.if-not-ends.ensures h.stop

pub returns : goal.returns
returns c =
    bus_accept c.decimal-s.ensures c.if-w-at-eq48.false
    (record { some = let l = c.decimal-s.ensures.from in omega arith; high = omega arith; stop = c.if-not-ends.ensures })
