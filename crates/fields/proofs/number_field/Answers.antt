-- `fields::number_field` refuses no row number: each test holds of any (`number_shape`).
use native.Mathlib.Omega.{arith}
use Rattle.fields.proofs.Window.{inside}
use Rattle.fields.proofs.DigitFields.{number_lead, number_shape, number_accept}
use Rattle.fields.proofs.number_field.Goals as goal
use Rattle.fields.proofs.number_field.Goals.{then-e-at-via-then-e-at, then-e-at-via-else-e-at+then-at-e}

pub returns-then-w-at-eq48 : goal.returns-then-w-at-eq48
returns-then-w-at-eq48 c = λ f rest a v p. number_lead c.args.w.now c.args.at a p c.if-w-at-eq48.true

pub returns-then-e-at : goal.returns-then-e-at
returns-then-e-at c =
    λ f rest a v p.
    let h = number_shape c.decimal-s.ensures a p in
    elim c.then-e-at.branch [ then-e-at-via-then-e-at w ↦ omega arith | then-e-at-via-else-e-at+then-at-e w ↦ omega arith ]

pub bounds-w-e : goal.bounds-w-e
bounds-w-e c = omega (arith, inside c.args.w.now c.decimal-s.result.end c.decimal-s.ensures.lined)

pub returns-then-w-e-ne41 : goal.returns-then-w-e-ne41
returns-then-w-e-ne41 c =
    λ f rest a v p. let h = number_shape c.decimal-s.ensures a p in c.if-w-e-ne41.true h.bracketed

pub returns-then-not-ends : goal.returns-then-not-ends
returns-then-not-ends c = λ f rest a v p. let h = number_shape c.decimal-s.ensures a p in c.if-not-ends.ensures h.stop

pub returns : goal.returns
returns c =
    number_accept c.decimal-s.ensures c.if-w-at-eq48.false
    (record {
      some = let l = c.decimal-s.ensures.from in omega arith;
      few = omega arith;
      bracketed = c.if-w-e-ne41.false;
      stop = c.if-not-ends.ensures;
    })
