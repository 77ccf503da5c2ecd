-- `fields::hex_field` refuses no hexadecimal number of at most eight digits: each test holds of any (`hex_shape`).
use native.Mathlib.Omega.{arith}
use Rattle.fields.proofs.Window.{inside}
use Rattle.fields.proofs.DigitFields.{hex_shape, hex_accept}
use Rattle.fields.proofs.hex_field.Goals as goal
use Rattle.fields.proofs.hex_field.Goals.{then-e-at-via-then-e-at, then-e-at-via-else-e-at+then-at-e}

pub returns-then-e-at : goal.returns-then-e-at
returns-then-e-at c =
    λ f rest a v p.
    let h = hex_shape c.hexadecimal-s.ensures a p in
    elim c.then-e-at.branch [ then-e-at-via-then-e-at w ↦ omega arith | then-e-at-via-else-e-at+then-at-e w ↦ omega arith ]

pub bounds-w-e : goal.bounds-w-e
bounds-w-e c = omega (arith, inside c.args.w.now c.hexadecimal-s.result.end c.hexadecimal-s.ensures.lined)

pub returns-then-not-ends : goal.returns-then-not-ends
returns-then-not-ends c = λ f rest a v p. let h = hex_shape c.hexadecimal-s.ensures a p in c.if-not-ends.ensures h.stop

pub returns : goal.returns
returns c =
    hex_accept c.hexadecimal-s.ensures
    (record { some = let l = c.hexadecimal-s.ensures.from in omega arith; few = omega arith; stop = c.if-not-ends.ensures })
