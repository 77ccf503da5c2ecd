-- `fields::offset_field` refuses no offset: each test holds of any (`offset_shape`).
use Prim.Native.Nat.{ℕ, ◌+◌, ◌*◌, ◌-◌, ◌^◌, ◌≤◌}
use mathlib.Core.Path.{◌≡◌, ap}
use mathlib.Core.Logic.{◌⊎◌, ⊎_elim}
use native.Mathlib.Omega.{arith}
use Rattle.fields.proofs.Window.{inside}
use Rattle.fields.proofs.DigitFields.{goes_on, offset_shape, offset_accept, scan_below}
use Rattle.fields.proofs.offset_field.Goals as goal
use Rattle.fields.proofs.offset_field.Goals.{else-w-at-eq48-via-then-w-at-eq48+else-at-e, else-w-at-eq48-via-else-w-at-eq48}

-- a trace has one digit or three after the point
three : {digits : ℕ} → (digits ≡ 1) ⊎ (digits ≡ 3) → digits ≤ 3
three h = ⊎_elim (λ e. omega arith) (λ e. omega arith) h

pub returns-then-e-at : goal.returns-then-e-at
returns-then-e-at c = λ f rest a v p. let h = offset_shape (three c.requires.1) c.decimal-s.ensures a p in omega arith

pub returns-then-at-e : goal.returns-then-at-e
returns-then-at-e c =
    λ f rest a v p. let h = offset_shape (three c.requires.1) c.decimal-s.ensures a p in h.lead c.if-at-e.true c.if-w-at-eq48.true

pub bounds-w-e : goal.bounds-w-e
bounds-w-e c = omega (arith, inside c.args.w.now c.decimal-s.result.end c.decimal-s.ensures.lined)

pub returns-then-w-e-ne46 : goal.returns-then-w-e-ne46
returns-then-w-e-ne46 c =
    λ f rest a v p. let h = offset_shape (three c.requires.1) c.decimal-s.ensures a p in c.if-w-e-ne46.true h.point

pub decimal-t-requires : goal.decimal-t-requires
decimal-t-requires c = goes_on c.args.w.now c.decimal-s.result.end 46 c.decimal-s.ensures.lined c.if-w-e-ne46.false (omega arith)

pub returns-then-f-e : goal.returns-then-f-e
returns-then-f-e c =
    λ f rest a v p.
    let h = (offset_shape (three c.requires.1) c.decimal-s.ensures a p).tail c.decimal-t.ensures in c.if-f-e.true (omega arith)

pub returns-then-not-ends : goal.returns-then-not-ends
returns-then-not-ends c =
    λ f rest a v p.
    let h = (offset_shape (three c.requires.1) c.decimal-s.ensures a p).tail c.decimal-t.ensures in c.if-not-ends.ensures h.stop

pub overflow_mul-value : goal.overflow_mul-value
overflow_mul-value c = omega (arith, scan_below c.decimal-s.ensures)

pub micros-requires : goal.micros-requires
micros-requires c = (scan_below c.decimal-t.ensures, c.requires.1)

pub overflow_add-value : goal.overflow_add-value
overflow_add-value c = omega (arith, scan_below c.decimal-s.ensures, scan_below c.decimal-t.ensures, c.micros.ensures.1)

pub returns-then-value-gt-OFFSET_LIMIT : goal.returns-then-value-gt-OFFSET_LIMIT
returns-then-value-gt-OFFSET_LIMIT c =
    λ f rest a v p.
    let h = ((offset_shape (three c.requires.1) c.decimal-s.ensures a p).tail c.decimal-t.ensures).within in
    let g = rw (← (ap (λ (n : ℕ). c.decimal-s.result.value * 1000 + n) c.micros.ensures.0)) at h in
    omega arith

pub returns : goal.returns
returns c =
    let s = c.decimal-s.result.value in
    let e : s * 1000 + c.micros.result ≡ s * 1000 + c.decimal-t.result.value * 10 ^ (3 - c.args.digits) =
    ap (λ (n : ℕ). s * 1000 + n) c.micros.ensures.0 in
    let f = c.decimal-s.ensures.from in
    let g = c.decimal-t.ensures.from in
    offset_accept _ c.decimal-s.ensures c.decimal-t.ensures (omega arith)
    (λ l z. elim c.else-w-at-eq48.branch [
      | else-w-at-eq48-via-then-w-at-eq48+else-at-e w ↦ absurd (omega arith)
      | else-w-at-eq48-via-else-w-at-eq48 w ↦ w.if-w-at-eq48.false z
    ])
    c.if-w-e-ne46.false
    (record { width = omega arith; stop = c.if-not-ends.ensures; within = rw (← e) (omega arith) }) e
