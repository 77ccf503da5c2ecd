-- Starts and day fractions: each input has one, more digits say the same, and reading back what was written.
use Prim.Native.Nat.{ℕ, ◌+◌, ◌*◌, ◌-◌, ◌/◌, ◌^◌, ◌≤◌, ◌<◌}
use mathlib.Core.Path.{◌≡◌, ap, sym, ◌∙◌}
use native.Mathlib.Nat.{pow-le-pow_right, mul_assoc, mul-le-mul_right, mul-lt-mul_of_pos_right}
use native.Mathlib.Omega.{arith}
use lib.Pow.{pow-add}
use Rattle.clock.specs.Start.{day_ms, Start, DayFraction}
use Rattle.clock.proofs.Quotients.{one_bracket, some_bracket}

pub ten_pos : (k : ℕ) → 0 < 10 ^ k
ten_pos k =
    let h : 0 ≤ k = omega arith in
    pow-le-pow_right (omega arith) h

-- A day count and a fraction give one start.
pub one_start : {days fraction digits m n : ℕ} → Start days fraction digits m → Start days fraction digits n
    → m ≡ n
one_start {days} {fraction} {digits} a b =
    one_bracket (2 * 10 ^ digits) (2 * day_ms * (days * 10 ^ digits + fraction) + 10 ^ digits)
    (omega arith) (omega arith) (omega arith) (omega arith)

-- Each day count and fraction give a start.
pub some_start : (days fraction digits : ℕ) → (ms : ℕ) × Start days fraction digits ms
some_start days fraction digits =
    let c = 2 * 10 ^ digits in
    let x = 2 * day_ms * (days * 10 ^ digits + fraction) + 10 ^ digits in
    let b = some_bracket c x (omega (arith, ten_pos digits)) in
    (x / c, record { low = omega arith; high = omega arith })

-- A millisecond of a day has one fraction.
pub one_fraction : {ms f g : ℕ} → DayFraction ms f → DayFraction ms g → f ≡ g
one_fraction a b = omega arith

-- Each millisecond has a fraction.
pub some_fraction : (ms : ℕ) → (f : ℕ) × DayFraction ms f
some_fraction ms = ((ms * 6250 + 27) / 54, record { low = omega arith; high = omega arith })

-- The fraction of a millisecond of a day has ten digits at most: nothing is carried into the next day.
pub fraction_fits : {ms f : ℕ} → DayFraction ms f → ms < day_ms → f < 10 ^ 10
fraction_fits a h = omega arith

-- The fraction that is written for a millisecond, read with ten digits on any day, is that millisecond of the day.
pub back : {ms f : ℕ} (days : ℕ) → DayFraction ms f → Start days f 10 (days * day_ms + ms)
back days a = record { low = omega arith; high = omega arith }

-- And it is no other.
pub back_only : {ms f x : ℕ} (days : ℕ) → DayFraction ms f → Start days f 10 x → x ≡ days * day_ms + ms
back_only days a b = one_start b (back days a)

-- The same fraction with another number of digits gives the same start.
pub same_fraction : {days f g ms : ℕ} (k : ℕ) → f * 10 ^ k ≡ g * 10 ^ 10 → Start days f 10 ms → Start days g k ms
same_fraction {days} {f} {g} {ms} k e a =
    let l = mul-le-mul_right (10 ^ k) a.low in
    let h = mul-lt-mul_of_pos_right a.high (ten_pos k) in
    record { low = omega arith; high = omega arith }

-- With a digit 0 for each of the ten that is missing.
pub with_zeros : (f d : ℕ) → d ≤ 10 → f < 10 ^ d → (f * 10 ^ (10 - d) * 10 ^ d ≡ f * 10 ^ 10) × (f * 10 ^ (10 - d) < 10 ^ 10)
with_zeros f d h l =
    let k = 10 - d in
    let e : k + d ≡ 10 = omega arith in
    let p : 10 ^ k * 10 ^ d ≡ 10 ^ 10 = sym (pow-add 10 k d) ∙ ap (λ (n : ℕ). 10 ^ n) e in
    (mul_assoc f (10 ^ k) (10 ^ d) ∙ ap (λ (n : ℕ). f * n) p, omega (arith, p, mul-lt-mul_of_pos_right l (ten_pos k)))
