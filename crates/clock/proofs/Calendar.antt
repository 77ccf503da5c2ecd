-- The calendar: leap years and how many there are, the lengths of years and months, and guesses by them.
use Prim.Native.Nat.{ℕ, zero, suc, ◌+◌, ◌*◌, ◌-◌, ◌/◌, ◌%◌, ◌≤◌, ◌<◌}
use mathlib.Core.Path.{◌≡◌, refl}
use mathlib.Core.Bool.{Bool, true, false, cond, not, ◌&&◌, ◌||◌}
use native.Mathlib.Nat.{add-suc}
use native.Mathlib.Decide.{ℕ_discrete}
use native.Mathlib.Numerals.{add-one}
use native.Mathlib.Omega.{arith}
use borrow.Author.Tests.{eq-eqb, ne_eqb}
use lib.Dec.{T, leb, leb→le}
use Rattle.base.proofs.Tables.{both, both_left, both_right, every, at}
use Rattle.clock.proofs.Quotients.{at_multiple, between}
use Rattle.clock.specs.Date.{divides, leap, months, month_days, before, before_year}

-- The rule of leap years, by its four cases.
pub not_by_4 : (y : ℕ) → (y % 4 ≡ 0 → ⊥) → leap y ≡ 0
unfolding leap
not_by_4 y h =
    let p : y % 400 ≡ 0 → ⊥ = λ e. h (omega arith) in
    rw (ne_eqb (y % 400) 0 p, ne_eqb (y % 4) 0 h)

pub not_by_100 : (y : ℕ) → y % 4 ≡ 0 → (y % 100 ≡ 0 → ⊥) → leap y ≡ 1
unfolding leap
not_by_100 y e h =
    let p : y % 400 ≡ 0 → ⊥ = λ e. h (omega arith) in
    rw (ne_eqb (y % 400) 0 p, eq-eqb (y % 4) 0 e, ne_eqb (y % 100) 0 h)

pub not_by_400 : (y : ℕ) → y % 100 ≡ 0 → (y % 400 ≡ 0 → ⊥) → leap y ≡ 0
unfolding leap
not_by_400 y e h =
    let p : y % 4 ≡ 0 = omega arith in
    rw (ne_eqb (y % 400) 0 h, eq-eqb (y % 4) 0 p, eq-eqb (y % 100) 0 e)

pub by_400 : (y : ℕ) → y % 400 ≡ 0 → leap y ≡ 1
unfolding leap
by_400 y e = rw (eq-eqb (y % 400) 0 e)

-- The multiples of 4, less those of 100, with those of 400, count the leap years: one year more.
abbrev Counted : ℕ → Type 0
Counted n = suc n / 4 + suc n / 400 + n / 100 ≡ n / 4 + n / 400 + suc n / 100 + leap (suc n)

counted : (n : ℕ) → Counted n
counted n = by4 (ℕ_discrete (suc n % 4) 0)
  where
    miss : (c : ℕ) → 0 < c → (suc n % c ≡ 0 → ⊥) → suc n / c ≡ n / c
    miss c = between c n

    hit : (c : ℕ) → 0 < c → suc n % c ≡ 0 → suc n / c ≡ suc (n / c)
    hit c = at_multiple c n

    by400 : suc n % 100 ≡ 0 → Dec (suc n % 400 ≡ 0) → Counted n
    by400 e (no h) =
        rw (not_by_400 (suc n) e h, hit 4 (omega arith) (omega arith), hit 100 (omega arith) e, miss 400 (omega arith) h)
        (omega arith)
    by400 e (yes f) =
        rw (by_400 (suc n) f, hit 4 (omega arith) (omega arith), hit 100 (omega arith) e, hit 400 (omega arith) f)
        (omega arith)

    by100 : suc n % 4 ≡ 0 → Dec (suc n % 100 ≡ 0) → Counted n
    by100 e (no h) =
        let f : suc n % 400 ≡ 0 → ⊥ = λ f. h (omega arith) in
        rw (not_by_100 (suc n) e h, hit 4 (omega arith) e, miss 100 (omega arith) h, miss 400 (omega arith) f) (omega arith)
    by100 e (yes f) = by400 f (ℕ_discrete (suc n % 400) 0)

    by4 : Dec (suc n % 4 ≡ 0) → Counted n
    by4 (no h) =
        let e : suc n % 100 ≡ 0 → ⊥ = λ e. h (omega arith) in
        let f : suc n % 400 ≡ 0 → ⊥ = λ f. h (omega arith) in
        rw (not_by_4 (suc n) h, miss 4 (omega arith) h, miss 100 (omega arith) e, miss 400 (omega arith) f) (omega arith)
    by4 (yes e) = by100 e (ℕ_discrete (suc n % 100) 0)

-- The days before a year by quotients.
closed : (k : ℕ) → before_year k + 460 + (1898 + k) / 100 ≡ 365 * k + (1898 + k) / 4 + (1898 + k) / 400
unfolding before_year
closed zero = refl
closed (suc k) =
    let e : 1899 + k ≡ suc (1898 + k) = omega arith in
    rw (e, add-suc 1898 k) (sum _ _ _ _ _ _ _ _ k (closed k) (counted (1898 + k)))
  where
    sum : (b a4 a100 a400 c4 c100 c400 l k : ℕ) → b + 460 + a100 ≡ 365 * k + a4 + a400
        → c4 + c400 + a100 ≡ a4 + a400 + c100 + l → b + 365 + l + 460 + c100 ≡ 365 * suc k + c4 + c400
    sum b a4 a100 a400 c4 c100 c400 l k p q = omega arith

pub quotients : (y : ℕ) → 1899 ≤ y
    → before_year (y - 1899) + 460 + (y - 1) / 100 ≡ 365 * (y - 1899) + (y - 1) / 4 + (y - 1) / 400
quotients y h =
    let e : 1898 + (y - 1899) ≡ y - 1 = omega arith in
    rw e at (closed (y - 1899))

-- 0 or 1.
pub leap_small : (y : ℕ) → leap y < 2
unfolding leap
leap_small y = small (divides 400 y || (divides 4 y && not (divides 100 y)))
  where
    small : (b : Bool) → cond {A = ℕ} b 1 0 < 2
    small true = omega arith
    small false = omega arith

-- A year has 365 or 366 days.
pub years : (k : ℕ) → (365 * k ≤ before_year k) × (before_year k ≤ 366 * k)
unfolding before_year
years zero = omega arith
years (suc k) = omega (arith, years k, leap_small (1899 + k))

pub one_year : (k : ℕ) → before_year (suc k) ≡ before_year k + 365 + leap (1899 + k)
unfolding before_year
one_year k = refl

-- The days before the next year, and before the next month.
pub next_year : (y : ℕ) → 1899 ≤ y → before_year (y + 1 - 1899) ≡ before_year (y - 1899) + 365 + leap y
next_year y h =
    let e : y + 1 - 1899 ≡ suc (y - 1899) = omega arith in
    let f : 1899 + (y - 1899) ≡ y = omega arith in
    rw e (rw f at (one_year (y - 1899)))

pub next_month : (row m : ℕ) → before row (m + 1) ≡ before row m + month_days row m
unfolding before
next_month row m = rw add-one

-- A month has at most 31 days.
pub month_small : (row m : ℕ) → row < 2 → m < 12 → month_days row m ≤ 31
unfolding month_days
month_small zero m r h = leb→le _ _ (at (λ (k x : ℕ). leb x 31) 0 (months 0) tt m h)
month_small (suc zero) m r h = leb→le _ _ (at (λ (k x : ℕ). leb x 31) 0 (months 1) tt m h)
month_small (suc (suc row)) m r h = absurd (omega arith)

-- And at least 28.
pub month_long : (row m : ℕ) → row < 2 → m < 12 → 28 ≤ month_days row m
unfolding month_days
month_long zero m r h = leb→le _ _ (at (λ (k x : ℕ). leb 28 x) 0 (months 0) tt m h)
month_long (suc zero) m r h = leb→le _ _ (at (λ (k x : ℕ). leb 28 x) 0 (months 1) tt m h)
month_long (suc (suc row)) m r h = absurd (omega arith)

-- December has 31 days in both kinds of year.
pub december : (row : ℕ) → month_days row 11 ≡ 31
unfolding month_days
december row = refl

-- The days before January, before December and before the next January.
pub no_month : (row : ℕ) → before row 0 ≡ 0
unfolding before
no_month row = refl

pub last_month : (row : ℕ) → before row 11 ≡ 334 + row
unfolding before month_days
last_month row = omega arith

pub whole_year : (row : ℕ) → before row 12 ≡ 365 + row
unfolding before month_days
whole_year row = omega arith

-- A test of a month: 31 days for each month before it lie in the month, or end it.
abbrev tested : ℕ → ℕ → ℕ → Bool
tested row m x = both (leb (before row m) (31 * m)) (leb (31 * m) (before row (suc m)))

by_test : (row m : ℕ) → T (every (tested row) 0 (months row)) → m < 12
    → (before row m ≤ 31 * m) × (31 * m ≤ before row (suc m))
by_test row m t h =
    let p = leb (before row m) (31 * m) in
    let q = leb (31 * m) (before row (suc m)) in
    let u = at (tested row) 0 (months row) t m h in
    (leb→le _ _ (both_left p q u), leb→le _ _ (both_right p q u))

-- A guess by 31 days a month is the month or the one before it, in both kinds of year.
pub guess : (row m : ℕ) → row < 2 → m < 12 → (before row m ≤ 31 * m) × (31 * m ≤ before row (m + 1))
unfolding before month_days
guess zero m r h = rw (add-one m) (by_test 0 m tt h)
guess (suc zero) m r h = rw (add-one m) (by_test 1 m tt h)
guess (suc (suc row)) m r h = absurd (omega arith)
