-- Dates: a day has one date and some date; a date is one day, and each date from 30.12.1899 on is some day.
use Prim.Native.Nat.{ℕ, suc, ◌+◌, ◌-◌, ◌≤◌, ◌<◌}
use mathlib.Core.Path.{◌≡◌, refl, ap}
use mathlib.Core.Logic.{◌⊎◌, ⊎_elim}
use native.Mathlib.Numerals.{add-one}
use native.Mathlib.Omega.{arith}
use Rattle.clock.specs.declared.CalendarDay.{CalendarDay}
use Rattle.clock.specs.Date.{leap, month_days, before, before_year, InCalendar, Date, last_day}
use Rattle.clock.proofs.Places.{rises, one_place, some_place}
use Rattle.clock.proofs.Calendar.{leap_small, month_small, years, one_year, next_month}
use Rattle.clock.proofs.Calendar.{no_month, last_month, whole_year}

years_grow : (k : ℕ) → before_year k ≤ before_year (suc k)
years_grow k = omega (arith, one_year k)

module _ (row : ℕ) where
  months_grow : (m : ℕ) → before row m ≤ before row (suc m)
  months_grow m = rw (← add-one m) (omega (arith, next_month row m))

  within_month : (m z : ℕ) → z < month_days row m → before row m + z < before row (suc m)
  within_month m z h = rw (← add-one m) (omega (arith, next_month row m))

  pub within_year : (m z : ℕ) → m < 12 → z < month_days row m → before row m + z < 365 + row
  within_year m z l h =
      omega (arith, within_month m z h, rises (before row) months_grow (suc m) 12 (omega arith), whole_year row)

-- The day of its year, counted from 0, that a date is.
abbrev year_day : CalendarDay → ℕ
year_day d = before (leap d.year) (d.month - 1) + (d.day - 1)

in_year : (d : CalendarDay) → InCalendar d → before_year (d.year - 1899) + year_day d < before_year (suc (d.year - 1899))
in_year d c =
    let e : leap (1899 + (d.year - 1899)) ≡ leap d.year = ap leap (omega arith) in
    let w = within_year (leap d.year) (d.month - 1) (d.day - 1) (omega arith) (omega arith) in
    omega (arith, one_year (d.year - 1899))

-- In one kind of year a day has one month and one place in it.
one_month : (row row' j x k y : ℕ) → row ≡ row' → before row j + x ≡ before row' k + y
    → x < month_days row j → y < month_days row' k → (j ≡ k) × (x ≡ y)
one_month row row' j x k y e s p q =
    let f : before row k ≡ before row' k = ap (λ (r : ℕ). before r k) e in
    let g : month_days row k ≡ month_days row' k = ap (λ (r : ℕ). month_days r k) e in
    let h : y < month_days row k = omega arith in
    one_place (before row) (months_grow row) j x k y (omega arith) (within_month row j x p) (within_month row k y h)

-- A day has one date.
pub one_date : {days : ℕ} {d e : CalendarDay} → Date days d → Date days e → d ≡ e
one_date {days} {d} {e} p q =
    let r = one_place before_year years_grow (d.year - 1899) (year_day d) (e.year - 1899) (year_day e) (omega arith)
    (in_year d p.calendar) (in_year e q.calendar) in
    let y : d.year ≡ e.year = omega arith in
    let s = one_month (leap d.year) (leap e.year) (d.month - 1) (d.day - 1) (e.month - 1) (e.day - 1) (ap leap y)
    r.1 (omega arith) (omega arith) in
    let m : d.month ≡ e.month = omega arith in
    let w : d.day ≡ e.day = omega arith in
    λ i. record { day = w i; month = m i; year = y i }

-- A date is one day.
pub one_day : {days days' : ℕ} {d : CalendarDay} → Date days d → Date days' d → days ≡ days'
one_day p q = omega arith

-- A day of the month has two digits at most, and the year four.
pub small_day : {days : ℕ} {d : CalendarDay} → Date days d → d.day ≤ 31
small_day {days} {d} p =
    let m : d.month - 1 < 12 = omega arith in
    omega (arith, month_small (leap d.year) (d.month - 1) (leap_small d.year) m)

pub small_year : {days : ℕ} {d : CalendarDay} → days ≤ 130000 → Date days d → d.year < 10000
small_year {days} {d} h p = omega (arith, years (d.year - 1899))

-- Up to the last day the year is 2173 at most.
pub last_year : {days : ℕ} {d : CalendarDay} → days ≤ last_day → Date days d → d.year ≤ 2173
last_year {days} {d} h p = omega (arith, years (d.year - 1899))

-- A year y, a day x of it, and the month m and day z that x is, counted from 0, are a date.
pub made : (days y x row m z : ℕ) → 1899 ≤ y → days + 363 ≡ before_year (y - 1899) + x → row ≡ leap y
    → m < 12 → x ≡ before row m + z → z < month_days row m → Date days (record { day = z + 1; month = m + 1; year = y })
made days y x row m z h e r l f k =
    let b : before row m ≡ before (leap y) m = ap (λ (r : ℕ). before r m) r in
    let n : month_days row m ≡ month_days (leap y) m = ap (λ (r : ℕ). month_days r m) r in
    let g : m + 1 - 1 ≡ m = omega arith in
    record {
      calendar = record {
        year = h;
        first_month = omega arith;
        last_month = omega arith;
        first_day = omega arith;
        in_month = rw g (omega arith);
      };
      count = rw g (omega arith);
    }

-- Each day has a date.
pub some_date : (days : ℕ) → (d : CalendarDay) × Date days d
some_date days =
    let n = days + 363 in
    let s = some_place before_year n (suc n) (omega (arith, years 0)) (omega (arith, years (suc n))) in
    let k = s.place in
    let row = leap (1899 + k) in
    let x = n - before_year k in
    let l : x < before row 12 = omega (arith, whole_year row, one_year k, s.high, s.low) in
    let t = some_place (before row) x 12 (omega (arith, no_month row)) l in
    let m = t.place in
    let e : before row (suc m) ≡ before row m + month_days row m = rw (add-one m) at (next_month row m) in
    let y : 1899 + k - 1899 ≡ k = omega arith in (
      record { day = x - before row m + 1; month = m + 1; year = 1899 + k },
      made days (1899 + k) x row m (x - before row m) (omega arith) (rw y (omega (arith, s.low))) refl t.within
          (omega (arith, t.low)) (omega (arith, t.low, t.high)),
    )

-- Each date from 30.12.1899 on is a day.
pub some_day : (d : CalendarDay) → InCalendar d → (1900 ≤ d.year) ⊎ ((d.month ≡ 12) × (30 ≤ d.day))
    → (days : ℕ) × Date days d
some_day d c h =
    let row = leap d.year in
    let n = before_year (d.year - 1899) + before row (d.month - 1) + (d.day - 1) in
    let l : 363 ≤ n =
    ⊎_elim (λ p. omega (arith, years (d.year - 1899)))
    (λ p.
    let e : before row (d.month - 1) ≡ before row 11 = ap (before row) (omega arith) in
    omega (arith, last_month row))
    h in
    (n - 363, record { calendar = c; count = omega arith })
