-- The Gregorian calendar: which day, month and year a day count is. In words: docs/FORMAT.md, sections 10 and 15.
use Rattle.std.specs.Prelude.{ℕ, zero, suc, ◌+◌, ◌-◌, ◌%◌, ◌≤◌, ◌≡◌, Bool, cond, not, ◌&&◌, ◌||◌, List, [], ◌∷◌, eqb, get_or}
use Rattle.clock.specs.declared.CalendarDay.{CalendarDay}

-- Whether d divides n.
abbrev pub divides : ℕ → ℕ → Bool
divides d n = eqb (n % d) 0

-- 1 for a leap year, 0 for a common one: a year that 400 divides, or that 4 divides and 100 does not, is a leap year.
unfoldable pub leap : ℕ → ℕ
leap year = cond (divides 400 year || (divides 4 year && not (divides 100 year))) 1 0

-- The days of the months of a common year (leap 0) and of a leap year (leap 1).
abbrev pub months : ℕ → List ℕ
months leap = 31 ∷ (28 + leap) ∷ 31 ∷ 30 ∷ 31 ∷ 30 ∷ 31 ∷ 31 ∷ 30 ∷ 31 ∷ 30 ∷ 31 ∷ []

-- The days of the month before which m months of the year have passed: 0 for January.
unfoldable pub month_days : ℕ → ℕ → ℕ
month_days leap m = get_or (months leap) m 0

-- The days of the first m months of a year.
unfoldable pub before : ℕ → ℕ → ℕ
before leap zero = 0
before leap (suc m) = before leap m + month_days leap m

-- The days of the k years from 1899 on.
unfoldable pub before_year : ℕ → ℕ
before_year zero = 0
before_year (suc k) = before_year k + 365 + leap (1899 + k)

-- Some day of the calendar from 1899 on: a month of the year and a day of that month.
pub record InCalendar (d : CalendarDay) : Type 0 where
  pub year : 1899 ≤ d.year
  pub first_month : 1 ≤ d.month
  pub last_month : d.month ≤ 12
  pub first_day : 1 ≤ d.day
  pub in_month : d.day ≤ month_days (leap d.year) (d.month - 1)

-- The date that so many days after 30.12.1899 is: the days before its year, before its month and before its day,
-- counted from the beginning of 1899. 30.12.1899 itself, day 0, has 363 days of 1899 before it.
pub record Date (days : ℕ) (d : CalendarDay) : Type 0 where
  pub calendar : InCalendar d
  pub count : days + 363 ≡ before_year (d.year - 1899) + before (leap d.year) (d.month - 1) + (d.day - 1)

-- The last day that the stamp of a line may lie on where it is read: its last millisecond is `start_limit`.
abbrev pub last_day : ℕ
last_day = 99999
