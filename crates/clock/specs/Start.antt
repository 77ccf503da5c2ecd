-- The start of a trace: from a day count and a decimal fraction of a day to milliseconds, and back. In words: docs/FORMAT.md, sections 4 and 9.
use Rattle.std.specs.Prelude.{ℕ, suc, ◌+◌, ◌*◌, ◌^◌, ◌≤◌, ◌<◌}

-- The milliseconds of a day.
abbrev pub day_ms : ℕ
day_ms = 86400000

-- The last start that a trace may have: the last millisecond before day 100,000.
abbrev pub start_limit : ℕ
start_limit = 8639999999999

-- The exact decimal days + fraction / 10 ^ digits, times the milliseconds of a day, to nearest, halves up, is ms:
-- that product is at least ms - 1/2 and below ms + 1/2. Both sides stand here times 2 * 10 ^ digits, as whole numbers.
pub record Start (days fraction digits ms : ℕ) : Type 0 where
  pub low : 2 * ms * 10 ^ digits ≤ 2 * day_ms * (days * 10 ^ digits + fraction) + 10 ^ digits
  pub high : 2 * day_ms * (days * 10 ^ digits + fraction) + 10 ^ digits < 2 * suc ms * 10 ^ digits

-- The fraction of ten digits that is written for the millisecond ms of a day:
-- ms * 10 ^ 10 / day_ms, to nearest, halves up, is f. Both sides stand here times 2 * day_ms.
pub record DayFraction (ms f : ℕ) : Type 0 where
  pub low : 2 * f * day_ms ≤ 2 * 10 ^ 10 * ms + day_ms
  pub high : 2 * 10 ^ 10 * ms + day_ms < 2 * suc f * day_ms
