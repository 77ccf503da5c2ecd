-- What `day_of` answers.
use Rattle.std.specs.Prelude.{ℕ, ◌≤◌}
use Rattle.clock.specs.declared.CalendarDay.{CalendarDay}
use Rattle.clock.specs.Date.{last_day, Date}

-- The day n is a date, up to the last one that is read.
pub record DayWithin (d : CalendarDay) (n : ℕ) : Type 0 where
  pub day : Date n d
  pub within : n ≤ last_day
