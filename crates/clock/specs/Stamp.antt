-- The stamp of a record: its start plus its offset, cut down to 100 microseconds, as a date and a time of the day.
-- In words: docs/FORMAT.md, section 10.
use Rattle.std.specs.Prelude.{ℕ, suc, ◌+◌, ◌*◌, ◌≤◌, ◌<◌}
use Rattle.clock.specs.declared.DayTime.{DayTime}
use Rattle.clock.specs.declared.DateTime.{DateTime}
use Rattle.clock.specs.Date.{Date}

-- How many times 100 microseconds so many days and a time of the day are.
abbrev pub ticks : DayTime → ℕ
ticks t = (((t.days * 24 + t.hour) * 60 + t.minute) * 60 + t.second) * 10000 + t.part

-- The time that a start in milliseconds and an offset in microseconds give, cut down to 100 microseconds: not rounded.
pub record Time (start offset : ℕ) (t : DayTime) : Type 0 where
  pub low : 100 * ticks t ≤ start * 1000 + offset
  pub high : start * 1000 + offset < 100 * suc (ticks t)
  pub hour : t.hour < 24
  pub minute : t.minute < 60
  pub second : t.second < 60
  pub part : t.part < 10000

-- The same with the date of its day.
pub record Stamp (start offset : ℕ) (s : DateTime) : Type 0 where
  pub time : Time start offset s.time
  pub date : Date s.time.days s.date
