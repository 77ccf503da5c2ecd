-- The parts of a line one by one, each as a relation between a number and its bytes. No public promise cites this file.
use Rattle.std.specs.Prelude.{ℕ, ◌+◌, ◌*◌, ◌≤◌, ◌<◌, ◌≡◌, List}
use Rattle.base.specs.Limits.{last_bus}
use Rattle.digits.specs.Digits.{Decimal, Hex}
use Rattle.clock.specs.declared.CalendarDay.{CalendarDay}
use Rattle.clock.specs.declared.DayTime.{DayTime}
use Rattle.clock.specs.Date.{Date, last_day}
use Rattle.ascii_line.specs.Line.{date_text, time_text, message_type_text, channel_text, direction_text}

-- The date of a day up to the last one.
pub record DatePart (days : ℕ) (f : List ℕ) : Type 0 where
  pub date : CalendarDay
  pub bytes : f ≡ date_text date
  pub is : Date days date
  pub last : days ≤ last_day

-- A time of a day, in steps of 100 microseconds since it began.
pub record TimePart (n : ℕ) (f : List ℕ) : Type 0 where
  pub time : DayTime
  pub bytes : f ≡ time_text time
  pub hour : time.hour < 24
  pub minute : time.minute < 60
  pub second : time.second < 60
  pub part : time.part < 10000
  pub count : n ≡ ((time.hour * 60 + time.minute) * 60 + time.second) * 10000 + time.part

-- The type: 0 or, for an extended ID, 1.
pub record TypePart (extended : ℕ) (f : List ℕ) : Type 0 where
  pub bytes : f ≡ message_type_text extended
  pub few : extended ≤ 1

-- The number of a channel, 0 to 16, no leading zero.
pub record ChannelNumber (channel : ℕ) (f : List ℕ) : Type 0 where
  pub spelled : Decimal channel f
  pub high : channel ≤ last_bus

-- `#` and the channel, 0 to 16.
pub record ChannelPart (channel : ℕ) (f : List ℕ) : Type 0 where
  pub bytes : f ≡ channel_text channel
  pub high : channel ≤ last_bus

-- The direction: 0 received, 1 sent.
pub record DirectionPart (kind : ℕ) (f : List ℕ) : Type 0 where
  pub bytes : f ≡ direction_text kind
  pub few : kind ≤ 1

-- Three digits up to 7FF, or eight up to 1FFFFFFF.
pub record IdPart (extended id : ℕ) (f : List ℕ) : Type 0 where
  pub digits : Hex (3 + 5 * extended) id f
  pub standard : extended ≡ 0 → id ≤ 0x7FF
  pub long : id ≤ 0x1FFFFFFF
