-- Limits that more than one layer has. In words: docs/FORMAT.md, section 6.
use Rattle.std.specs.Prelude.{ℕ}

-- The most digits of an offset's milliseconds.
abbrev pub offset_digits : ℕ
offset_digits = 12

-- The largest offset, in microseconds: the whole of the 48 bits that a record has for it.
abbrev pub offset_limit : ℕ
offset_limit = 281474976710655

-- The last bus, and so the last channel of a line of Telemotive ASCII.
abbrev pub last_bus : ℕ
last_bus = 16
