-- The cases that paper 01 marks P, "On either side of a limit", as one table. In words: docs/FORMAT.md, section 13.
use Rattle.std.specs.Prelude.{ℕ, ◌+◌, ◌*◌, ◌<◌, List, [], ◌∷◌}
use Prim.Native.String.{String}
use Rattle.base.specs.Text.{text}
use Rattle.clock.specs.declared.CalendarDay.{CalendarDay}
use Rattle.clock.specs.Start.{day_ms}
use Rattle.clock.specs.Date.{Date}
use Rattle.lines.specs.Lines.{StartLine}
use Rattle.record.specs.declared.Record.{Record}
use Rattle.record.specs.Record.{Packs}
use Rattle.row.specs.Row.{Row}

pub data Case : Type 0 where
  -- a start line gives this start
  starts : String → ℕ → Case
  -- it leaves so many milliseconds in this day
  leaves : String → ℕ → ℕ → Case
  -- a line is no start line at all: 5
  no_start : String → Case
  -- in a version, a line is row 1, of this record
  taken : ℕ → String → Record → Case
  -- it is row 1 of no record
  refused : ℕ → String → Case
  -- it is row 1 of a record that is packed as these bytes, as the first of a list: with mark 0
  packed : ℕ → String → List ℕ → Case
  -- a day is this date
  dated : ℕ → CalendarDay → Case

-- What a case says of the definitions.
abbrev pub Holds : Case → Type 0
Holds (starts line ms) = StartLine ms (text line)
Holds (leaves line day ms) = StartLine (day * day_ms + ms) (text line) × (ms < day_ms)
Holds (no_start line) = (ms : ℕ) → StartLine ms (text line) → ⊥
Holds (taken version line r) = Row version 1 r (text line)
Holds (refused version line) = (r : Record) → Row version 1 r (text line) → ⊥
Holds (packed version line bytes) = (r : Record) × Row version 1 r (text line) × Packs r 0 bytes
Holds (dated day date) = Date day date

-- A frame received at offset 0 of version 1.1, all its data 0.
abbrev pub received11 : ℕ → ℕ → ℕ → ℕ → Record
received11 kind extended id len = record { offset = 0; bus = 0; kind = kind; extended = extended; id = id; len = len; «data» = 0 }

abbrev pub table : List Case
table =
    -- day 0.0 starts at 0
    starts ";$STARTTIME=0.0" 0
    -- 37704.5364870833
    ∷ starts ";$STARTTIME=37704.5364870833" 3257671952484
    -- 39878.6772258947 leaves 58,512,317 ms in its day
    ∷ leaves ";$STARTTIME=39878.6772258947" 39878 58512317
    -- 99999.9999999999 is 5
    ∷ no_start ";$STARTTIME=99999.9999999999"
    -- ID 07FF taken
    ∷ taken 11 "1) 0.0 Rx 07FF 0" (received11 0 0 0x7FF 0)
    -- 0800 refused
    ∷ refused 11 "1) 0.0 Rx 0800 0"
    -- 1FFFFFFF taken
    ∷ taken 11 "1) 0.0 Rx 1FFFFFFF 0" (received11 0 1 0x1FFFFFFF 0)
    -- 20000000 refused
    ∷ refused 11 "1) 0.0 Rx 20000000 0"
    -- length 0 with no bytes taken
    ∷ taken 11 "1) 0.0 Rx 0123 0" (received11 0 0 0x123 0)
    -- length 0 with one byte refused
    ∷ refused 11 "1) 0.0 Rx 0123 0 0A"
    -- length 8 with `RTR` taken
    ∷ taken 11 "1) 0.0 Rx 0123 8 RTR" (received11 2 0 0x123 8)
    -- record 1
    ∷ packed 12 "1) 0.000 1 Rx 0123 2 0A FF" (0 ∷ 0 ∷ 0 ∷ 0 ∷ 0 ∷ 0 ∷ 8 ∷ 0 ∷ 0 ∷ 4 ∷ 0x8C ∷ 0x82 ∷ 0xBF ∷ 0xC0 ∷ 0 ∷ 0 ∷ 0 ∷ 0 ∷ 0 ∷ 0 ∷ [])
    -- day 36585 is 29.02.2000
    ∷ dated 36585 (record { day = 29; month = 2; year = 2000 })
    ∷ []

-- Every case of a list.
pub data Every (P : Case → Type 0) : List Case → Type 0 where
  none : Every P []
  more : {c : Case} {cs : List Case} → P c → Every P cs → Every P (c ∷ cs)
