-- What a line of Telemotive ASCII is that is read back: a relation between a stamp, a record and the bytes of a line. The parts are those of the
-- export's own line (ascii_line/specs/Line). In words: docs/FORMAT.md, section 15.
use Rattle.std.specs.Prelude.{ℕ, ◌+◌, ◌*◌, ◌^◌, ◌≤◌, ◌≡◌, List, [], ◌∷◌, ◌++◌}
use Rattle.base.specs.Limits.{last_bus}
use Rattle.base.specs.Text.{blank}
use Rattle.digits.specs.Digits.{Hex}
use Rattle.clock.specs.declared.DateTime.{DateTime}
use Rattle.clock.specs.Date.{last_day}
use Rattle.clock.specs.Stamp.{ticks, Stamp}
use Rattle.record.specs.declared.Record.{Record}
use Rattle.fields.specs.Parted.{Parted}
use Rattle.row.specs.Row.{Nothing, ByteFields}
use Rattle.ascii_line.specs.Line.{date_text, time_text, parts_with}

-- No blank stands at the end.
abbrev pub Tight : List ℕ → Type 0
Tight line = (s : List ℕ) → line ≡ s ++ (blank ∷ []) → ⊥

-- The line is these parts, with one blank or more between two, and none at the ends.
pub record Apart (parts : List (List ℕ)) (line : List ℕ) : Type 0 where
  pub parted : Parted parts line
  pub first : (s : List ℕ) → line ≡ blank ∷ s → ⊥
  pub last : Tight line

-- The parts of the line of a stamp and a record: date and time, and what the export writes behind them on the channel with the number of its
-- bus, the ID and the data in hexadecimal digits of either letter case. The offset is no part of the line.
pub record LineParts (s : DateTime) (r : Record) (parts : List (List ℕ)) : Type 0 where
  pub id : List ℕ
  pub bytes : List (List ℕ)
  pub are : parts ≡ date_text s.date ∷ time_text s.time ∷ parts_with r.bus r id bytes
  pub id_hex : Hex (3 + 5 * r.extended) r.id id
  pub byte_digits : ByteFields Nothing (256 ^ 7) r.len r.«data» bytes

-- The same record with this offset.
abbrev pub with_offset : ℕ → Record → Record
with_offset offset r =
    record {
      offset = offset;
      bus = r.bus;
      kind = r.kind;
      extended = r.extended;
      id = r.id;
      len = r.len;
      «data» = r.«data»;
    }

-- The microseconds from the beginning of day 0 to a stamp.
abbrev pub instant : DateTime → ℕ
instant s = 100 * ticks s.time

-- The date exists, and the time is one of that day: it is the stamp that is given to that instant. The last day is day 99,999.
pub record StampFits (s : DateTime) : Type 0 where
  pub exists : Stamp 0 (instant s) s
  pub last : s.time.days ≤ last_day

-- Channel 0 to 16, received or sent, a standard ID up to 7FF or an extended one up to 1FFFFFFF, length 0 to 8.
pub record FrameFits (r : Record) : Type 0 where
  pub channel : r.bus ≤ last_bus
  pub kind : r.kind ≤ 1
  pub extended : r.extended ≤ 1
  pub standard : r.extended ≡ 0 → r.id ≤ 0x7FF
  pub id : r.id ≤ 0x1FFFFFFF
  pub len : r.len ≤ 8

-- The line is that of a stamp and a record.
pub record AsciiLine (s : DateTime) (r : Record) (line : List ℕ) : Type 0 where
  pub parts : List (List ℕ)
  pub apart : Apart parts line
  pub spelled : LineParts s r parts
  pub stamp : StampFits s
  pub frame : FrameFits r
