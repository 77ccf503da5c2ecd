-- What the passes of the export promise each other. No public promise cites this file.
use Rattle.std.specs.Prelude.{Option, Some, None, Result, Ok, Err, ℕ, ◌+◌, ◌*◌, ◌/◌, ◌≤◌, ◌<◌, ◌≡◌, List, length}
use Rattle.base.specs.inner.Wrote.{Wrote}
use Rattle.clock.specs.declared.DateTime.{DateTime}
use Rattle.clock.specs.Stamp.{Stamp, ticks}
use Rattle.record.specs.declared.Record.{Record}
use Rattle.records.specs.Records.{PacksAll, FirstMalformed}
use Rattle.ascii_line.specs.inner.Parts.{second_text}
use Rattle.base.specs.declared.refusal.Refused.{Refused}
use Rattle.base.specs.Refusal.{number_of}
use Rattle.ascii.specs.declared.Exported.{Exported}
use Rattle.ascii.specs.Promise.{line_of, Exports, line_count, left_count}

-- How many times 100 microseconds a start and an offset are, cut down.
unfoldable pub ticks_of : ℕ → ℕ → ℕ
ticks_of start offset = (start * 1000 + offset) / 100

-- These bytes are those of every stamp of this second up to its point.
pub record Shows (head : List ℕ) (second : ℕ) : Type 0 where
  pub stamps : {start offset : ℕ} {s : DateTime} → Stamp start offset s → second ≡ ticks s.time / 10000 → head ≡ second_text s

-- How many bytes the line of a record is, with any stamp, or that it is left out.
abbrev pub LineBytes : ℕ → Record → Option ℕ → Type 0
LineBytes channel r (Some n) = (r.kind ≤ 1) × ((s : DateTime) → n ≡ length (line_of channel s r)) × (n ≤ 86)
LineBytes channel r None = 1 < r.kind

-- The line of a record with this stamp was put, or nothing if it is left out.
pub data LinePut (channel : ℕ) (before after : List ℕ) (at next : ℕ) (s : DateTime) (r : Record) : Type 0 where
  line : r.kind ≤ 1 → Wrote before after at next (line_of channel s r) → LinePut channel before after at next s r
  left : 1 < r.kind → after ≡ before → next ≡ at → LinePut channel before after at next s r

-- Some text with this many bytes is what the records export to, whatever the start.
abbrev pub Sized : ℕ → List Record → ℕ → Type 0
Sized channel rs n = (start : ℕ) → (text : List ℕ) × Exports start channel rs text × (n ≡ length text)

-- How many bytes and lines there are, or the first malformed record.
abbrev pub MeasuresLines : ℕ → List ℕ → Result Exported Refused → Type 0
MeasuresLines channel s (Ok e) =
    (rs : List Record) × PacksAll rs s × Sized channel rs e.bytes × (e.lines ≡ line_count rs) × (e.left_out ≡ left_count rs)
MeasuresLines channel s (Err e) = (number_of e.reason ≡ 23) × FirstMalformed s e.place

-- The records export to some text for which there is room.
pub record LinesFit (start channel : ℕ) (s out : List ℕ) : Type 0 where
  pub records : List Record
  pub packs : PacksAll records s
  pub text : List ℕ
  pub exports : Exports start channel records text
  pub room : length text ≤ length out

-- Whatever records the bytes are, and whatever text they export to, that was put at the start.
pub record LinesPut (start channel : ℕ) (s before after : List ℕ) : Type 0 where
  pub lines : (rs : List Record) (text : List ℕ) → PacksAll rs s → Exports start channel rs text → (next : ℕ) × Wrote before after 0 next text
