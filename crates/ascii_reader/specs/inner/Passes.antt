-- What the passes of the reader promise each other. No public promise cites this file.
use Rattle.std.specs.Prelude.{Option, Some, None, Result, Ok, Err, ℕ, ◌+◌, ◌*◌, ◌≤◌, ◌<◌, ◌≡◌, List, ◌++◌, length, drop}
use Rattle.base.specs.Limits.{offset_limit}
use Rattle.clock.specs.declared.DateTime.{DateTime}
use Rattle.clock.specs.Stamp.{ticks}
use Rattle.record.specs.declared.Record.{Record}
use Rattle.records.specs.Records.{packed}
use Rattle.ascii_line_reader.specs.declared.LineRead.{LineRead}
use Rattle.ascii_line_reader.specs.AsciiLine.{AsciiLine}
use Rattle.base.specs.declared.refusal.Refusal.{Refusal}
use Rattle.base.specs.declared.refusal.Refused.{Refused}
use Rattle.base.specs.Refusal.{number_of}
use Rattle.ascii_reader.specs.declared.AsciiRead.{AsciiRead}
use Rattle.ascii_reader.specs.Text.{EndedLine, SpellsAscii}
use Rattle.ascii_reader.specs.Promise.{NextStamp, AsciiRefusedAt}

-- The stamp and the record of the line at `at`, and where the next line starts.
pub record LineThere (text : List ℕ) (at : ℕ) (x : LineRead) : Type 0 where
  pub stamp : DateTime
  pub line : List ℕ
  pub ended : EndedLine line (drop x.end text) (drop at text)
  pub is : AsciiLine stamp x.r line
  pub ticks : x.ticks ≡ ticks stamp.time
  pub later : at < x.end
  pub within : x.end ≤ length text

-- So it is, or what stands there is no such line.
abbrev pub LineAt : List ℕ → ℕ → Option LineRead → Type 0
LineAt text at (Some x) = LineThere text at x
LineAt text at None = (s : DateTime) → NextStamp s (drop at text) → ⊥

-- Why a stamp, in steps of 100 microseconds, can't stand after a start: the number of its refusal.
pub data Fault (start n : ℕ) : ℕ → Type 0 where
  early : n * 100 < start * 1000 → Fault start n 32
  late : start * 1000 + offset_limit < n * 100 → Fault start n 33

-- The offset of a stamp from a start, or why it has none.
abbrev pub OffsetOf : ℕ → ℕ → Result ℕ Refusal → Type 0
OffsetOf start n (Ok offset) = (start * 1000 + offset ≡ n * 100) × (offset ≤ offset_limit)
OffsetOf start n (Err reason) = Fault start n (number_of reason)

-- The start of the whole text, and how many lines it has; or its refusal.
abbrev pub Judges : List ℕ → Result AsciiRead Refused → Type 0
Judges text (Ok a) = (rs : List Record) × SpellsAscii a.start rs text × (a.records ≡ length rs)
Judges text (Err e) = AsciiRefusedAt text (number_of e.reason) e.place

-- Some records are spelled, and the output has room for them.
pub record RecordsFit (text : List ℕ) (start : ℕ) (out : List ℕ) : Type 0 where
  pub records : List Record
  pub spelled : SpellsAscii start records text
  pub room : 20 * length records ≤ length out

-- The output holds the records that the text spells, and behind them what was there.
pub record Filled (text before after : List ℕ) : Type 0 where
  pub bytes : (start : ℕ) (rs : List Record) → SpellsAscii start rs text → after ≡ packed rs ++ drop (20 * length rs) before
