-- What `export` promises for every start, channel, bytes of records and output. In words: docs/FORMAT.md, sections 10 and 11.
use Rattle.std.specs.Prelude.{Result, Ok, Err, ℕ, ◌+◌, ◌-◌, ◌≤◌, ◌<◌, ◌≡◌, cond, List, [], ◌∷◌, ◌++◌, eqb, ltb, length, drop}
use Rattle.base.specs.Limits.{last_bus}
use Rattle.clock.specs.declared.DateTime.{DateTime}
use Rattle.clock.specs.Start.{start_limit}
use Rattle.clock.specs.Stamp.{Stamp}
use Rattle.record.specs.declared.Record.{Record}
use Rattle.records.specs.Records.{Whole, PacksAll, FirstMalformed}
use Rattle.ascii_line.specs.Line.{line_text}
use Rattle.ascii.specs.declared.Exported.{Exported}
use Rattle.base.specs.declared.refusal.Refused.{Refused}
use Rattle.base.specs.Refusal.{number_of}

-- Number, place, bytes written, lines and records left out for each answer.
abbrev pub export_done : ℕ → ℕ → ℕ → List ℕ
export_done bytes lines left = 0 ∷ 0 ∷ bytes ∷ lines ∷ left ∷ []

abbrev pub export_refused : ℕ → ℕ → List ℕ
export_refused number place = number ∷ place ∷ 0 ∷ 0 ∷ 0 ∷ []

abbrev pub export_numbers : Result Exported Refused → List ℕ
export_numbers (Ok e) = export_done e.bytes e.lines e.left_out
export_numbers (Err e) = export_refused (number_of e.reason) e.place

-- An answer that is a refusal has a number other than 0: an export of nothing is no refusal.
pub data Numbered : Result Exported Refused → Type 0 where
  is_done : {e : Exported} → Numbered (Ok e)
  is_refused : {e : Refused} → 0 < number_of e.reason → Numbered (Err e)

-- Bus 0 is written as the channel that the caller gives, every other bus as the channel of its number.
unfoldable pub channel_of : ℕ → ℕ → ℕ
channel_of channel bus = cond (eqb bus 0) channel bus

-- The line of a record with this stamp, on the channel of its bus.
abbrev pub line_of : ℕ → DateTime → Record → List ℕ
line_of channel s r = line_text s (channel_of channel r.bus) r

-- The lines of the records of kinds 0 and 1, in order, each with the stamp of its offset; the others are left out.
pub data Exports (start channel : ℕ) : List Record → List ℕ → Type 0 where
  none : Exports start channel [] []
  line : {r : Record} {rs : List Record} {s : DateTime} {text : List ℕ} → r.kind ≤ 1 → Stamp start r.offset s → Exports start channel rs text
      → Exports start channel (r ∷ rs) (line_of channel s r ++ text)
  left : {r : Record} {rs : List Record} {text : List ℕ} → 1 < r.kind → Exports start channel rs text
      → Exports start channel (r ∷ rs) text

-- 1 for a record of kind 0 or 1, and 0 for any other.
unfoldable pub is_frame : Record → ℕ
is_frame r = cond (ltb 1 r.kind) 0 1

-- The number of records of kinds 0 and 1, and of the others.
unfoldable pub line_count : List Record → ℕ
line_count [] = 0
line_count (r ∷ rs) = is_frame r + line_count rs

unfoldable pub left_count : List Record → ℕ
left_count [] = 0
left_count (r ∷ rs) = 1 - is_frame r + left_count rs

-- What is refused whatever the output, with which number at which place. In the table's order, with 35 behind 22: each says that
-- those before it do not hold.
pub data ExportStopped (start channel : ℕ) (s : List ℕ) : ℕ → ℕ → Type 0 where
  no_records : (Whole s → ⊥) → ExportStopped start channel s 20 0
  late : Whole s → start_limit < start → ExportStopped start channel s 22 0
  no_channel : Whole s → start ≤ start_limit → last_bus < channel → ExportStopped start channel s 35 0
  malformed : {place : ℕ} → Whole s → start ≤ start_limit → channel ≤ last_bus → FirstMalformed s place → ExportStopped start channel s 23 place

-- The bytes are these records, which export to this text.
pub record Given (start channel : ℕ) (s : List ℕ) (rs : List Record) (text : List ℕ) : Type 0 where
  pub whole : Whole s
  pub limit : start ≤ start_limit
  pub is_channel : channel ≤ last_bus
  pub packs : PacksAll rs s
  pub exports : Exports start channel rs text

-- `export` of a start and the bytes s, with this channel for bus 0, into an output that held `before` and then holds `after`, gives the numbers a.
pub data ExportPromise (start channel : ℕ) (s before a after : List ℕ) : Type 0 where
  -- 20, 22, 35 or 23
  refused : {n p : ℕ} → ExportStopped start channel s n p → a ≡ export_refused n p → after ≡ before
      → ExportPromise start channel s before a after
  -- everything good, and the output too short
  no_room : {rs : List Record} {text : List ℕ} → Given start channel s rs text → length before < length text
      → a ≡ export_refused 25 0 → after ≡ before → ExportPromise start channel s before a after
  -- the lines, and behind them what was there
  done : {rs : List Record} {text : List ℕ} → Given start channel s rs text → length text ≤ length before
      → a ≡ export_done (length text) (line_count rs) (left_count rs) → after ≡ text ++ drop (length text) before
      → ExportPromise start channel s before a after
