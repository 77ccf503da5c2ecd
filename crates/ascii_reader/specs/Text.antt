-- What a text of Telemotive ASCII lines means that is read back: a start, and records with offsets from it. In words: docs/FORMAT.md, section 15.
use Rattle.std.specs.Prelude.{ℕ, ◌+◌, ◌*◌, ◌≤◌, ◌<◌, ◌≡◌, ◌⊎◌, List, [], ◌∷◌, ◌++◌, length}
use Rattle.base.specs.Limits.{offset_limit}
use Rattle.base.specs.Text.{cr, lf}
use Rattle.clock.specs.declared.DateTime.{DateTime}
use Rattle.record.specs.declared.Record.{Record}
use Rattle.fields.specs.Runs.{All}
use Rattle.lines.specs.Lines.{line_limit, Inside}
use Rattle.ascii_line.specs.Line.{line_text}
use Rattle.ascii_line_reader.specs.AsciiLine.{instant, AsciiLine}

-- The text starts with this line, of at most 250 bytes and without CR or LF, which ends with CR LF or LF; rest stands behind its end.
pub record EndedLine (line rest text : List ℕ) : Type 0 where
  pub inside : All Inside line
  pub short : length line ≤ line_limit
  pub ended : (text ≡ line ++ (cr ∷ lf ∷ rest)) ⊎ (text ≡ line ++ (lf ∷ rest))

-- The text is the lines of these records in order. An offset is the stamp of its line less the start, in microseconds, and within its limit.
pub data Lines (start : ℕ) : List Record → List ℕ → Type 0 where
  over : Lines start [] []
  line : {s : DateTime} {r : Record} {rs : List Record} {l rest text : List ℕ} → EndedLine l rest text → AsciiLine s r l
      → instant s ≡ start * 1000 + r.offset → r.offset ≤ offset_limit → Lines start rs rest → Lines start (r ∷ rs) text

-- The start, in milliseconds, is the stamp of the first line cut to the millisecond: less than a millisecond lies between them. Without lines it is 0.
pub data FirstStart (start : ℕ) : List Record → Type 0 where
  no_lines : start ≡ 0 → FirstStart start []
  cut : {r : Record} {rs : List Record} → r.offset < 1000 → FirstStart start (r ∷ rs)

-- The text spells this start and these records.
pub record SpellsAscii (start : ℕ) (rs : List Record) (text : List ℕ) : Type 0 where
  pub first : FirstStart start rs
  pub lines : Lines start rs text

-- The second text has the values of the first, line by line, each line spelled as the export spells it.
pub data Respelled : List ℕ → List ℕ → Type 0 where
  over : Respelled [] []
  line : {s : DateTime} {r : Record} {l rest text out : List ℕ} → EndedLine l rest text → AsciiLine s r l → Respelled rest out
      → Respelled text (line_text s r.bus r ++ out)
