-- What the passes of the reader promise each other. No public promise cites this file.
use Rattle.std.specs.Prelude.{Option, Some, None, Result, Ok, Err, ℕ, ◌+◌, ◌*◌, ◌-◌, ◌≤◌, ◌<◌, ◌≡◌, List, [], ◌∷◌, ◌++◌, length, take, drop}
use Rattle.base.specs.Text.{cr}
use Rattle.record.specs.declared.Record.{Record}
use Rattle.records.specs.Records.{packed}
use Rattle.records.specs.StepBack.{step_back}
use Rattle.fields.specs.inner.Window.{window_bytes}
use Rattle.row.specs.Versions.{head_lines}
use Rattle.row.specs.Row.{Row}
use Rattle.lines.specs.Lines.{line_limit, FirstLine, VersionLine, Comment, DollarLine}
use Rattle.base.specs.declared.refusal.Refusal.{Refusal}
use Rattle.base.specs.declared.refusal.Refused.{Refused}
use Rattle.base.specs.Refusal.{number_of}
use Rattle.trace.specs.declared.Heading.{Heading}
use Rattle.trace.specs.declared.Judged.{Judged}
use Rattle.trace.specs.Trace.{Trace, trace_of, Line, Spells}
use Rattle.trace.specs.Promise.{EndedLines, RefusedAtLine}

-- The line stands at `at`, and the next one at `next`.
pub record There (text : List ℕ) (at next : ℕ) (line : List ℕ) : Type 0 where
  pub is : Line line (drop next text) (drop at text)
  pub later : at < next
  pub within : next ≤ length text

-- The most bytes of the text in a window: one less than it has, since CR stands behind them.
abbrev pub most_held : ℕ
most_held = window_bytes - 1

-- The window holds the bytes of the text from a place on, and CR behind them. They are all that is left, or as many as there is room for.
pub record Windowed (text : List ℕ) (from : ℕ) (w : List ℕ) : Type 0 where
  pub held : ℕ
  pub behind : List ℕ
  pub bytes : w ≡ take held (drop from text) ++ (cr ∷ behind)
  pub within : from + held ≤ length text
  pub most : held < most_held → from + held ≡ length text

-- The window that starts at `from` reaches far enough behind `at`: a line within the limit, with its end, is in it, if the text has one there.
pub record Reaches (text : List ℕ) (at from : ℕ) (w : List ℕ) : Type 0 where
  pub windowed : Windowed text from w
  pub starts : from ≤ at
  pub room : at + (line_limit + 2) ≤ from + most_held

-- No line at `at` is row k.
abbrev pub NoRow : List ℕ → ℕ → ℕ → ℕ → Type 0
NoRow text at version k = (r : Record) (line after : List ℕ) → Line line after (drop at text) → Row version k r line → ⊥

-- Row k stands at `at` with this record, and the next line at `next`.
pub record RowHere (text : List ℕ) (at version k : ℕ) (r : Record) (next : ℕ) : Type 0 where
  pub line : List ℕ
  pub there : There text at next line
  pub row : Row version k r line

-- So it is, or no line there is row k.
abbrev pub RowAt : List ℕ → ℕ → ℕ → ℕ → Record → Option ℕ → Type 0
RowAt text at version k r (Some next) = RowHere text at version k r next
RowAt text at version k r None = NoRow text at version k

-- Where no row stands from line 3 on: what is left is refused with this number.
pub data Bars (rest : List ℕ) : ℕ → Type 0 where
  unended : ((line after : List ℕ) → FirstLine line after rest → ⊥) → Bars rest 2
  long : {line after : List ℕ} → FirstLine line after rest → line_limit < length line → Bars rest 3
  dollar : {line after : List ℕ} → Line line after rest → DollarLine line → Bars rest 6
  other : {line after : List ℕ} → Line line after rest → (Comment line → ⊥) → (DollarLine line → ⊥) → Bars rest 7

-- What the line at `at` is, if it is no row: a comment, or a refusal.
abbrev pub Says : List ℕ → ℕ → Result ℕ Refusal → Type 0
Says text at (Ok next) = (line : List ℕ) × There text at next line × Comment line
Says text at (Err reason) = Bars (drop at text) (number_of reason)

-- The first line ends at `at`, and gives this version.
pub record Versioned (text : List ℕ) (at version : ℕ) : Type 0 where
  pub line : List ℕ
  pub there : There text 0 at line
  pub is : VersionLine version line

-- The head lines end at `at`, and give this version and start.
pub record Headed (text : List ℕ) (at version start : ℕ) : Type 0 where
  pub within : at ≤ length text
  pub lines : EndedLines (head_lines version) (take at text)
  pub spelled : Spells (trace_of version start 0 []) (take at text)

abbrev pub Heads : List ℕ → Result Heading Refused → Type 0
Heads text (Ok h) = Headed text h.at h.version h.start
Heads text (Err e) = RefusedAtLine text (number_of e.reason) e.place

-- The first number and the records of the whole text, or its refusal.
abbrev pub Judges : List ℕ → ℕ → ℕ → Result Judged Refused → Type 0
Judges text version start (Ok j) =
    (rs : List Record) × Spells (trace_of version start j.first rs) text × (j.rows ≡ length rs)
Judges text version start (Err e) = RefusedAtLine text (number_of e.reason) e.place

-- Some trace is spelled, its head lines end at `at`, and the output has room for its records.
pub record RecordsFit (text out : List ℕ) (at version first : ℕ) : Type 0 where
  pub start : ℕ
  pub headed : Headed text at version start
  pub records : List Record
  pub spelled : Spells (trace_of version start first records) text
  pub room : 20 * length records ≤ length out

-- The output holds the records of whatever trace the text spells, and behind them what was there; b is their first step back.
pub record Filled (text before after : List ℕ) (b : ℕ) : Type 0 where
  pub bytes : (t : Trace) → Spells t text → after ≡ packed t.records ++ drop (20 * length t.records) before
  pub back : (t : Trace) → Spells t text → b ≡ step_back t.records
