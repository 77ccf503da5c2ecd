-- What a trace is, and how it is spelled: a relation between its values and the bytes of a text. In words: docs/FORMAT.md, sections 2 and 7.
use Rattle.std.specs.Prelude.{ℕ, ◌+◌, ◌≤◌, ◌<◌, ◌≡◌, List, [], ◌∷◌, ◌++◌, length}
use Rattle.record.specs.declared.Record.{Record}
use Rattle.fields.specs.Columns.{last_number}
use Rattle.fields.specs.Runs.{All}
use Rattle.row.specs.Row.{Row}
use Rattle.lines.specs.Lines.{line_limit, FirstLine, VersionLine, StartLine, Comment}

-- The most bytes of a text.
abbrev pub size_limit : ℕ
size_limit = 134217728

-- A version, 11 or 12, a start in milliseconds, the number of the first row, and the records of the rows in order.
pub record Trace : Type 0 where
  pub version : ℕ
  pub start : ℕ
  pub first : ℕ
  pub records : List Record

-- The trace with this version, start, first number and records.
abbrev pub trace_of : ℕ → ℕ → ℕ → List Record → Trace
trace_of version start first rs = record { version = version; start = start; first = first; records = rs }

-- The first number of a trace of so many rows: 0 where there are none; else 1 or more, and the last row's is at most 999,999.
pub data FirstNumber (first rows : ℕ) : Type 0 where
  no_rows : rows ≡ 0 → first ≡ 0 → FirstNumber first rows
  some_rows : 1 ≤ rows → 1 ≤ first → first + rows ≤ last_number + 1 → FirstNumber first rows

-- The text starts with this line, of at most 250 bytes.
pub record Line (line rest text : List ℕ) : Type 0 where
  pub first : FirstLine line rest text
  pub short : length line ≤ line_limit

-- From line 3 on: comments, ignored, and rows; the next row has number k, and the rows are the records in order.
pub data Body (version : ℕ) : ℕ → List Record → List ℕ → Type 0 where
  over : {k : ℕ} → Body version k [] []
  comment : {k : ℕ} {rs : List Record} {line rest text : List ℕ} → Line line rest text → Comment line → Body version k rs rest
      → Body version k rs text
  row : {k : ℕ} {r : Record} {rs : List Record} {line rest text : List ℕ} → Line line rest text → Row version k r line
      → Body version (k + 1) rs rest → Body version k (r ∷ rs) text

-- The text spells the trace: a version line, a start line, then comments and rows, the first row having the first number and each next one more.
pub record Spells (t : Trace) (text : List ℕ) : Type 0 where
  pub first : List ℕ
  pub after_first : List ℕ
  pub one : Line first after_first text
  pub version : VersionLine t.version first
  pub second : List ℕ
  pub after_second : List ℕ
  pub two : Line second after_second after_first
  pub start : StartLine t.start second
  pub body : Body t.version t.first t.records after_second
  pub numbered : FirstNumber t.first (length t.records)

-- Numbers that are bytes.
abbrev pub AreBytes : List ℕ → Type 0
AreBytes s = All (λ b. b < 256) s

-- Some trace is spelled by a text within the size limit that begins so, and goes on in bytes. (What it begins with is part of the text that was
-- lent, which is bytes.)
pub record Begins (front : List ℕ) : Type 0 where
  pub rest : List ℕ
  pub bytes : AreBytes rest
  pub trace : Trace
  pub spelled : Spells trace (front ++ rest)
  pub size : length (front ++ rest) ≤ size_limit
