-- What `read` promises for every text and every output. In words: docs/FORMAT.md, section 11.
use Rattle.std.specs.Prelude.{Result, Ok, Err, ℕ, ◌+◌, ◌*◌, ◌≤◌, ◌<◌, ◌≡◌, ◌≢◌, List, [], ◌∷◌, ◌++◌, length, drop}
use Rattle.base.specs.Text.{cr, lf}
use Rattle.records.specs.Records.{packed}
use Rattle.records.specs.StepBack.{step_back}
use Rattle.row.specs.Versions.{head_lines}
use Rattle.base.specs.declared.refusal.Refused.{Refused}
use Rattle.base.specs.Refusal.{number_of}
use Rattle.trace.specs.declared.TraceRead.{TraceRead}
use Rattle.lines.specs.Lines.{line_limit, FirstLine, DollarLine}
use Rattle.trace.specs.Trace.{size_limit, Trace, Line, Spells, Begins}

-- Number, place, version, start, rows, first step back and first number for each answer.
abbrev pub read_done : ℕ → ℕ → ℕ → ℕ → ℕ → List ℕ
read_done version start rows back first = 0 ∷ 0 ∷ version ∷ start ∷ rows ∷ back ∷ first ∷ []

abbrev pub read_refused : ℕ → ℕ → List ℕ
read_refused number place = number ∷ place ∷ 0 ∷ 0 ∷ 0 ∷ 0 ∷ 0 ∷ []

abbrev pub read_numbers : Result TraceRead Refused → List ℕ
read_numbers (Ok t) = read_done t.version t.start t.rows t.step_back t.first
read_numbers (Err e) = read_refused (number_of e.reason) e.place

-- The text is n ended lines.
pub data EndedLines : ℕ → List ℕ → Type 0 where
  none : EndedLines 0 []
  line : {n : ℕ} {l rest text : List ℕ} → FirstLine l rest text → EndedLines n rest → EndedLines (n + 1) text

-- The text is n ended lines, `front`, with which some acceptable text begins, and then rest.
pub record Reached (n : ℕ) (rest text : List ℕ) : Type 0 where
  pub front : List ℕ
  pub whole : text ≡ front ++ rest
  pub lines : EndedLines n front
  pub begins : Begins front

-- They are the head lines of their version, or more: behind them stand comments and rows.
abbrev pub PastHead : {n : ℕ} {rest text : List ℕ} → Reached n rest text → Type 0
PastHead {n} r = head_lines r.begins.trace.version ≤ n

-- A line after those with which no acceptable text begins.
pub record Barred (n : ℕ) (line text : List ℕ) : Type 0 where
  pub rest : List ℕ
  pub reached : Reached n rest text
  pub after : List ℕ
  pub there : Line line after rest
  pub never : Begins (reached.front ++ (line ++ (cr ∷ lf ∷ []))) → ⊥

-- The text is refused with this number at this line: the lines before it begin some acceptable text, and
-- 2, what is left is not empty and starts with no ended line; 3, the line has more than 250 bytes; 4 and 5, line 1 or 2 is absent, or no
-- acceptable text begins so; 6, from line 3 on, a comment with `$` first; 7, from line 3 on, any other line with which none begins.
pub data RefusedAtLine (text : List ℕ) : ℕ → ℕ → Type 0 where
  unended : {n : ℕ} {rest : List ℕ} → Reached n rest text → rest ≢ [] → ((line after : List ℕ) → FirstLine line after rest → ⊥)
      → RefusedAtLine text 2 (n + 1)
  long : {n : ℕ} {rest line after : List ℕ} → Reached n rest text → FirstLine line after rest → line_limit < length line
      → RefusedAtLine text 3 (n + 1)
  no_first : Reached 0 [] text → RefusedAtLine text 4 1
  no_version : {line : List ℕ} → Barred 0 line text → RefusedAtLine text 4 1
  no_second : Reached 1 [] text → RefusedAtLine text 5 2
  no_start : {line : List ℕ} → Barred 1 line text → RefusedAtLine text 5 2
  dollar : {n : ℕ} {line : List ℕ} (b : Barred n line text) → PastHead b.reached → DollarLine line → RefusedAtLine text 6 (n + 1)
  no_row : {n : ℕ} {line : List ℕ} (b : Barred n line text) → PastHead b.reached → (DollarLine line → ⊥) → RefusedAtLine text 7 (n + 1)

-- `read` of a text, into an output that held `before` and then holds `after`, gives the numbers a.
pub data ReadPromise (text before a after : List ℕ) : Type 0 where
  -- the text is too long
  large : size_limit < length text → a ≡ read_refused 1 0 → after ≡ before → ReadPromise text before a after
  -- a trace is spelled as it, and there is room: that trace is handed out
  done : {t : Trace} → length text ≤ size_limit → Spells t text → 20 * length t.records ≤ length before
      → a ≡ read_done t.version t.start (length t.records) (step_back t.records) t.first
      → after ≡ packed t.records ++ drop (20 * length t.records) before → ReadPromise text before a after
  -- a trace is spelled as it, and there is no room
  no_room : {t : Trace} → length text ≤ size_limit → Spells t text → length before < 20 * length t.records
      → a ≡ read_refused 8 0 → after ≡ before → ReadPromise text before a after
  -- none is: the refusal of the first line that stops it
  refused : {n p : ℕ} → length text ≤ size_limit → RefusedAtLine text n p → a ≡ read_refused n p → after ≡ before
      → ReadPromise text before a after
