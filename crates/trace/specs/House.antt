-- The house spelling of a whole trace, and which traces have one. In words: docs/FORMAT.md, section 9.
use Rattle.std.specs.Prelude.{ℕ, ◌+◌, ◌*◌, ◌/◌, ◌%◌, ◌^◌, ◌≤◌, List, [], ◌∷◌, ◌++◌, length}
use Rattle.base.specs.Text.{semicolon, point, cr, lf}
use Rattle.digits.specs.House.{decimal_text, padded_text}
use Rattle.clock.specs.Start.{day_ms, start_limit}
use Rattle.record.specs.declared.Record.{Record}
use Rattle.record.specs.Record.{WellFormed}
use Rattle.records.specs.Records.{Each}
use Rattle.row.specs.Versions.{Version, version_text, Carries}
use Rattle.row.specs.House.{row_text}
use Rattle.lines.specs.Lines.{start_text}
use Rattle.trace.specs.Trace.{Trace, FirstNumber}

-- `;` and the version's text, without blanks: line 1.
unfoldable pub version_line_text : ℕ → List ℕ
version_line_text version = semicolon ∷ version_text version

-- The fraction of the day, in ten digits: the day's milliseconds times 10,000,000,000 over 86,400,000, to nearest, halves up.
unfoldable pub fraction_of_day : ℕ → ℕ
fraction_of_day ms = (2 * (ms * 10 ^ 10) + day_ms) / (2 * day_ms)

-- `;$STARTTIME=`, the days without leading zeros, a point and the ten digits, without blanks: line 2.
unfoldable pub start_line_text : ℕ → List ℕ
start_line_text start = semicolon ∷ (start_text ++ (decimal_text (start / day_ms) ++ (point ∷ padded_text 10 (fraction_of_day (start % day_ms)))))

-- The rows from number k on, each ended by CR LF.
unfoldable pub rows_text : ℕ → ℕ → List Record → List ℕ
rows_text version k [] = []
rows_text version k (r ∷ rs) = row_text version k r ++ (cr ∷ lf ∷ rows_text version (k + 1) rs)

-- The whole text.
unfoldable pub trace_text : Trace → List ℕ
trace_text t =
    version_line_text t.version ++ (cr ∷ lf ∷ (start_line_text t.start ++ (cr ∷ lf ∷ rows_text t.version t.first t.records)))

-- Every record is one that the version can carry.
abbrev pub Carried : ℕ → List Record → Type 0
Carried version rs = Each (λ r. Carries r version) rs

-- The traces that can be written, given room.
pub record Writable (t : Trace) : Type 0 where
  pub version : Version t.version
  pub start : t.start ≤ start_limit
  pub numbered : FirstNumber t.first (length t.records)
  pub formed : Each WellFormed t.records
  pub carried : Carried t.version t.records
