-- What the passes of the writer promise each other. No public promise cites this file.
use Rattle.std.specs.Prelude.{Option, Some, None, Result, Ok, Err, ℕ, ◌+◌, ◌≤◌, ◌≡◌, List, [], ◌∷◌, ◌++◌, length}
use Rattle.base.specs.Text.{cr, lf}
use Rattle.base.specs.inner.Wrote.{Wrote}
use Rattle.record.specs.declared.Record.{Record}
use Rattle.records.specs.Records.{PacksAll, FirstMalformed}
use Rattle.row.specs.Versions.{Carries}
use Rattle.row.specs.House.{row_text}
use Rattle.row.specs.inner.Sizes.{longest_ended}
use Rattle.trace.specs.Trace.{FirstNumber}
use Rattle.trace.specs.House.{version_line_text, start_line_text, rows_text, Carried}
use Rattle.base.specs.declared.refusal.Refused.{Refused}
use Rattle.base.specs.Refusal.{number_of}
use Rattle.trace_writer.specs.Promise.{FirstMisfit}

-- A line with its end.
abbrev pub with_end : List ℕ → List ℕ
with_end line = line ++ (cr ∷ lf ∷ [])

-- Lines 1 and 2.
abbrev pub head_text : ℕ → ℕ → List ℕ
head_text version start = with_end (version_line_text version) ++ with_end (start_line_text start)

-- How many bytes row k with its end is, or that the version can't carry it.
abbrev pub RowBytes : ℕ → ℕ → Record → Option ℕ → Type 0
RowBytes version k r (Some n) = Carries r version × (n ≡ length (with_end (row_text version k r))) × (n ≤ longest_ended)
RowBytes version k r None = Carries r version → ⊥

-- The first record that can't be written, with its number.
pub data Unfit (version : ℕ) (s : List ℕ) : ℕ → ℕ → Type 0 where
  malformed : {place : ℕ} → FirstMalformed s place → Unfit version s 23 place
  misfit : {rs : List Record} {place : ℕ} → PacksAll rs s → FirstMisfit version rs place → Unfit version s 24 place

-- How many bytes the rows from number `first` on are, or the first record that can't be written.
abbrev pub MeasuresRows : ℕ → ℕ → List ℕ → Result ℕ Refused → Type 0
MeasuresRows version first s (Ok n) = (rs : List Record) × PacksAll rs s × Carried version rs × (n ≡ length (rows_text version first rs))
MeasuresRows version first s (Err e) = Unfit version s (number_of e.reason) e.place

-- The records can be written behind `at`, the first as the row with this number.
pub record RowsFit (version first : ℕ) (s out : List ℕ) (at : ℕ) : Type 0 where
  pub records : List Record
  pub packs : PacksAll records s
  pub carried : Carried version records
  pub numbered : FirstNumber first (length records)
  pub room : at + length (rows_text version first records) ≤ length out

-- Whatever records the bytes are, their rows were put at `at`.
pub record RowsPut (version first : ℕ) (s before after : List ℕ) (at : ℕ) : Type 0 where
  pub rows : (rs : List Record) → PacksAll rs s → (next : ℕ) × Wrote before after at next (rows_text version first rs)
