-- What the row reader answers.
use Rattle.std.specs.Prelude.{Option, Some, None, ℕ, ◌+◌, ◌≤◌, ◌≡◌, List, ◌∷◌, length}
use Rattle.record.specs.declared.Record.{Record}
use Rattle.fields.specs.Columns.{NumberField}
use Rattle.fields.specs.Parted.{Parted}
use Rattle.lines.specs.Lines.{line_limit}
use Rattle.row.specs.Row.{Expected, Row}

-- The line has at most 250 bytes and is the row of this record.
pub record ReadsRow (v k : ℕ) (line : List ℕ) (r : Record) : Type 0 where
  pub few : length line ≤ line_limit
  pub row : Row v k r line

-- Reading the line at this place of a window as row k of a version gives the place of its CR, and `out` is the record then; or none, if it is no row.
abbrev pub RowFound : ℕ → ℕ → ℕ → List ℕ → Record → Option ℕ → Type 0
RowFound v k at line out (Some e) = Row v k out line × (e ≡ at + length line)
RowFound v k at line out None = (r : Record) → Row v k r line → ⊥

-- Where row e is expected, k is the number of the row that the line may be: it is one of those expected, and the only one that stands first.
pub record NumberOf (e : ℕ) (line : List ℕ) (k : ℕ) : Type 0 where
  pub expected : Expected e k
  pub only : (f : List ℕ) (fs : List (List ℕ)) (j : ℕ) → Parted (f ∷ fs) line → NumberField j f → Expected e j → j ≡ k
