-- What is wrong with a line that is no row: a field, or that it ended early. Fields are the line's runs of non-blank bytes (`Parted`), and no length
-- of a line counts. In words: docs/FORMAT.md, section 14.
use Rattle.std.specs.Prelude.{ℕ, ◌-◌, ◌≤◌, ◌<◌, ◌≡◌, List, ◌++◌, length, take}
use Rattle.record.specs.declared.Record.{Record}
use Rattle.fields.specs.Columns.{last_number}
use Rattle.fields.specs.Parted.{Parted}
use Rattle.fields.specs.Runs.{All}
use Rattle.row.specs.Row.{RowFields, Expected, Row}
use Rattle.lines.specs.Lines.{Inside, Comment}

-- The fields are the row of this version with record r that is expected: with this number, or, where that is 0, with any.
pub record ExpectedFields (version number : ℕ) (r : Record) (fields : List (List ℕ)) : Type 0 where
  pub k : ℕ
  pub expected : Expected number k
  pub row : RowFields version k r fields

-- Some row that is expected begins with these fields: some record and some further fields make them the fields of a row.
pub record BeginsRow (version number : ℕ) (fields : List (List ℕ)) : Type 0 where
  pub further : List (List ℕ)
  pub r : Record
  pub row : ExpectedFields version number r (fields ++ further)

-- Wrong field i: some row that is expected begins with the first i - 1 fields of the line, and none begins with the first i.
pub record WrongField (version number : ℕ) (line : List ℕ) (i : ℕ) : Type 0 where
  pub fields : List (List ℕ)
  pub parted : Parted fields line
  pub low : 1 ≤ i
  pub high : i ≤ length fields
  pub before : BeginsRow version number (take (i - 1) fields)
  pub none : BeginsRow version number (take i fields) → ⊥

-- Ended early after field i: all i fields of the line begin some row that is expected, but end none.
pub record EndedEarly (version number : ℕ) (line : List ℕ) (i : ℕ) : Type 0 where
  pub fields : List (List ℕ)
  pub parted : Parted fields line
  pub count : length fields ≡ i
  pub begins : BeginsRow version number fields
  pub none : (r : Record) → ExpectedFields version number r fields → ⊥

-- Nothing is to be explained: no row has the expected number, or the line holds CR or LF, or it is the row that is expected, or a comment.
pub data Unexplained (version number : ℕ) (line : List ℕ) : Type 0 where
  no_number : last_number < number → Unexplained version number line
  no_line : (All Inside line → ⊥) → Unexplained version number line
  row : {k : ℕ} {r : Record} → Expected number k → Row version k r line → Unexplained version number line
  comment : Comment line → Unexplained version number line
