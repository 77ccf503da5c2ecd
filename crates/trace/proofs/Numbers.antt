-- Laws on the first number of a trace.
use Prim.Native.Nat.{ℕ, ◌+◌, ◌≤◌}
use mathlib.Core.Path.{◌≡◌}
use native.Mathlib.Omega.{arith}
use Rattle.fields.specs.Columns.{last_number}
use Rattle.row.specs.Row.{Expected, this, any}
use Rattle.trace.specs.Trace.{FirstNumber, no_rows, some_rows}

module _ {first rows : ℕ} where
  -- The number behind the last row is at most one more than the largest,
  pub next_number : FirstNumber first rows → first + rows ≤ last_number + 1
  next_number (no_rows z x) = omega arith
  next_number (some_rows h l u) = u

  -- there are no more rows than numbers,
  pub rows_numbered : FirstNumber first rows → rows ≤ last_number
  rows_numbered (no_rows z x) = omega arith
  rows_numbered (some_rows h l u) = omega arith

  -- where there are none the number is 0,
  pub no_first : rows ≡ 0 → FirstNumber first rows → first ≡ 0
  no_first e (no_rows z x) = x
  no_first e (some_rows h l u) = absurd (omega arith)

  -- and where there are some they count from 1 or more.
  pub from_one : FirstNumber first rows → 1 ≤ rows → 1 ≤ first
  from_one (no_rows z x) m = absurd (omega arith)
  from_one (some_rows h l u) m = l

  -- A row that is expected next has the rows before it below its number.
  pub rows_before : {k : ℕ} → FirstNumber first rows → Expected (first + rows) k → rows ≤ k
  rows_before n (this q) = omega arith
  rows_before (no_rows z x) (any y) = omega arith
  rows_before (some_rows h l u) (any y) = absurd (omega arith)
