-- The rows of records in order, one more at the end.
use Prim.Native.Nat.{ℕ, ◌+◌}
use mathlib.Core.Path.{◌≡◌}
use mathlib.Core.List.{List, [], ◌∷◌, ◌++◌}
use lib.ListN.{length}
use Rattle.record.specs.declared.Record.{Record}
use Rattle.row.specs.House.{row_text}
use Rattle.trace.specs.House.{rows_text}
use Rattle.trace.proofs.HouseTexts.{rows_none, rows_more, rows_append}
use Rattle.trace_writer.specs.inner.Passes.{with_end}

-- One row more.
pub rows_snoc : (version first : ℕ) (rs : List Record) (r : Record)
    → rows_text version first (rs ++ (r ∷ [])) ≡ rows_text version first rs ++ with_end (row_text version (first + length rs) r)
rows_snoc version first rs r = rw (rows_append version first rs (r ∷ []), rows_more, rows_none)
