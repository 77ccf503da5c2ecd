-- The house texts of a trace: what each is, and how long the lines and the rows are.
use Prim.Native.Nat.{ℕ, suc, ◌+◌, ◌*◌, ◌/◌, ◌%◌, ◌≤◌}
use mathlib.Core.Path.{◌≡◌, refl}
use mathlib.Core.List.{List, [], ◌∷◌, ◌++◌, append_assoc}
use native.Mathlib.Nat.{add-zero}
use native.Mathlib.Omega.{arith}
use lib.ListN.{length, length-append}
use Rattle.digits.specs.House.{figure_of, decimal_text, padded_text}
use Rattle.digits.proofs.House.{few, length_fixed}
use Rattle.clock.specs.Start.{day_ms, start_limit, DayFraction}
use Rattle.fields.specs.Columns.{last_number}
use Rattle.record.specs.declared.Record.{Record}
use Rattle.record.specs.Record.{WellFormed}
use Rattle.records.specs.Records.{Each, none, more}
use Rattle.row.specs.Versions.{version_text}
use Rattle.row.specs.House.{row_text}
use Rattle.row.specs.inner.Sizes.{longest_ended}
use Rattle.row.proofs.Spelled.{row_size}
use Rattle.lines.specs.Lines.{start_text}
use Rattle.trace.specs.Trace.{Trace}
use Rattle.trace.specs.House.{version_line_text, fraction_of_day, start_line_text, rows_text, trace_text, Carried}

-- Each text, as it is defined.

pub version_line : (version : ℕ) → version_line_text version ≡ 59 ∷ version_text version
unfolding version_line_text
version_line version = refl

pub start_line : (start : ℕ) → start_line_text start
    ≡ (59 ∷ start_text) ++ (decimal_text (start / day_ms) ++ (46 ∷ padded_text 10 (fraction_of_day (start % day_ms))))
unfolding start_line_text
start_line start = refl

pub day_fraction : (ms : ℕ) → DayFraction ms (fraction_of_day ms)
unfolding fraction_of_day
day_fraction ms = record { low = omega arith; high = omega arith }

pub rows_none : (version k : ℕ) → rows_text version k [] ≡ []
unfolding rows_text
rows_none version k = refl

pub rows_more : (version k : ℕ) (r : Record) (rs : List Record) → rows_text version k (r ∷ rs)
    ≡ row_text version k r ++ (13 ∷ 10 ∷ rows_text version (k + 1) rs)
unfolding rows_text
rows_more version k r rs = refl

pub trace_text_lem : (t : Trace) → trace_text t
    ≡ version_line_text t.version ++ (13 ∷ 10 ∷ (start_line_text t.start ++ (13 ∷ 10 ∷ rows_text t.version t.first t.records)))
unfolding trace_text
trace_text_lem t = refl

-- Rows behind rows.
pub rows_append : (version k : ℕ) (rs qs : List Record) → rows_text version k (rs ++ qs)
    ≡ rows_text version k rs ++ rows_text version (k + length rs) qs
rows_append version k [] qs = rw (rows_none, add-zero)
rows_append version k (r ∷ rs) qs =
    let e : k + suc (length rs) ≡ k + 1 + length rs = omega arith in
    rw (rows_more version k r (rs ++ qs), rows_more version k r rs, rows_append version (k + 1) rs qs, e, append_assoc)

-- How long they are.

pub version_line_length : (version : ℕ) → length (version_line_text version) ≡ 17
version_line_length version = rw version_line

pub start_line_size : (start : ℕ) → start ≤ start_limit → length (start_line_text start) ≤ 28
start_line_size start h =
    let d = few 4 (start / day_ms) (omega arith) in
    let p = length_fixed figure_of 10 10 (fraction_of_day (start % day_ms)) in
    simp (start_line, length-append) (omega arith)

-- At most the longest row, and its end, for each.
pub rows_size : {version : ℕ} {rs : List Record} (k : ℕ) → Each WellFormed rs → Carried version rs → k + length rs ≤ last_number + 1
    → length (rows_text version k rs) ≤ longest_ended * length rs
rows_size k none none h = rw rows_none (omega arith)
rows_size k (more f fs) (more c cs) h =
    let n : k ≤ last_number = omega arith in
    let s = row_size f c n in
    let l = rows_size (k + 1) fs cs (omega arith) in
    rw (rows_more, length-append) (omega arith)
