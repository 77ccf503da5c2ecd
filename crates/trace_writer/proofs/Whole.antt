-- The whole text: its two parts, its length, and that it is what was put.
use Prim.Native.Nat.{ℕ, ◌+◌, ◌*◌, ◌≤◌}
use mathlib.Core.Path.{◌≡◌, ap, ◌∙◌}
use mathlib.Core.List.{List, ◌++◌, append_assoc}
use native.Mathlib.Omega.{arith}
use lib.ListN.{length, drop, length-append}
use Rattle.base.specs.inner.Wrote.{Wrote}
use Rattle.base.proofs.Lists.{then, at_start}
use Rattle.clock.specs.Start.{start_limit}
use Rattle.fields.specs.Columns.{last_number}
use Rattle.record.specs.declared.Record.{Record}
use Rattle.records.specs.Records.{Whole, PacksAll}
use Rattle.records.proofs.Packing.{packed_count}
use Rattle.row.specs.Versions.{Version}
use Rattle.row.specs.inner.Sizes.{longest_ended}
use Rattle.trace.specs.Trace.{trace_of}
use Rattle.trace.specs.House.{version_line_text, start_line_text, rows_text, trace_text, Carried, Writable}
use Rattle.trace.proofs.HouseTexts.{trace_text_lem, rows_size}
use Rattle.trace.proofs.Numbers.{next_number, rows_numbered}
use Rattle.trace_writer.specs.Promise.{NumberFits, WriteStopped, malformed, misfit}
use Rattle.trace_writer.specs.inner.Passes.{with_end, head_text, Unfit, RowsPut}
use Rattle.trace_writer.specs.inner.Passes

module _ (version start first : ℕ) (rs : List Record) where
  pub trace_cut : trace_text (trace_of version start first rs) ≡ head_text version start ++ rows_text version first rs
  trace_cut = rw (trace_text_lem, append_assoc, append_assoc, append_assoc)

  pub trace_length : length (trace_text (trace_of version start first rs)) ≡ length (head_text version start) + length (rows_text version first rs)
  trace_length = ap length trace_cut ∙ length-append (head_text version start) (rows_text version first rs)

-- What was judged can be written.
pub writable : {version start first : ℕ} {s : List ℕ} {rs : List Record} → Version version → start ≤ start_limit → NumberFits first s → PacksAll rs s → Carried version rs
    → Writable (trace_of version start first rs)
writable {rs = rs} v l n h c = record {
  version = v;
  start = l;
  numbered = rw (packed_count rs h.bytes) at n;
  formed = h.formed;
  carried = c;
}

-- The rows fit a machine word many times over.
pub rows_few : {version start first : ℕ} {rs : List Record} → Writable (trace_of version start first rs) → length (rows_text version first rs) ≤ longest_ended * last_number
rows_few {first = first} w =
    let f = rows_numbered w.numbered in
    omega (arith, rows_size first w.formed w.carried (next_number w.numbered))

-- The first record that can't be written stops the rest.
pub unfit_stopped : {version start first n p : ℕ} {s : List ℕ} → Whole s → Version version → start ≤ start_limit → NumberFits first s → Unfit version s n p
    → WriteStopped version start first s n p
unfit_stopped w v l k (Passes.malformed f) = malformed w v l k f
unfit_stopped w v l k (Passes.misfit h f) = misfit w v l k h f

-- Line 1, line 2 and the rows are the house spelling.
pub all_written : {p q : ℕ} {s old one two new : List ℕ} (version start first : ℕ) (rs : List Record) → PacksAll rs s → Wrote old one 0 p (with_end (version_line_text version))
    → Wrote one two p q (with_end (start_line_text start)) → RowsPut version first s two new q → length (trace_text (trace_of version start first rs)) ≤ length old
    → new ≡ trace_text (trace_of version start first rs) ++ drop (length (trace_text (trace_of version start first rs))) old
all_written version start first rs h a b r l =
    at_start {t = trace_text (trace_of version start first rs)} (rw (← (trace_cut version start first rs)) at (then (then a b) (r.rows rs h).1)) l
