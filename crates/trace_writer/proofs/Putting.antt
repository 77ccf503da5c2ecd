-- What the second pass keeps: the rows of the records up to `at` are put, and those of the rest are to come.
use Prim.Native.Nat.{ℕ, ◌+◌, ◌≤◌, ◌<◌}
use mathlib.Core.Path.{◌≡◌, refl, ap, ◌∙◌}
use mathlib.Core.List.{List, [], ◌∷◌}
use native.Mathlib.Omega.{arith}
use lib.ListN.{length, length-append}
use Rattle.base.specs.inner.Wrote.{Wrote}
use Rattle.base.proofs.Lists.{then}
use Rattle.fields.specs.Columns.{last_number}
use Rattle.record.specs.declared.Record.{Record}
use Rattle.record.specs.Record.{WellFormed}
use Rattle.record.specs.inner.PackedAt.{PackedAt}
use Rattle.records.proofs.Lists.{each_head, each_tail}
use Rattle.records.proofs.Ahead.{Ahead, ahead, later, after_next, ahead_more, all_behind}
use Rattle.row.specs.Versions.{Carries}
use Rattle.row.specs.House.{row_text}
use Rattle.trace.specs.House.{rows_text, Carried}
use Rattle.trace.proofs.HouseTexts.{rows_none, rows_more}
use Rattle.trace.proofs.Numbers.{next_number, from_one}
use Rattle.trace_writer.specs.inner.Passes.{RowsFit, RowsPut}
use Rattle.trace_writer.proofs.Rows.{rows_snoc}

-- The first row has number `first`, and k is that of the next.
pub record Putting (version first : ℕ) (s old out : List ℕ) (from at k p : ℕ) : Type 0 where
  pub records : Ahead s at
  pub carried : Carried version records.after
  pub counted : k ≡ first + length records.before
  pub low : 1 ≤ length records.after → 1 ≤ k
  pub few : k + length records.after ≤ last_number + 1
  pub wrote : Wrote old out from p (rows_text version first records.before)
  pub room : p + length (rows_text version k records.after) ≤ length old
  pub same : length out ≡ length old

pub putting : {version first from : ℕ} {s old : List ℕ} → RowsFit version first s old from → Putting version first s old old from 0 first from
putting f = record {
  records = ahead f.packs;
  carried = f.carried;
  counted = omega arith;
  low = from_one f.numbered;
  few = next_number f.numbered;
  wrote = rw rows_none (record { next = omega arith; stored = refl });
  room = f.room;
  same = refl;
}

-- The record that was read at `place` is that of the next row.
module _ {version first : ℕ} {s old out : List ℕ} {from at place k p : ℕ} (f : Putting version first s old out from at k p) {r : Record} (h : at < length s)
    (there : PackedAt s place r) (e : place ≡ at) where
  b : PackedAt s at r
  b = rw e at there

  abbrev rest : List Record
  rest = later f.records h b

  all : f.records.after ≡ r ∷ rest
  all = after_next f.records h b

  text : length (rows_text version k f.records.after) ≡ length (row_text version k r) + 2 + length (rows_text version (k + 1) rest)
  text =
      ap length (ap (rows_text version k) all ∙ rows_more version k r rest)
      ∙ length-append (row_text version k r) (13 ∷ 10 ∷ rows_text version (k + 1) rest) ∙ omega arith

  -- The next row can be put.
  pub next_row : WellFormed r × Carries r version × (1 ≤ k) × (k ≤ last_number)
  next_row = (there.packs.formed, each_head (rw all at f.carried), f.low (omega (arith, ap length all)), omega (arith, f.few, ap length all))

  pub next_room : p + length (row_text version k r) + 2 ≤ length out
  next_room = omega (arith, f.room, f.same, text)

  -- It is put.
  pub put_more : {mid new : List ℕ} {q e : ℕ} → Wrote out mid p q (row_text version k r) → Wrote mid new q e (13 ∷ 10 ∷ []) → length new ≡ length old
      → Putting version first s old new from (at + 20) (k + 1) e
  put_more u v l =
      let w = then u v in
      record {
        records = ahead_more f.records h b;
        carried = each_tail (rw all at f.carried);
        counted = omega (arith, f.counted, length-append f.records.before (r ∷ []));
        low = λ h. omega arith;
        few = omega (arith, f.few, ap length all);
        wrote = rw (rows_snoc, ← f.counted) (then f.wrote w);
        room = omega (arith, f.room, text, w.next, length-append (row_text version k r) (13 ∷ 10 ∷ []));
        same = l;
      }

pub rows_put : {version first : ℕ} {s old out : List ℕ} {from at k p : ℕ} → Putting version first s old out from at k p → length s ≤ at
    → RowsPut version first s old out from
rows_put {p = p} f h = record { rows = λ rs g. (p, rw (all_behind f.records h g) f.wrote) }
