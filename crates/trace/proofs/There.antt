-- The house spelling is there: each trace that can be written is spelled by it, and each that was read can be written.
use Prim.Native.Nat.{ℕ, ◌+◌, ◌*◌, ◌/◌, ◌%◌, ◌≤◌}
use mathlib.Core.Path.{◌≡◌, refl}
use mathlib.Core.List.{List, [], ◌∷◌, ◌++◌}
use native.Mathlib.Omega.{arith}
use lib.ListN.{length, length-append}
use Rattle.digits.specs.Digits.{DecimalDigit, Padded}
use Rattle.digits.specs.House.{padded_text}
use Rattle.digits.proofs.House.{few, decimal_spells, padded_spells}
use Rattle.clock.specs.Start.{day_ms, start_limit}
use Rattle.clock.proofs.Starts.{back, fraction_fits}
use Rattle.fields.specs.Columns.{last_number}
use Rattle.fields.specs.Runs.{All, more as byte}
use Rattle.fields.proofs.Runs.{all_map, all_append, all_left}
use Rattle.fields.proofs.Scans.{Some, digits_all}
use Rattle.record.specs.declared.Record.{Record}
use Rattle.record.specs.Record.{WellFormed}
use Rattle.records.specs.Records.{Each, none, more}
use Rattle.row.specs.House.{row_text}
use Rattle.row.proofs.Spelled.{row_spelled, row_size}
use Rattle.row.proofs.Formed.{row_formed, row_carried, row_number}
use Rattle.row.proofs.Plain.{row_plain}
use Rattle.lines.specs.Lines.{Inside, start_text, StartLine}
use Rattle.lines.proofs.Theorems.{version_line_text_lem, version_line_inside, start_line_of, start_line_inside}
use Rattle.trace.specs.Trace.{size_limit, Trace, FirstNumber, some_rows, Body, over, comment, row, Spells}
use Rattle.trace.specs.House.{version_line_text, fraction_of_day, start_line_text, rows_text, trace_text, Carried, Writable}
use Rattle.trace.proofs.HouseTexts.{version_line, start_line, day_fraction, rows_none, rows_more, trace_text_lem, version_line_length, start_line_size, rows_size}
use Rattle.trace.proofs.Numbers.{next_number, rows_numbered, from_one}
use Rattle.trace.proofs.One.{one_trace}

-- Line 2.

digit_inside : (b : ℕ) → Some DecimalDigit b → Inside b
digit_inside b (d, p) = record { cr = λ e. omega (arith, p.byte); lf = λ e. omega (arith, p.byte) }

point_inside : Inside 46
point_inside = record { cr = λ e. omega arith; lf = λ e. omega arith }

module _ (start : ℕ) where
  fraction_spelled : Padded 10 (fraction_of_day (start % day_ms)) (padded_text 10 (fraction_of_day (start % day_ms)))
  fraction_spelled = padded_spells 10 (fraction_of_day (start % day_ms)) (fraction_fits (day_fraction (start % day_ms)) (omega arith))

  start_spelled : start ≤ start_limit → StartLine start (start_line_text start)
  start_spelled h =
      let d = start / day_ms in
      let m = start % day_ms in
      let p = fraction_spelled in
      let e : d * day_ms + m ≡ start = omega arith in
      rw start_line (start_line_of (record {
        days = d;
        count = decimal_spells d;
        few = few 4 d (omega arith);
        parts = fraction_of_day m;
        digits = record { digits = p.digits; width = refl };
        some = omega (arith, p.width);
        short = omega (arith, p.width);
        is = rw p.width (rw e at (back d (day_fraction m)));
        limit = h;
      }))

  -- What stands before the digits also stands in `;$STARTTIME=0.0`, which has no CR and no LF.
  start_inside : All Inside (start_line_text start)
  start_inside =
      let a = all_left (59 ∷ start_text) (48 ∷ 46 ∷ 48 ∷ []) start_line_inside in
      let d = all_map digit_inside (digits_all (decimal_spells (start / day_ms)).digits) in
      let f = all_map digit_inside (digits_all fraction_spelled.digits) in
      rw start_line (all_append a (all_append d (byte point_inside f)))

-- The rows.

rows_spelled : {v : ℕ} {rs : List Record} (k : ℕ) → Each WellFormed rs → Carried v rs → (1 ≤ length rs → 1 ≤ k) → k + length rs ≤ last_number + 1
    → Body v k rs (rows_text v k rs)
rows_spelled k none none l h = rw rows_none over
rows_spelled {v} k (more {r = r} {rs = rs} f fs) (more c cs) l h =
    let n : k ≤ last_number = omega arith in
    let s = row_size f c n in
    let w = row_spelled f c (l (omega arith)) n in
    let i : All Inside (row_text v k r) = all_map (λ b q. record { cr = q.0; lf = q.1 }) (row_plain w) in
    row (record { first = record { inside = i; ended = rows_more v k r rs }; short = omega arith }) w
    (rows_spelled (k + 1) fs cs (λ m. omega arith) (omega arith))

-- The house spelling of a trace that can be written is spelled by that trace.
pub there : {t : Trace} → Writable t → Spells t (trace_text t)
there {t} w =
    let v = w.version in
    record {
      first = version_line_text t.version;
      after_first = start_line_text t.start ++ (13 ∷ 10 ∷ rows_text t.version t.first t.records);
      one = record {
        first = record { inside = rw version_line (version_line_inside v); ended = trace_text_lem t };
        short = omega (arith, version_line_length t.version);
      };
      version = rw version_line (version_line_text_lem v);
      second = start_line_text t.start;
      after_second = rows_text t.version t.first t.records;
      two = record {
        first = record { inside = start_inside t.start; ended = refl };
        short = omega (arith, start_line_size t.start w.start);
      };
      start = start_spelled t.start w.start;
      body = rows_spelled t.first w.formed w.carried (from_one w.numbered) (next_number w.numbered);
      numbered = w.numbered;
    }

-- It is within the size limit.
pub there_size : {t : Trace} → Writable t → length (trace_text t) ≤ size_limit
there_size {t} w =
    let v = version_line_length t.version in
    let s = start_line_size t.start w.start in
    let r = rows_size t.first w.formed w.carried (next_number w.numbered) in
    simp (trace_text_lem, length-append) (omega (arith, rows_numbered w.numbered))

-- What the rows of a text say of their records.

formed : {v k : ℕ} {rs : List Record} {text : List ℕ} → Body v k rs text → Each WellFormed rs
formed over = none
formed (comment l c h) = formed h
formed (row l w h) = more (row_formed w) (formed h)

carried : {v k : ℕ} {rs : List Record} {text : List ℕ} → Body v k rs text → Carried v rs
carried over = none
carried (comment l c h) = carried h
carried (row l w h) = more (row_carried w) (carried h)

-- That the numbers of the rows are within their limits they say themselves: the first number adds to them only that it is 0 where there are none.
last_numbered : {v k : ℕ} {rs : List Record} {text : List ℕ} → Body v k rs text → k ≤ last_number + 1 → k + length rs ≤ last_number + 1
last_numbered over l = omega arith
last_numbered (comment m c h) l = last_numbered h l
last_numbered (row m w h) l = let n = row_number w in omega (arith, last_numbered h (omega arith))

pub body_numbered : {v k : ℕ} {rs : List Record} {text : List ℕ} → Body v k rs text → 1 ≤ length rs → FirstNumber k (length rs)
body_numbered over h = absurd (omega arith)
body_numbered (comment m c b) h = body_numbered b h
body_numbered (row m w b) h = let n = row_number w in some_rows h n.0 (last_numbered (row m w b) (omega arith))

-- Any trace that was read can be written.
pub read_writable : {t : Trace} {text : List ℕ} → Spells t text → Writable t
read_writable a = record {
  version = a.version.is;
  start = a.start.gives.limit;
  numbered = a.numbered;
  formed = formed a.body;
  carried = carried a.body;
}

-- Two traces with one house spelling are one trace.
pub one_house : {t u : Trace} → Writable t → Writable u → trace_text t ≡ trace_text u → t ≡ u
one_house w x e = one_trace (rw e at (there w)) (there x)
