-- Offsets of 48 bits, one by one: 23 or 7 for one that fits them, as where the old limit is left in one place; a number past them taken; a digit too many;
-- a bit cut off. Each is refuted over what the function promises, for every offset to which it applies.
use Rattle.std.specs.Prelude.{Some, None}
use Prim.Native.Nat.{ℕ, ◌+◌, ◌*◌, ◌-◌, ◌%◌, ◌^◌, ◌≤◌, ◌<◌}
use mathlib.Core.Path.{◌≡◌, refl, ap, sym}
use mathlib.Core.Logic.{◌≢◌}
use mathlib.Core.List.{List, [], ◌∷◌, ◌++◌}
use native.Mathlib.Omega.{arith}
use lib.ListN.{length, take}
use Rattle.base.specs.Limits.{offset_limit}
use Rattle.digits.specs.Digits.{DecimalDigit, Digits}
use Rattle.digits.specs.House.{decimal_text, padded_text}
use Rattle.digits.proofs.House.{decimal_spells, padded_spells}
use Rattle.clock.specs.declared.CalendarDay.{CalendarDay}
use Rattle.clock.specs.declared.DateTime.{DateTime}
use Rattle.clock.specs.Date.{leap, month_days, before, before_year, Date}
use Rattle.clock.specs.Start.{start_limit}
use Rattle.clock.specs.Stamp.{Stamp}
use Rattle.clock.proofs.Dates.{one_date, made}
use Rattle.record.specs.declared.Record.{Record}
use Rattle.record.specs.Bytes.{bytes}
use Rattle.record.specs.Record.{WellFormed, number, Packs}
use Rattle.record.specs.Promise.{PackPromise, UnpackPromise, record_numbers}
use Rattle.record.proofs.OneRecord.{packs, one_record}
use Rattle.record.proofs.Promises.{packed_0, unpacked_fields}
use Rattle.fields.specs.Columns.{last_number}
use Rattle.fields.specs.Parted.{Parted}
use Rattle.fields.proofs.Columns.{before as digits-before, offset_value}
use Rattle.fields.proofs.Parts.{parted_one}
use Rattle.row.specs.Row
use Rattle.row.specs.House.{row_text}
use Rattle.row.specs.Versions.{fraction_digits, Carries}
use Rattle.row.proofs.One.{row_one}
use Rattle.row.proofs.Spelled.{row_spelled}
use Rattle.row_reader.specs.inner.Answer.{RowFound}
use Rattle.ascii_line_reader.specs.AsciiLine.{with_offset}
use Rattle.explain.specs.Explain.{BeginsRow, WrongField}
use Rattle.explain.specs.Promise.{ExplainPromise}
use Rattle.tightness.proofs.Marks.{mark_refused, mark_not_unpacked}
use Rattle.tightness.proofs.Rows.{row_refused}
use Rattle.tightness.proofs.Explaining.{another_field, wrong_called_early, behind}

-- Every offset of 48 bits is well formed.
pub every_offset : {r : Record} (o : ℕ) → o < 2 ^ 48 → WellFormed r → WellFormed (with_offset o r)
every_offset o h w = record {
  offset = omega arith;
  bus = w.bus;
  kind = w.kind;
  extended = w.extended;
  standard = w.standard;
  id = w.id;
  len = w.len;
  eight = w.eight;
  past = w.past;
  remote = w.remote;
  warning = λ e. let x = w.warning e in record { extended = x.extended; id = x.id; len = x.len };
  error = λ e. let x = w.error e in record { extended = x.extended; id = x.id; len = x.len; first = x.first; second = x.second };
}

-- record: 23 for an offset of 48 bits
module _ {r : Record} (w : WellFormed r) {o : ℕ} (h : o < 2 ^ 48) where
  pub old_limit_in_pack : {mark : ℕ} {before after ns : List ℕ} → mark ≤ 1 → PackPromise (with_offset o r) mark before (23 ∷ ns) after → ⊥
  old_limit_in_pack = mark_refused (every_offset o h w)

  pub old_limit_in_unpack : {mark : ℕ} {ns : List ℕ} → mark ≤ 1 → UnpackPromise (bytes 20 (number (with_offset o r) mark)) (23 ∷ ns) → ⊥
  old_limit_in_unpack b = mark_not_unpacked (packs (every_offset o h w) b)

-- an offset of 49 bits or more, packed
pub packs_49_bits : {r : Record} {mark : ℕ} {before after ns : List ℕ} → 2 ^ 48 ≤ r.offset → PackPromise r mark before (0 ∷ ns) after → ⊥
packs_49_bits h p = omega (arith, (packed_0 p).formed.offset)

-- the offset cut to 47 bits, packed and unpacked
module _ {r q : Record} (h : 2 ^ 47 ≤ r.offset) (c : q.offset ≡ r.offset % 2 ^ 47) where
  differ : r ≡ q → ⊥
  differ e = omega (arith, ap (λ (t : Record). t.offset) e)

  pub cut_in_pack : {mark m : ℕ} {before after ns : List ℕ} → PackPromise r mark before (0 ∷ ns) after → Packs q m (take 20 after) → ⊥
  cut_in_pack p x = differ (one_record (packed_0 p) x)

  pub cut_in_unpack : {mark m : ℕ} {s : List ℕ} → Packs r mark s → UnpackPromise s (record_numbers q m) → ⊥
  cut_in_unpack p u = differ (one_record p (unpacked_fields q u))

pub cut_in_a_row : {v k e : ℕ} {r out : Record} {line : List ℕ} (at : ℕ) → Row.Row v k r line → 2 ^ 47 ≤ r.offset → out.offset ≡ r.offset % 2 ^ 47
    → RowFound v k at line out (Some e) → ⊥
cut_in_a_row at w h c p = omega (arith, ap (λ (t : Record). t.offset) (row_one p.0 w))

-- row: none found, where one with an offset of 48 bits stands
pub old_limit_in_a_row : {r : Record} {v k o : ℕ} (at : ℕ) (out : Record) → WellFormed r → o < 2 ^ 48 → Carries (with_offset o r) v → 1 ≤ k → k ≤ last_number
    → RowFound v k at (row_text v k (with_offset o r)) out None → ⊥
old_limit_in_a_row {o = o} at out w h c l u = row_refused at out (row_spelled (every_offset o h w) c l u)

-- An offset field with these digits before the point and after it.
abbrev spelled_as : ℕ → ℕ → ℕ → List ℕ
spelled_as w ms n = decimal_text ms ++ (46 ∷ padded_text w n)

-- Past the largest offset: no row goes on with it.
module _ (v ms n : ℕ) {a : List ℕ} (l : n < 10 ^ fraction_digits v) (h : offset_limit < ms * 1000 + n * 10 ^ (3 - fraction_digits v)) where
  pub no_fields : {k : ℕ} {r : Record} {fs : List (List ℕ)} → Row.RowFields v k r (a ∷ spelled_as (fraction_digits v) ms n ∷ fs) → ⊥
  no_fields (Row.number x (Row.offset is o b)) = omega (arith, offset_value o refl (decimal_spells ms) (padded_spells (fraction_digits v) n l), o.limit)

  module _ {line : List ℕ} {fs : List (List ℕ)} (p : Parted (a ∷ spelled_as (fraction_digits v) ms n ∷ fs) line) where
    -- a row, taken with it
    pub past_the_limit : {k : ℕ} {r : Record} → Row.Row v k r line → ⊥
    past_the_limit w = no_fields (rw (parted_one w.parted p) at w.row)

    -- explain: anything but field 2, and that the line ended early
    module _ {k : ℕ} (b : BeginsRow v k (a ∷ [])) where
      wrong_2 : WrongField v k line 2
      wrong_2 = behind (a ∷ []) (spelled_as (fraction_digits v) ms n) fs p b (λ j r hs. no_fields)

      pub another_than_field_2 : {i j m : ℕ} → i ≢ 2 → ExplainPromise line v k (0 ∷ j ∷ m ∷ i ∷ []) → ⊥
      another_than_field_2 d = another_field wrong_2 (λ e. d (sym e))

      pub too_large_called_early : {i j : ℕ} → ExplainPromise line v k (0 ∷ j ∷ 2 ∷ i ∷ []) → ⊥
      too_large_called_early = wrong_called_early wrong_2

-- thirteen digits or more before the point, whatever they are
pub thirteen_digits : {v k n : ℕ} {r : Record} {line a whole : List ℕ} {fs : List (List ℕ)} (part : List ℕ) → Digits DecimalDigit 10 whole n → 13 ≤ length whole
    → Parted (a ∷ (whole ++ (46 ∷ part)) ∷ fs) line → Row.Row v k r line → ⊥
thirteen_digits {v} {k} {r = r} {a = a} {whole = whole} part d l p w = go (rw (parted_one w.parted p) at w.row)
  where
    go : {fs : List (List ℕ)} → Row.RowFields v k r (a ∷ (whole ++ (46 ∷ part)) ∷ fs) → ⊥
    go (Row.number x (Row.offset is o b)) =
        let c = digits-before (omega arith) (omega arith) d o.first.digits o.bytes in
        omega (arith, ap length c.0, o.short)

-- stamps

-- the stamp of an offset cut to 47 bits
pub cut_in_a_stamp : {start o : ℕ} {s : DateTime} → 2 ^ 47 ≤ o → Stamp start o s → Stamp start (o % 2 ^ 47) s → ⊥
cut_in_a_stamp h a b = omega (arith, a.time.high, b.time.low)

-- The last stamp of all lies on day 103,257, which is 14.09.2182, and none on a later day.
abbrev latest_day : ℕ
latest_day = 103257

abbrev pub latest_date : CalendarDay
latest_date = record { day = 14; month = 9; year = 2182 }

latest_date_lem : Date latest_day latest_date
unfolding leap month_days before before_year
latest_date_lem = made latest_day 2182 256 0 8 13 (omega arith) refl refl (omega arith) refl (omega arith)

pub none_later : {start o : ℕ} {s : DateTime} → start ≤ start_limit → o ≤ offset_limit → Stamp start o s → s.time.days ≤ latest_day
none_later l h p = omega (arith, p.time.low)

pub last_stamp : {s : DateTime} → Stamp start_limit offset_limit s → s.date ≡ latest_date
last_stamp {s} p =
    let t = p.time in
    let e : s.time.days ≡ latest_day = omega (arith, t.low, t.high, t.hour, t.minute, t.second, t.part) in
    one_date (rw e at p.date) latest_date_lem
