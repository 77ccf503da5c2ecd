-- What the first pass keeps: the records up to `at` are well formed, with true marks, and their lines measured and counted.
use Prim.Native.Nat.{ℕ, ◌+◌, ◌*◌, ◌≤◌}
use Rattle.std.specs.Prelude.{Some, None}
use mathlib.Core.Path.{◌≡◌, refl, sym}
use mathlib.Core.List.{List, [], ◌++◌}
use native.Mathlib.Omega.{arith}
use lib.ListN.{length, length-append}
use Rattle.clock.proofs.Stamps.{some_stamp}
use Rattle.record.specs.declared.Record.{Record}
use Rattle.records.specs.Records.{PacksAll}
use Rattle.records.proofs.Through.{Through, NextIs, through, through_more, all_through}
use Rattle.ascii.specs.Promise.{line_of, none, line_count, left_count}
use Rattle.ascii.specs.inner.Passes.{LineBytes, Sized}
use Rattle.ascii.proofs.Exporting.{exports_append, exports_line, exports_left, frame_line, frame_left, count_none, count_snoc, counts_sum}

pub record Measuring (channel : ℕ) (s : List ℕ) (at k bytes lines left last : ℕ) : Type 0 where
  pub judged : Through s at k last
  pub bounded : bytes ≤ 86 * k
  pub each : lines + left ≡ k
  pub sized : Sized channel judged.records bytes
  pub counted : lines ≡ line_count judged.records

pub measuring : (channel : ℕ) (s : List ℕ) → Measuring channel s 0 0 0 0 0 0
measuring channel s = record {
  judged = through s;
  bounded = omega arith;
  each = refl;
  sized = λ start. ([], none, refl);
  counted = sym count_none;
}

module _ {channel : ℕ} {s : List ℕ} {at k bytes lines left last : ℕ} (m : Measuring channel s at k bytes lines left last) where
  module _ {r : Record} (h : at + 20 ≤ length s) (p : NextIs s at last r) where
    -- One line more,
    pub measured_line : {n : ℕ} → LineBytes channel r (Some n) → Measuring channel s (at + 20) (k + 1) (bytes + n) (lines + 1) left r.offset
    measured_line {n} b = record {
      judged = through_more m.judged h p;
      bounded = omega (arith, m.bounded, b.2);
      each = omega (arith, m.each);
      sized = λ start. let x = m.sized start in
          let z = some_stamp start r.offset in
          let t = line_of channel z.0 r in
          (x.0 ++ t, exports_append x.1 (exports_line b.0 z.1), omega (arith, x.2, b.1 z.0, length-append x.0 t));
      counted = omega (arith, m.counted, frame_line r b.0, count_snoc m.judged.records r);
    }

    -- or a record more that gives none.
    pub measured_left : LineBytes channel r None → Measuring channel s (at + 20) (k + 1) bytes lines (left + 1) r.offset
    measured_left b = record {
      judged = through_more m.judged h p;
      bounded = omega (arith, m.bounded);
      each = omega (arith, m.each);
      sized = λ start. let x = m.sized start in
          (x.0 ++ [], exports_append x.1 (exports_left b), omega (arith, x.2, length-append x.0 []));
      counted = omega (arith, m.counted, frame_left r b, count_snoc m.judged.records r);
    }

  pub measured : length s ≤ at
      → (rs : List Record) × PacksAll rs s × Sized channel rs bytes × (lines ≡ line_count rs) × (left ≡ left_count rs)
  measured h =
      let rs = m.judged.records in
      (rs, all_through m.judged h, m.sized, m.counted, omega (arith, m.counted, m.each, m.judged.counted, counts_sum rs))
