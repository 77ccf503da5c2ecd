-- Whole rows and start lines on the wrong side of a limit: each is refuted as the text that a logger might write, for every record and every start.
use Prim.Native.Nat.{ℕ, ◌+◌}
use mathlib.Core.Path.{◌≡◌, ap}
use mathlib.Core.List.{List, [], ◌∷◌}
use native.Mathlib.Omega.{arith}
use lib.ListN.{length, length-append}
use Rattle.digits.specs.House.{spell, fixed, decimal_text}
use Rattle.digits.proofs.House.{decimal_spells}
use Rattle.digits.proofs.Theorems.{one_decimal}
use Rattle.fields.specs.Columns.{NumberField, BusField}
use Rattle.fields.proofs.Columns.{before}
use Rattle.record.specs.declared.Record.{Record}
use Rattle.record.specs.Promise.{PackPromise}
use Rattle.record.proofs.Promises.{packed_0}
use Rattle.row.specs.Row
use Rattle.base.specs.Spaced.{spaced, joined}
use Rattle.row.specs.Versions.{is12}
use Rattle.lines.specs.Lines.{StartLine}
use Rattle.base.specs.Text.{text}
use Rattle.papers.proofs.Rows.{fields_of, frame}
use Rattle.papers.proofs.Starts.{parts_of, gives_only}
use Rattle.tightness.proofs.LongOffsets.{no_fields}

-- a row number past 999,999
no_million : {k : ℕ} → NumberField k (text "1000000)") → ⊥
unfolding decimal_text spell
no_million n =
    let d = decimal_spells 1000000 in
    let c = before (omega arith) (omega arith) d.digits n.spelled.digits n.bytes in
    omega (arith, n.high, one_decimal n.spelled (rw c.0 at d))

pub row_1000000 : {k : ℕ} (r : Record) → Row.Row 11 k r (text "1000000) 0.0 Rx 0123 0") → ⊥
unfolding spaced joined
row_1000000 {k} r w = go (fields_of (text "1000000)" ∷ text "0.0" ∷ text "Rx" ∷ text "0123" ∷ text "0" ∷ []) tt w)
  where
    go : {fs : List (List ℕ)} → Row.RowFields 11 k r (text "1000000)" ∷ fs) → ⊥
    go (Row.number n o) = no_million n

-- bus 17
no_17 : {bus : ℕ} → BusField bus (text "17") → ⊥
unfolding decimal_text spell
no_17 b = omega (arith, b.high, one_decimal b.spelled (decimal_spells 17))

pub row_bus_17 : {k : ℕ} (r : Record) → Row.Row 12 k r (text "1) 0.000 17 Rx 0123 0") → ⊥
unfolding spaced joined
row_bus_17 {k} r w = go (fields_of (text "1)" ∷ text "0.000" ∷ text "17" ∷ text "Rx" ∷ text "0123" ∷ text "0" ∷ []) tt w)
  where
    go : {n o : List ℕ} {fs : List (List ℕ)} → Row.RowFields 12 k r (n ∷ o ∷ text "17" ∷ fs) → ⊥
    go (Row.number n (Row.offset is12 o (Row.bus b m))) = no_17 b

-- length 9
pub row_length_9 : {k : ℕ} (r : Record) → Row.Row 11 k r (text "1) 0.0 Rx 0123 9 RTR") → ⊥
unfolding spaced joined
row_length_9 {k} r w = go (frame (fields_of (text "1)" ∷ text "0.0" ∷ text "Rx" ∷ text "0123" ∷ text "9" ∷ text "RTR" ∷ []) tt w))
  where
    go : {i : List ℕ} {fs : List (List ℕ)} → Row.FrameId 0 r (i ∷ text "9" ∷ fs) → ⊥
    go (Row.frame_id i (Row.frame_length l d)) = let e : 57 ≡ 48 + r.len = cc l.spelled in omega (arith, l.small)

-- two digits after the point of an offset where version 1.2 has three
pub row_two_fraction_digits : {k : ℕ} (r : Record) → Row.Row 12 k r (text "1) 0.00 1 Rx 0123 0") → ⊥
unfolding spaced joined
row_two_fraction_digits {k} r w = go (fields_of (text "1)" ∷ text "0.00" ∷ text "1" ∷ text "Rx" ∷ text "0123" ∷ text "0" ∷ []) tt w)
  where
    go : {n : List ℕ} {fs : List (List ℕ)} → Row.RowFields 12 k r (n ∷ text "0.00" ∷ fs) → ⊥
    go (Row.number n (Row.offset is12 o b)) = omega (arith, simp length-append at (ap length o.bytes), o.second.width, o.first.some)

-- 281474976710.656 in version 1.2, and 281474976710.7 in version 1.1: a microsecond and a tenth of a millisecond past the largest offset
pub row_past_48_bits : {k : ℕ} (r : Record) → Row.Row 12 k r (text "1) 281474976710.656 1 Rx 0123 0") → ⊥
unfolding spaced joined decimal_text spell fixed
row_past_48_bits r w =
    no_fields 12 281474976710 656 (omega arith) (omega arith)
    (fields_of (text "1)" ∷ text "281474976710.656" ∷ text "1" ∷ text "Rx" ∷ text "0123" ∷ text "0" ∷ []) tt w)

pub row_past_48_bits_11 : {k : ℕ} (r : Record) → Row.Row 11 k r (text "1) 281474976710.7 Rx 0123 0") → ⊥
unfolding spaced joined decimal_text spell fixed
row_past_48_bits_11 r w =
    no_fields 11 281474976710 7 (omega arith) (omega arith)
    (fields_of (text "1)" ∷ text "281474976710.7" ∷ text "Rx" ∷ text "0123" ∷ text "0" ∷ []) tt w)

-- day 100,000, which has six digits
pub start_day_100000 : {ms : ℕ} → StartLine ms (text ";$STARTTIME=100000.0") → ⊥
unfolding decimal_text spell fixed
start_day_100000 s = let b = gives_only 100000 1 0 (omega arith) s in omega (arith, b.low, b.high, s.gives.limit)

-- a fraction of eleven digits
pub start_eleven_digits : {ms : ℕ} → StartLine ms (text ";$STARTTIME=1.00000000000") → ⊥
unfolding decimal_text spell fixed
start_eleven_digits s = omega (arith, (parts_of 1 11 0 (omega arith) s).2, s.gives.short)

-- a record with bus 17, packed
pub packs_bus_17 : {r : Record} {mark : ℕ} {before after : List ℕ} → r.bus ≡ 17 → PackPromise r mark before (0 ∷ 0 ∷ []) after → ⊥
packs_bus_17 e p = omega (arith, (packed_0 p).formed.bus)
