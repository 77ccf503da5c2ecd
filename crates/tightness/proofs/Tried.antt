-- The traces that the wrong programs are tried with can be written, and are spelled by bytes.
use Prim.Native.Nat.{ℕ, zero, suc, ◌≤◌}
use mathlib.Core.Path.{refl}
use mathlib.Core.List.{List, [], ◌∷◌}
use native.Mathlib.Omega.{arith}
use lib.ListN.{replicate}
use Rattle.base.specs.Limits.{offset_limit, last_bus}
use Rattle.base.specs.Spaced.{spaced, joined}
use Rattle.digits.specs.House.{glyph_of, fixed, spell, decimal_text, byte_texts}
use Rattle.clock.specs.Start.{start_limit}
use Rattle.fields.specs.Runs.{empty as nothing, more as byte}
use Rattle.fields.proofs.Runs.{all_append, all_of}
use Rattle.record.specs.declared.Record.{Record}
use Rattle.record.specs.Record.{WellFormed, number}
use Rattle.record.proofs.Bytes.{byte_below}
use Rattle.record.proofs.Frames.{frame_formed}
use Rattle.records.specs.Records.{mark_after, packed_after, packed, none, more}
use Rattle.records.proofs.Packing.{marked}
use Rattle.row.specs.House.{number_text, offset_text, bus_texts, type_text, id_text, data_texts, row_texts}
use Rattle.row.specs.Versions.{Version, is11, is12, Carries, v11, v12}
use Rattle.trace.specs.Trace.{Trace, no_rows, some_rows, AreBytes, trace_of}
use Rattle.trace.specs.House.{version_line_text, fraction_of_day, start_line_text, rows_text, trace_text, Writable}
use Rattle.trace.proofs.Beginnings.{tested, are_bytes}
use Rattle.tightness.specs.Programs.{Lent}
use Rattle.tightness.specs.Tight.{received_on, received12, Tried, empty, later, older, two, copied, middle, one, no_bus, stepping}

-- They can be written.

on_formed : (bus offset id : ℕ) → bus ≤ last_bus → offset ≤ offset_limit → id ≤ 0x7FF → WellFormed (received_on bus offset id)
on_formed bus offset id b o i =
    frame_formed _ (omega arith) o b (omega arith) (λ e. i) (omega arith) (omega arith) (omega arith) refl (λ e. refl)

pub received_formed : (offset id : ℕ) → offset ≤ offset_limit → id ≤ 0x7FF → WellFormed (received12 offset id)
received_formed offset id = on_formed 1 offset id (omega arith)

none_writable : {version start : ℕ} → Version version → start ≤ start_limit → Writable (trace_of version start 0 [])
none_writable v l = record { version = v; start = l; numbered = no_rows refl refl; formed = none; carried = none }

pub received_carried : (offset id : ℕ) → Carries (received12 offset id) 12
received_carried offset id = v12 (omega arith) (omega arith)

two_writable : (first id : ℕ) → 1 ≤ first → first ≤ 999998 → id ≤ 0x7FF → Writable (trace_of 12 0 first (received12 0 1 ∷ received12 0 id ∷ []))
two_writable first id l u h = record {
  version = is12;
  start = omega arith;
  numbered = some_rows (omega arith) l (omega arith);
  formed = more (received_formed 0 1 (omega arith) (omega arith)) (more (received_formed 0 id (omega arith) h) none);
  carried = more (received_carried 0 1) (more (received_carried 0 id) none);
}

one_writable : {version bus : ℕ} → Version version → bus ≤ last_bus → Carries (received_on bus 0 1) version → Writable (trace_of version 0 1 (received_on bus 0 1 ∷ []))
one_writable {bus = bus} v b c = record {
  version = v;
  start = omega arith;
  numbered = some_rows (omega arith) (omega arith) (omega arith);
  formed = more (on_formed bus 0 1 b (omega arith) (omega arith)) none;
  carried = more c none;
}

stepping_writable : Writable (trace_of 12 0 1 (received12 100 1 ∷ received12 300 1 ∷ received12 200 1 ∷ []))
stepping_writable = record {
  version = is12;
  start = omega arith;
  numbered = some_rows (omega arith) (omega arith) (omega arith);
  formed = more (received_formed 100 1 (omega arith) (omega arith)) (more (received_formed 300 1 (omega arith) (omega arith)) (more (received_formed 200 1 (omega arith) (omega arith)) none));
  carried = more (received_carried 100 1) (more (received_carried 300 1) (more (received_carried 200 1) none));
}

pub writable : {t : Trace} → Tried t → Writable t
writable empty = none_writable is12 (omega arith)
writable later = none_writable is12 (omega arith)
writable older = none_writable is11 (omega arith)
writable two = two_writable 1 2 (omega arith) (omega arith) (omega arith)
writable copied = two_writable 1 1 (omega arith) (omega arith) (omega arith)
writable middle = two_writable 4117 2 (omega arith) (omega arith) (omega arith)
writable one = one_writable is12 (omega arith) (received_carried 0 1)
writable no_bus = one_writable is11 (omega arith) (v11 refl refl)
writable stepping = stepping_writable

-- Bytes: so many zeros, packed records, and, computed, the house spelling of each trace.

pub zeros_small : (n : ℕ) → AreBytes (replicate n 0)
zeros_small zero = nothing
zeros_small (suc n) = byte {b = 0} (omega arith) (zeros_small n)

abbrev pub zeros : ℕ → Lent
zeros n = record { list = replicate n 0; small = zeros_small n }

pub packed_small : (before : ℕ) (rs : List Record) → AreBytes (packed_after before rs)
unfolding packed_after
packed_small before [] = nothing
packed_small before (r ∷ rs) =
    all_append (all_of (marked before r) (λ k l. byte_below 20 (number r (mark_after before r.offset)) k)) (packed_small r.offset rs)

abbrev pub records_of : Trace → Lent
records_of t = record { list = packed t.records; small = packed_small 0 t.records }

text_tested : {t : Trace} → Tried t → tested (trace_text t)
unfolding trace_text version_line_text start_line_text fraction_of_day rows_text spaced joined number_text offset_text bus_texts type_text id_text byte_texts data_texts row_texts decimal_text spell fixed glyph_of
text_tested empty = tt
text_tested later = tt
text_tested older = tt
text_tested two = tt
text_tested copied = tt
text_tested middle = tt
text_tested one = tt
text_tested no_bus = tt
text_tested stepping = tt

pub text_small : {t : Trace} → Tried t → AreBytes (trace_text t)
text_small {t} w = are_bytes (trace_text t) (text_tested w)

abbrev pub text_of : {t : Trace} → Tried t → Lent
text_of {t} w = record { list = trace_text t; small = text_small w }
