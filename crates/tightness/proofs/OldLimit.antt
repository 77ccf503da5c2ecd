-- Whole traces, lists and lines with an offset of 48 bits: each is refuted that is refused for it, as where the old limit is left in one place. Then a
-- line that is read with its offset cut to 47 bits.
use Prim.Native.Nat.{ℕ, ◌+◌, ◌*◌, ◌%◌, ◌^◌, ◌≤◌, ◌<◌}
use mathlib.Core.Path.{◌≡◌, refl, ap}
use mathlib.Core.List.{List, [], ◌∷◌, ◌++◌}
use native.Mathlib.Omega.{arith}
use lib.ListN.{length, take}
use Rattle.clock.specs.declared.DateTime.{DateTime}
use Rattle.clock.specs.Start.{start_limit}
use Rattle.clock.specs.Stamp.{Stamp}
use Rattle.record.specs.declared.Record.{Record}
use Rattle.record.specs.Record.{WellFormed}
use Rattle.records.specs.Records.{Each, more, packed, PacksAll}
use Rattle.records.proofs.Lists.{each_append}
use Rattle.row.specs.Versions.{Version}
use Rattle.trace.specs.Trace.{FirstNumber, trace_of}
use Rattle.trace.specs.House.{trace_text, Carried, Writable}
use Rattle.trace.specs.Promise.{ReadPromise}
use Rattle.trace.specs.Promise as reading
use Rattle.trace.proofs.Answers.{not_refused}
use Rattle.trace.proofs.There.{there}
use Rattle.trace_writer.specs.Promise.{WritePromise}
use Rattle.ascii.specs.Promise.{line_of, ExportPromise}
use Rattle.ascii.proofs.Channels.{same_channel}
use Rattle.ascii_line_reader.specs.AsciiLine.{with_offset, instant}
use Rattle.ascii_reader.specs.Text.{over, cut, SpellsAscii}
use Rattle.ascii_reader.specs.Promise.{ReadAsciiPromise}
use Rattle.ascii_reader.specs.Promise as returning
use Rattle.ascii_reader.proofs.OwnLines.{Dated, line_back}
use Rattle.ascii_reader.proofs.Stops as stops
use Rattle.tightness.proofs.LongOffsets.{every_offset}
use Rattle.tightness.proofs.Marks.{good_list_not_written, good_list_not_exported}
use Rattle.tightness.proofs.ReadingAscii.{other_records}

-- Records, one of them with this offset.
module _ {r : Record} (w : WellFormed r) (o : ℕ) (h : o < 2 ^ 48) (front back : List Record) (f : Each WellFormed front) (b : Each WellFormed back) where
  abbrev list : List Record
  list = front ++ (with_offset o r ∷ back)

  given : PacksAll list (packed list)
  given = record { formed = each_append f (more (every_offset o h w) b); bytes = refl }

  -- export: 23
  pub old_limit_in_export : {start channel p : ℕ} {before after ns : List ℕ} → ExportPromise start channel (packed list) before (23 ∷ p ∷ ns) after → ⊥
  old_limit_in_export = good_list_not_exported given

  module _ {version start first : ℕ} where
    -- write: 23
    pub old_limit_in_write : {p : ℕ} {before after ns : List ℕ} → WritePromise version start first (packed list) before (23 ∷ p ∷ ns) after → ⊥
    old_limit_in_write = good_list_not_written given

    -- read: 7, or any other refusal of a line, for the house spelling of them
    module _ (v : Version version) (l : start ≤ start_limit) (n : FirstNumber first (length list)) (c : Carried version list) where
      writable : Writable (trace_of version start first list)
      writable = record { version = v; start = l; numbered = n; formed = given.formed; carried = c }

      pub old_limit_in_read : {before after ns : List ℕ} → ReadPromise (trace_text (trace_of version start first list)) before (7 ∷ ns) after → ⊥
      old_limit_in_read (reading.large s e z) = let y : ◌≡◌ {A = ℕ} 7 1 = cc in omega arith
      old_limit_in_read (reading.done s u m e z) = let y : ◌≡◌ {A = ℕ} 7 0 = cc in omega arith
      old_limit_in_read (reading.no_room s u m e z) = let y : ◌≡◌ {A = ℕ} 7 8 = cc in omega arith
      old_limit_in_read (reading.refused s m e z) = not_refused s (there writable) m

-- Two lines, the second so many microseconds after the start. A stamp cuts nothing off an offset that is whole in 100 microseconds.
whole_stamp : {start o : ℕ} {s : DateTime} → Stamp start o s → o % 100 ≡ 0 → instant s ≡ start * 1000 + o
whole_stamp p e = omega (arith, p.time.low, p.time.high)

module _ {start o : ℕ} {r : Record} {s t : DateTime} (w : WellFormed r) (k : r.kind ≤ 1) (h : o < 2 ^ 48) (e : o % 100 ≡ 0)
    (d : Dated start (with_offset o r)) (p : Stamp start 0 s) (q : Stamp start o t) where
  abbrev two : List ℕ
  two = line_of 0 s (with_offset 0 r) ++ (line_of 0 t (with_offset o r) ++ [])

  spelled : SpellsAscii start (with_offset 0 r ∷ with_offset o r ∷ []) two
  spelled = record {
    first = cut {r = with_offset 0 r} (omega arith);
    lines = line_back (omega arith) (every_offset 0 (omega arith) w) k p (omega arith) (same_channel r.bus) (whole_stamp p refl)
        (line_back (omega arith) (every_offset o h w) k q d (same_channel r.bus) (whole_stamp q e) over);
  }

  -- read_ascii: 33
  pub old_limit_in_ascii : {before after ns : List ℕ} → ReadAsciiPromise two before (33 ∷ ns) after → ⊥
  old_limit_in_ascii (returning.large l x z) = let y : ◌≡◌ {A = ℕ} 33 1 = cc in omega arith
  old_limit_in_ascii (returning.refused l m x z) = stops.not_refused spelled m
  old_limit_in_ascii (returning.many l u m x z) = let y : ◌≡◌ {A = ℕ} 33 34 = cc in omega arith
  old_limit_in_ascii (returning.no_room l u m n x z) = let y : ◌≡◌ {A = ℕ} 33 8 = cc in omega arith
  old_limit_in_ascii (returning.done l u m n x z) = let y : ◌≡◌ {A = ℕ} 33 0 = cc in omega arith

-- The offset of one record of a list.
same_there : (front back : List Record) (r q : Record) → front ++ (q ∷ back) ≡ front ++ (r ∷ back) → q ≡ r
same_there [] back r q e = cc
same_there (x ∷ front) back r q e = same_there front back r q (cc)

-- read_ascii: a record with its offset cut to 47 bits
pub cut_in_ascii : {text before after : List ℕ} {start p m n : ℕ} (front back : List Record) (r : Record) → SpellsAscii start (front ++ (r ∷ back)) text
    → 2 ^ 47 ≤ r.offset → PacksAll (front ++ (with_offset (r.offset % 2 ^ 47) r ∷ back)) (take (20 * n) after)
    → ReadAsciiPromise text before (0 ∷ p ∷ m ∷ n ∷ []) after → ⊥
cut_in_ascii front back r s h k =
    let q = with_offset (r.offset % 2 ^ 47) r in
    other_records s (λ e. omega (arith, ap (λ (x : Record). x.offset) (same_there front back r q e))) k
