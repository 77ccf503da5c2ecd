-- Marks: wrong answers of `pack` and `unpack`, of whatever gives a list, and of `write` and `export`. Each is refuted over the promise, for every record or
-- list to which it applies.
use Prim.Native.Nat.{ℕ, suc, ◌+◌, ◌*◌, ◌/◌, ◌%◌, ◌≤◌, ◌<◌}
use mathlib.Core.Path.{◌≡◌, refl, sym, ◌∙◌}
use mathlib.Core.Logic.{◌≢◌}
use mathlib.Core.List.{List, [], ◌∷◌, ◌++◌}
use native.Mathlib.Omega.{arith}
use lib.ListN.{length, get_or, take, drop}
use Rattle.record.specs.declared.Record.{Record}
use Rattle.record.specs.Record.{WellFormed, Packs}
use Rattle.record.specs.Promise.{PackPromise, UnpackPromise, record_numbers}
use Rattle.record.proofs.OneRecord.{mark_place}
use Rattle.record.proofs.Promises.{packed_0, unpacked_fields}
use Rattle.records.specs.Records.{mark_after, packed, Each, PacksAll, FirstMalformed}
use Rattle.records.proofs.Marks.{first_unmarked, mark_told}
use Rattle.records.proofs.Packing.{mark_below, mark_none}
use Rattle.records.proofs.Records.{malformed_one, none_malformed, malformed_itself, false_mark}
use Rattle.trace_writer.specs.Promise.{WritePromise}
use Rattle.trace_writer.proofs.Answers as writing
use Rattle.ascii.specs.Promise.{ExportPromise}
use Rattle.ascii.proofs.Answers as exporting
use Rattle.tightness.specs.Programs.{Writer, KeepsWrite, Exporter, KeepsExport}
use Rattle.tightness.specs.Wrong.{FalselyMarked, WritesFalsely, ExportsFalsely}
use Rattle.tightness.proofs.Writers.{done}

-- pack: the mark at another bit than the sixth from the end, or one of the five after it set
module _ {r : Record} {mark : ℕ} {before after ns : List ℕ} where
  pub mark_at_another_bit : get_or (take 20 after) 19 0 / 32 % 2 ≢ mark → PackPromise r mark before (0 ∷ ns) after → ⊥
  mark_at_another_bit d p = d (mark_place (packed_0 p)).0

  pub spare_bit_set : get_or (take 20 after) 19 0 % 32 ≢ 0 → PackPromise r mark before (0 ∷ ns) after → ⊥
  spare_bit_set d p = d (mark_place (packed_0 p)).1

  -- any other number than 23 for a mark above 1
  pub mark_above_1_taken : {n : ℕ} → 1 < mark → n ≢ 23 → PackPromise r mark before (n ∷ ns) after → ⊥
  mark_above_1_taken h d (PackPromise.done p l e q) = let b = p.bit in omega arith
  mark_above_1_taken h d (PackPromise.malformed f e q) = d (cc)
  mark_above_1_taken h d (PackPromise.short w b l e q) = omega arith

  -- 23 for one of the two marks of a record that is well formed
  pub mark_refused : WellFormed r → mark ≤ 1 → PackPromise r mark before (23 ∷ ns) after → ⊥
  mark_refused w b (PackPromise.done p l e q) = let z : ◌≡◌ {A = ℕ} 23 0 = cc in omega arith
  mark_refused w b (PackPromise.malformed f e q) = f w b
  mark_refused w b (PackPromise.short v c l e q) = let z : ◌≡◌ {A = ℕ} 23 25 = cc in omega arith

-- unpack: the same of the bytes that it is given
module _ {s : List ℕ} where
  pub mark_from_another_bit : {r : Record} {mark : ℕ} → get_or s 19 0 / 32 % 2 ≢ mark → UnpackPromise s (record_numbers r mark) → ⊥
  mark_from_another_bit {r} d p = d (mark_place (unpacked_fields r p)).0

  pub spare_bit_taken : {r : Record} {mark : ℕ} → get_or s 19 0 % 32 ≢ 0 → UnpackPromise s (record_numbers r mark) → ⊥
  spare_bit_taken {r} d p = d (mark_place (unpacked_fields r p)).1

  pub mark_not_unpacked : {r : Record} {mark : ℕ} {ns : List ℕ} → Packs r mark s → UnpackPromise s (23 ∷ ns) → ⊥
  mark_not_unpacked p (UnpackPromise.fields q e) = let z : ◌≡◌ {A = ℕ} 23 0 = cc in omega arith
  mark_not_unpacked p (UnpackPromise.not_twenty n e) = let z : ◌≡◌ {A = ℕ} 23 20 = cc in omega arith
  mark_not_unpacked {r} {mark} p (UnpackPromise.malformed l f e) = f r mark p

-- A list, as `read` and `read_ascii` give it (`read_held`, `ascii_held`): a mark on the first record, one for an equal offset or a later one, none for an
-- earlier one, and one that is compared with another record than the one before
module _ {rs : List Record} {s : List ℕ} (h : PacksAll rs s) where
  pub set_on_the_first : {r : Record} → Packs r 1 (take 20 s) → ⊥
  set_on_the_first p = omega (arith, first_unmarked h p)

  module _ {r q : Record} {k : ℕ} (i : ℕ) (p : Packs r k (take 20 (drop (20 * i) s))) where
    pub set_for_no_step : r.offset ≤ q.offset → Packs q 1 (take 20 (drop (20 * suc i) s)) → ⊥
    set_for_no_step l g = omega (arith, mark_told h i p g, mark_none l)

    pub not_set_for_a_step : q.offset < r.offset → Packs q 0 (take 20 (drop (20 * suc i) s)) → ⊥
    not_set_for_a_step l g = omega (arith, mark_told h i p g, mark_below l)

    pub compared_with_another : {mark : ℕ} (x : Record) → mark_after x.offset q.offset ≢ mark_after r.offset q.offset
        → mark ≡ mark_after x.offset q.offset → Packs q mark (take 20 (drop (20 * suc i) s)) → ⊥
    compared_with_another x d e g = d (sym e ∙ mark_told h i p g)

  -- write and export: 23 for such a list
  module _ {before after ns : List ℕ} {p : ℕ} where
    pub good_list_not_written : {version start first : ℕ} → WritePromise version start first s before (23 ∷ p ∷ ns) after → ⊥
    good_list_not_written e = none_malformed h (writing.answered_23 e)

    pub good_list_not_exported : {start channel : ℕ} → ExportPromise start channel s before (23 ∷ p ∷ ns) after → ⊥
    good_list_not_exported e = none_malformed h (exporting.answered_23 e)

-- write and export: a list in which some record is malformed, by itself or by its mark, taken; and 23 at another record than the first such
module _ {s before after : List ℕ} {place : ℕ} (f : FirstMalformed s place) where
  pub malformed_written : {version start first p n : ℕ} → WritePromise version start first s before (0 ∷ p ∷ n ∷ []) after → ⊥
  malformed_written e =
      let w = writing.written (done e refl) in
      none_malformed (record { formed = w.1.formed; bytes = w.2 }) f

  pub malformed_exported : {start channel : ℕ} {ns : List ℕ} → ExportPromise start channel s before (0 ∷ ns) after → ⊥
  malformed_exported e = none_malformed (exporting.accepted e).given.packs f

  pub another_record_written : {version start first p : ℕ} {ns : List ℕ} → p ≢ place → WritePromise version start first s before (23 ∷ p ∷ ns) after → ⊥
  another_record_written d e = d (malformed_one (writing.answered_23 e) f)

  pub another_record_exported : {start channel p : ℕ} {ns : List ℕ} → p ≢ place → ExportPromise start channel s before (23 ∷ p ∷ ns) after → ⊥
  another_record_exported d e = d (malformed_one (exporting.answered_23 e) f)

-- so at a false mark after a record that is malformed by itself, wherever both stand; what follows the first of them is any bytes
module _ {front : List Record} (w : Each WellFormed front) {these : List ℕ} (l : length these ≡ 20) (m : (r : Record) (mark : ℕ) → Packs r mark these → ⊥)
    (rest : List ℕ) {before after ns : List ℕ} {later : ℕ} (h : length front + 1 < later) where
  pub false_mark_first_written : {version start first : ℕ} → WritePromise version start first (packed front ++ (these ++ rest)) before (23 ∷ later ∷ ns) after → ⊥
  false_mark_first_written = another_record_written (malformed_itself rest refl w l m) (λ e. omega arith)

  pub false_mark_first_exported : {start channel : ℕ} → ExportPromise start channel (packed front ++ (these ++ rest)) before (23 ∷ later ∷ ns) after → ⊥
  false_mark_first_exported = another_record_exported (malformed_itself rest refl w l m) (λ e. omega arith)

-- A list with a false mark is refused, wherever it stands and whatever follows.
falsely : {s : List ℕ} (x : FalselyMarked s) → FirstMalformed s (length x.before + 1)
falsely x = false_mark x.after x.whole x.formed x.packs x.not_true

pub writes_falsely : {g : Writer} → KeepsWrite g → WritesFalsely g → ⊥
writes_falsely k x =
    malformed_written (falsely x.marked) (rw x.accepted at (k.keeps x.version x.start x.first x.given x.out))

pub exports_falsely : {e : Exporter} → KeepsExport e → ExportsFalsely e → ⊥
exports_falsely k x =
    malformed_exported (falsely x.marked) (rw x.accepted at (k.keeps x.start x.channel x.given x.out))
