-- Answers in which the line or the record is lost, or one is given where there is none: each is refuted over the promise, for every input. The
-- boundary to C promises the same numbers.
use Prim.Native.Nat.{ℕ, suc, ◌≤◌}
use mathlib.Core.Path.{◌≡◌, refl, sym}
use mathlib.Core.List.{List, [], ◌∷◌}
use native.Mathlib.Omega.{arith}
use Rattle.record.specs.declared.Record.{Record}
use Rattle.record.specs.Promise as single
use Rattle.trace.specs.Promise as reading
use Rattle.trace_writer.specs.Promise as writing
use Rattle.trace_writer.proofs.Answers.{stopped_numbers}
use Rattle.ascii.specs.Promise as exporting
use Rattle.ascii.proofs.Answers.{answered_23}

-- read: 2 to 7 are given with a line
refused_at : {text : List ℕ} {n p : ℕ} → reading.RefusedAtLine text n p → 1 ≤ p
refused_at (reading.unended r s f) = omega arith
refused_at (reading.long r f s) = omega arith
refused_at (reading.no_first r) = omega arith
refused_at (reading.no_version b) = omega arith
refused_at (reading.no_second r) = omega arith
refused_at (reading.no_start b) = omega arith
refused_at (reading.dollar n b d) = omega arith
refused_at (reading.no_row n b d) = omega arith

pub line_lost : {text before after : List ℕ} (n : ℕ) → 2 ≤ n → n ≤ 7
    → reading.ReadPromise text before (n ∷ 0 ∷ 0 ∷ 0 ∷ 0 ∷ 0 ∷ 0 ∷ []) after → ⊥
line_lost n a b (reading.large l e u) = let z : n ≡ 1 = cc in omega arith
line_lost n a b (reading.done l s r e u) = let z : n ≡ 0 = cc in omega arith
line_lost n a b (reading.no_room l s r e u) = let z : n ≡ 8 = cc in omega arith
line_lost n a b (reading.refused {p = p} l r e u) = let z : 0 ≡ p = cc in omega (arith, refused_at r)

-- write: 23 and 24 are given with a record, and what is written is counted after the place
stopped_at : {version start first n p : ℕ} {s : List ℕ} → writing.WriteStopped version start first s n p → 23 ≤ n → n ≤ 24 → 1 ≤ p
stopped_at (writing.no_records w) h k = absurd (omega arith)
stopped_at (writing.no_version w v) h k = absurd (omega arith)
stopped_at (writing.late w v l) h k = absurd (omega arith)
stopped_at (writing.no_number w v l f) h k = absurd (omega arith)
stopped_at (writing.malformed w v l n f) h k = omega (arith, f.at)
stopped_at (writing.misfit w v l n h f) i k = omega (arith, f.at)

stopped_nowhere : {version start first n p : ℕ} {s : List ℕ} → writing.WriteStopped version start first s n p → n ≡ 26 → p ≡ 0
stopped_nowhere (writing.no_records w) h = refl
stopped_nowhere (writing.no_version w v) h = refl
stopped_nowhere (writing.late w v l) h = refl
stopped_nowhere (writing.no_number w v l f) h = refl
stopped_nowhere (writing.malformed w v l n f) h = absurd (omega arith)
stopped_nowhere (writing.misfit w v l n g f) h = absurd (omega arith)

pub record_lost : {version start first : ℕ} {s before after : List ℕ} (n : ℕ) → 23 ≤ n → n ≤ 24
    → writing.WritePromise version start first s before (n ∷ 0 ∷ 0 ∷ []) after → ⊥
record_lost n a b (writing.refused {n = m} {p = p} t e u) = let y : n ≡ m = cc in let z : 0 ≡ p = cc in omega (arith, stopped_at t (omega arith) (omega arith))
record_lost n a b (writing.no_room w s r e u) = let z : n ≡ 25 = cc in omega arith
record_lost n a b (writing.done w s r e u) = let z : n ≡ 0 = cc in omega arith

pub bytes_as_place : {version start first bytes n : ℕ} {s before after : List ℕ}
    → writing.WritePromise version start first s before (0 ∷ suc bytes ∷ n ∷ []) after → ⊥
bytes_as_place (writing.refused {n = m} t e u) = let z : 0 ≡ m = cc in omega (arith, (stopped_numbers t).0)
bytes_as_place (writing.no_room w s r e u) = let z : ◌≡◌ {A = ℕ} 0 25 = cc in omega arith
bytes_as_place {bytes = bytes} (writing.done w s r e u) = let z : suc bytes ≡ 0 = cc in omega arith

-- 26 is given with none
pub number_at_a_record : {version start first p n : ℕ} {s before after : List ℕ} → writing.WritePromise version start first s before (26 ∷ suc p ∷ n ∷ []) after
    → ⊥
number_at_a_record {p = p} (writing.refused {n = m} {p = q} t e u) =
    let y : 26 ≡ m = cc in let z : suc p ≡ q = cc in omega (arith, stopped_nowhere t (sym y))
number_at_a_record (writing.no_room w s r e u) = let z : ◌≡◌ {A = ℕ} 26 25 = cc in omega arith
number_at_a_record (writing.done w s r e u) = let z : ◌≡◌ {A = ℕ} 26 0 = cc in omega arith

-- export: 23 is given with a record
pub export_record_lost : {start channel bytes lines left : ℕ} {s before after : List ℕ}
    → exporting.ExportPromise start channel s before (23 ∷ 0 ∷ bytes ∷ lines ∷ left ∷ []) after → ⊥
export_record_lost e = omega (arith, (answered_23 e).at)

-- pack: 25 is given with place 0
pub short_at_a_place : {r : Record} {mark place : ℕ} {before after : List ℕ} → single.PackPromise r mark before (25 ∷ suc place ∷ []) after → ⊥
short_at_a_place (single.done p n e u) = let z : ◌≡◌ {A = ℕ} 25 0 = cc in omega arith
short_at_a_place (single.malformed f e u) = let z : ◌≡◌ {A = ℕ} 25 23 = cc in omega arith
short_at_a_place {place = place} (single.short f b n e u) = let z : suc place ≡ 0 = cc in omega arith

-- unpack: 23 is given with record 1
pub single_lost : {s : List ℕ} → single.UnpackPromise s (single.refusal_numbers 23 0) → ⊥
single_lost (single.fields p e) = let z : ◌≡◌ {A = ℕ} 23 0 = cc in omega arith
single_lost (single.not_twenty n e) = let z : ◌≡◌ {A = ℕ} 23 20 = cc in omega arith
single_lost (single.malformed n f e) = let z : ◌≡◌ {A = ℕ} 0 1 = cc in omega arith
