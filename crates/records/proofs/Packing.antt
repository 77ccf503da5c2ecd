-- Laws on packed records: their marks and their bytes, in order.
use Prim.Native.Nat.{ℕ, ◌+◌, ◌*◌, ◌/◌, ◌≤◌, ◌<◌}
use mathlib.Core.Path.{◌≡◌, refl, ap, sym, ◌∙◌}
use mathlib.Core.Bool.{Bool, cond, true, false}
use mathlib.Core.List.{List, [], ◌∷◌, ◌++◌, append_assoc, append-nil}
use native.Mathlib.Omega.{arith}
use lib.Dec.{ltb}
use borrow.Author.Tests.{lt-ltb, le-ltb}
use lib.ListN.{length, take, drop, length-append, length-drop, take-append-drop}
use lib.Seq.{take_at, drop_at, drop-drop, length-take-le}
use Rattle.record.specs.declared.Record.{Record}
use Rattle.record.specs.Bytes.{bytes}
use Rattle.record.specs.Record.{number, WellFormed, Packs}
use Rattle.record.proofs.Bytes.{length_bytes}
use Rattle.record.proofs.OneRecord.{packs}
use Rattle.records.specs.Records.{mark_after, last_after, last_offset, packed_after, packed}

-- A mark is 1 where the offset is below the one before,
pub mark_below : {before offset : ℕ} → offset < before → mark_after before offset ≡ 1
unfolding mark_after
mark_below {before} {offset} h = rw (lt-ltb offset before h)

-- else 0: after the same offset, or a lower one, as after none.
pub mark_none : {before offset : ℕ} → before ≤ offset → mark_after before offset ≡ 0
unfolding mark_after
mark_none {before} {offset} h = rw (le-ltb offset before h)

-- It is one bit.
pub mark_bit : (before offset : ℕ) → mark_after before offset ≤ 1
unfolding mark_after
mark_bit before offset = go (ltb offset before)
  where
    go : (b : Bool) → cond b 1 0 ≤ 1
    go true = omega arith
    go false = omega arith

-- The offset of the last of two lists, and of one record more.
pub last_append : (before : ℕ) (rs qs : List Record) → last_after before (rs ++ qs) ≡ last_after (last_after before rs) qs
last_append before [] qs = refl
last_append before (r ∷ rs) qs = last_append r.offset rs qs

pub last_more : (rs : List Record) (r : Record) → last_offset (rs ++ (r ∷ [])) ≡ r.offset
last_more rs r = last_append 0 rs (r ∷ [])

-- The twenty bytes of a record with its mark.
abbrev pub marked : ℕ → Record → List ℕ
marked before r = bytes 20 (number r (mark_after before r.offset))

pub marked_length : (before : ℕ) (r : Record) → length (marked before r) ≡ 20
marked_length before r = length_bytes 20 (number r (mark_after before r.offset))

pub marked_packs : (before : ℕ) {r : Record} → WellFormed r → Packs r (mark_after before r.offset) (marked before r)
marked_packs before {r} w = packs w (mark_bit before r.offset)

pub packed_first : (before : ℕ) (r : Record) (rs : List Record) → packed_after before (r ∷ rs) ≡ marked before r ++ packed_after r.offset rs
unfolding packed_after
packed_first before r rs = refl

pub packed_none : (before : ℕ) → packed_after before [] ≡ []
unfolding packed_after
packed_none before = refl

-- Packed records, one list after the other.
pub packed_append : (before : ℕ) (rs qs : List Record) → packed_after before (rs ++ qs) ≡ packed_after before rs ++ packed_after (last_after before rs) qs
unfolding packed_after
packed_append before [] qs = refl
packed_append before (r ∷ rs) qs =
    rw (packed_append r.offset rs qs)
    (sym (append_assoc (marked before r) (packed_after r.offset rs) (packed_after (last_after r.offset rs) qs)))

-- One record more.
pub packed_more : (rs : List Record) (r : Record) → packed (rs ++ (r ∷ [])) ≡ packed rs ++ marked (last_offset rs) r
unfolding packed_after
packed_more rs r = packed_append 0 rs (r ∷ []) ∙ rw append-nil

-- Twenty bytes for each record.
pub after_length : (before : ℕ) (rs : List Record) → length (packed_after before rs) ≡ 20 * length rs
unfolding packed_after
after_length before [] = refl
after_length before (r ∷ rs) =
    rw length-append (omega (arith, marked_length before r, after_length r.offset rs))

pub packed_length : (rs : List Record) → length (packed rs) ≡ 20 * length rs
packed_length rs = after_length 0 rs

-- So the bytes tell how many records they are.
pub packed_count : {s : List ℕ} (rs : List Record) → s ≡ packed rs → length s / 20 ≡ length rs
packed_count rs e = omega (arith, ap length e, packed_length rs)

-- The twenty bytes at a place, and what stands after them.
pub twenty : (at : ℕ) (s : List ℕ) → at + 20 ≤ length s → length (take 20 (drop at s)) ≡ 20
twenty at s h = length-take-le 20 (drop at s) (omega (arith, length-drop at s))

pub next_record : (at : ℕ) (s : List ℕ) → drop at s ≡ take 20 (drop at s) ++ drop (at + 20) s
next_record at s = sym (take-append-drop 20 (drop at s)) ∙ ap (λ (x : List ℕ). take 20 (drop at s) ++ x) (drop-drop 20 at s)

-- The first record of packed ones, and the rest.
module _ (before : ℕ) (r : Record) (rs : List Record) where
  pub first_packed : take 20 (packed_after before (r ∷ rs)) ≡ marked before r
  first_packed = rw packed_first (take_at (marked before r) (packed_after r.offset rs) 20 (marked_length before r))

  pub first_packs : WellFormed r → Packs r (mark_after before r.offset) (take 20 (packed_after before (r ∷ rs)))
  first_packs w = rw first_packed (marked_packs before w)

  pub rest_packed : drop 20 (packed_after before (r ∷ rs)) ≡ packed_after r.offset rs
  rest_packed = rw packed_first (drop_at (marked before r) (packed_after r.offset rs) 20 (marked_length before r))
