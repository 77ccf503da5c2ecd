-- The promises of `pack` and `unpack`, and the numbers of paper 01 for each of their answers. In words: docs/FORMAT.md, section 11.
use Rattle.std.specs.Prelude.{Result, Ok, Err, ℕ, ◌≤◌, ◌<◌, ◌≡◌, ◌≢◌, List, [], ◌∷◌, ◌++◌, length, drop}
use Rattle.record.specs.declared.Record.{Record}
use Rattle.base.specs.declared.refusal.Refused.{Refused}
use Rattle.base.specs.Refusal.{number_of}
use Rattle.record.specs.declared.Unpacked.{Unpacked}
use Rattle.record.specs.Record.{WellFormed, Packs}

-- Number and place for each answer of `pack`.
abbrev pub pack_numbers : Result Unit Refused → List ℕ
pack_numbers (Ok _) = 0 ∷ 0 ∷ []
pack_numbers (Err e) = number_of e.reason ∷ e.place ∷ []

-- Offset, bus, kind, extended, ID, length, data.
abbrev pub fields_of : Record → List ℕ
fields_of r = r.offset ∷ r.bus ∷ r.kind ∷ r.extended ∷ r.id ∷ r.len ∷ r.«data» ∷ []

-- Number, place, the seven fields and the mark.
abbrev pub record_numbers : Record → ℕ → List ℕ
record_numbers r mark = 0 ∷ 0 ∷ (fields_of r ++ (mark ∷ []))

-- A refusal gives number and place, and zeros for all else.
abbrev pub refusal_numbers : ℕ → ℕ → List ℕ
refusal_numbers n p = n ∷ p ∷ 0 ∷ 0 ∷ 0 ∷ 0 ∷ 0 ∷ 0 ∷ 0 ∷ 0 ∷ []

-- The ten numbers for each answer of `unpack`.
abbrev pub unpack_numbers : Result Unpacked Refused → List ℕ
unpack_numbers (Ok u) = record_numbers u.r u.mark
unpack_numbers (Err e) = refusal_numbers (number_of e.reason) e.place

-- `pack` of r and a mark, into an output that held `before` and then holds `after`, gives the numbers a: 23 first, for the record or a mark
-- above 1, then 25, each with the output untouched; else the record's bytes, and after them what was there.
pub data PackPromise (r : Record) (mark : ℕ) (before a after : List ℕ) : Type 0 where
  done : {s : List ℕ} → Packs r mark s → 20 ≤ length before → a ≡ 0 ∷ 0 ∷ [] → after ≡ s ++ drop 20 before → PackPromise r mark before a after
  malformed : (WellFormed r → mark ≤ 1 → ⊥) → a ≡ 23 ∷ 1 ∷ [] → after ≡ before → PackPromise r mark before a after
  short : WellFormed r → mark ≤ 1 → length before < 20 → a ≡ 25 ∷ 0 ∷ [] → after ≡ before → PackPromise r mark before a after

-- `unpack` of s gives the numbers a: 20 if s is not twenty bytes, 23 if it is no packed record, with either mark, else the record's fields and
-- its mark.
pub data UnpackPromise (s a : List ℕ) : Type 0 where
  fields : {r : Record} {mark : ℕ} → Packs r mark s → a ≡ record_numbers r mark → UnpackPromise s a
  not_twenty : length s ≢ 20 → a ≡ refusal_numbers 20 0 → UnpackPromise s a
  malformed : length s ≡ 20 → ((r : Record) (mark : ℕ) → Packs r mark s → ⊥) → a ≡ refusal_numbers 23 1 → UnpackPromise s a
