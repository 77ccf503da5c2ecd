-- Records in order, the marks that they have there, the bytes that they are packed as, and which bytes are such records. In words:
-- docs/FORMAT.md, section 8.
use Rattle.std.specs.Prelude.{ℕ, ◌+◌, ◌%◌, ◌≤◌, ◌≡◌, cond, List, [], ◌∷◌, ◌++◌, ltb, length}
use Rattle.record.specs.declared.Record.{Record}
use Rattle.record.specs.Bytes.{bytes}
use Rattle.record.specs.Record.{number, WellFormed, Packs}

-- Every record has P.
pub data Each (P : Record → Type 0) : List Record → Type 0 where
  none : Each P []
  more : {r : Record} {rs : List Record} → P r → Each P rs → Each P (r ∷ rs)

-- The mark of a record with this offset, after one with the offset `before`: 1 exactly if it is below.
unfoldable pub mark_after : ℕ → ℕ → ℕ
mark_after before offset = cond (ltb offset before) 1 0

-- The offset of the last record, or `before` if there is none.
abbrev pub last_after : ℕ → List Record → ℕ
last_after before [] = before
last_after before (r ∷ rs) = last_after r.offset rs

-- The same of a whole list, which has no record before it: 0 stands for that, since no offset is below it, and so the first mark is 0.
abbrev pub last_offset : List Record → ℕ
last_offset rs = last_after 0 rs

-- The records after one with the offset `before`, packed one after the other, each with its mark.
unfoldable pub packed_after : ℕ → List Record → List ℕ
packed_after before [] = []
packed_after before (r ∷ rs) = bytes 20 (number r (mark_after before r.offset)) ++ packed_after r.offset rs

-- A whole list of records, packed.
abbrev pub packed : List Record → List ℕ
packed rs = packed_after 0 rs

-- The most bytes of packed records: twenty for each row that a trace can have, which are 999,999.
abbrev pub packed_limit : ℕ
packed_limit = 19999980

-- Twenty bytes for each record, and no more records than row numbers.
pub record Whole (s : List ℕ) : Type 0 where
  pub twenties : length s % 20 ≡ 0
  pub few : length s ≤ packed_limit

-- The bytes are these records, each well formed, packed one after the other, and every mark is true.
pub record PacksAll (rs : List Record) (s : List ℕ) : Type 0 where
  pub formed : Each WellFormed rs
  pub bytes : s ≡ packed rs

-- The first record that is malformed by itself or whose mark is false, by its position from 1: those before it are well formed, with true marks,
-- and its twenty bytes are no packed record with the mark that it has after them.
pub record FirstMalformed (s : List ℕ) (place : ℕ) : Type 0 where
  pub before : List Record
  pub these : List ℕ
  pub after : List ℕ
  pub bytes : s ≡ packed before ++ (these ++ after)
  pub formed : Each WellFormed before
  pub twenty : length these ≡ 20
  pub malformed : (r : Record) → Packs r (mark_after (last_offset before) r.offset) these → ⊥
  pub at : place ≡ length before + 1
