-- The first step back of records in order: the first whose offset is below its predecessor's. And the first mark among packed records, which is shown
-- to be the same. In words: docs/FORMAT.md, section 8.
use Rattle.std.specs.Prelude.{ℕ, ◌+◌, ◌*◌, ◌<◌, true, false, List, [], ◌∷◌, ltb, length, take, drop}
use Rattle.record.specs.declared.Record.{Record}
use Rattle.record.specs.Record.{Packs}

-- The position, from 1, of the first record whose offset is below its predecessor's, or 0. `at` is the position of the next.
unfoldable pub back_from : ℕ → ℕ → List Record → ℕ
back_from at before [] = 0
back_from at before (r ∷ rs) = elim (ltb r.offset before) [ true ↦ at | false ↦ back_from (at + 1) r.offset rs ]

unfoldable pub step_back : List Record → ℕ
step_back [] = 0
step_back (r ∷ rs) = back_from 2 r.offset rs

-- Record i of the bytes, counted from 0, has this mark.
pub record MarkAt (s : List ℕ) (i mark : ℕ) : Type 0 where
  pub this : Record
  pub packs : Packs this mark (take 20 (drop (20 * i) s))

-- The position, from 1, of the first record of the bytes with mark 1, or 0 if there is none.
pub data FirstMark (s : List ℕ) : ℕ → Type 0 where
  none : ((i : ℕ) → 20 * i < length s → MarkAt s i 0) → FirstMark s 0
  first : {i : ℕ} → MarkAt s i 1 → ((j : ℕ) → j < i → MarkAt s j 0) → FirstMark s (i + 1)
