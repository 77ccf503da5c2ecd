-- The marks of packed records: each is told by its offset and the one before, and the first of them is the first step back.
use Prim.Native.Nat.{ℕ, zero, suc, ◌+◌, ◌*◌, ◌≤◌, ◌<◌}
use mathlib.Core.Path.{◌≡◌, refl, ap, sym, ◌∙◌}
use mathlib.Core.Logic.{◌⊎◌, inl, inr}
use mathlib.Core.List.{List, [], ◌∷◌, ◌++◌}
use native.Mathlib.Omega.{arith}
use borrow.Author.Tests.{lt-ltb, le-ltb}
use lib.ListN.{length, take, drop, length-take, length-drop}
use Rattle.base.proofs.Numbers.{below_or_not}
use Rattle.record.specs.declared.Record.{Record}
use Rattle.record.specs.Record.{WellFormed, Packs}
use Rattle.record.proofs.OneRecord.{packed_length, one_marked}
use Rattle.records.specs.Records.{mark_after, last_after, last_offset, packed_after, packed, Each, none, more, PacksAll}
use Rattle.records.specs.StepBack.{back_from, step_back, MarkAt, FirstMark}
use Rattle.records.specs.StepBack
use Rattle.records.proofs.Packing.{mark_below, mark_none, after_length, first_packs}
use Rattle.records.proofs.Records.{behind}

-- Record i + 1 of some records is record i of those after the first.
shifted : (b : ℕ) (r : Record) (rs : List Record) (i : ℕ) → drop (20 * suc i) (packed_after b (r ∷ rs)) ≡ drop (20 * i) (packed_after r.offset rs)
shifted b r rs i = behind b r rs (20 * suc i) (20 * i) (omega arith)

nowhere : {r : Record} {mark : ℕ} (b i : ℕ) → Packs r mark (take 20 (drop i (packed_after b []))) → ⊥
nowhere b i p =
    let s = packed_after b [] in
    omega (arith, packed_length p, length-take 20 (drop i s), length-drop i s, after_length b [])

-- The first mark after an offset.
head_mark : {q : Record} {mark : ℕ} {rs : List Record} (b : ℕ) → Each WellFormed rs → Packs q mark (take 20 (drop 0 (packed_after b rs)))
    → mark ≡ mark_after b q.offset
head_mark b none p = absurd (nowhere b 0 p)
head_mark b (more {r = r} {rs = rs} w ws) p =
    let z = one_marked p (first_packs b r rs w) in
    z.1 ∙ ap (λ (x : Record). mark_after b x.offset) (sym z.0)

-- And that of any record after another.
next_mark : {r q : Record} {k mark : ℕ} {rs : List Record} (b i : ℕ) → Each WellFormed rs → Packs r k (take 20 (drop (20 * i) (packed_after b rs)))
    → Packs q mark (take 20 (drop (20 * suc i) (packed_after b rs))) → mark ≡ mark_after r.offset q.offset
next_mark b i none p g = absurd (nowhere b (20 * i) p)
next_mark {r} {q} b zero (more {r = x} {rs = rs} w ws) p g =
    let z : r ≡ x = (one_marked p (first_packs b x rs w)).0 in
    rw z (head_mark x.offset ws (rw (shifted b x rs 0) at g))
next_mark b (suc i) (more {r = x} {rs = rs} w ws) p g =
    next_mark x.offset i ws (rw (shifted b x rs i) at p) (rw (shifted b x rs (suc i)) at g)

-- A record stands in its list with the mark that it has after those before it.
in_list : (b : ℕ) (front : List Record) (r : Record) (back : List Record) → Each WellFormed (front ++ (r ∷ back))
    → Packs r (mark_after (last_after b front) r.offset) (take 20 (drop (20 * length front) (packed_after b (front ++ (r ∷ back)))))
in_list b [] r back (more w ws) = first_packs b r back w
in_list b (q ∷ front) r back (more w ws) = rw (shifted b q (front ++ (r ∷ back)) (length front)) (in_list q.offset front r back ws)

pub marked_there : (front : List Record) (r : Record) (back : List Record) → Each WellFormed (front ++ (r ∷ back))
    → Packs r (mark_after (last_offset front) r.offset) (take 20 (drop (20 * length front) (packed (front ++ (r ∷ back)))))
marked_there = in_list 0

-- Of a list that is well formed: the first mark is 0, and every other says whether the offset is below the one before.
module _ {rs : List Record} {s : List ℕ} (h : PacksAll rs s) where
  pub first_unmarked : {r : Record} {mark : ℕ} → Packs r mark (take 20 s) → mark ≡ 0
  first_unmarked p = head_mark 0 h.formed (rw h.bytes at p) ∙ mark_none (omega arith)

  pub mark_told : {r q : Record} {k mark : ℕ} (i : ℕ) → Packs r k (take 20 (drop (20 * i) s)) → Packs q mark (take 20 (drop (20 * suc i) s))
      → mark ≡ mark_after r.offset q.offset
  mark_told i p g = next_mark 0 i h.formed (rw h.bytes at p) (rw h.bytes at g)

-- The first step back of some records after an offset, the first of which stands at a position, and their first mark.
data From (s : List ℕ) (n at : ℕ) : ℕ → Type 0 where
  nothing : ((i : ℕ) → i < n → MarkAt s i 0) → From s n at 0
  found : {i b : ℕ} → b ≡ at + i → MarkAt s i 1 → ((j : ℕ) → j < i → MarkAt s j 0) → From s n at b

module _ (b : ℕ) (r : Record) (rs : List Record) where
  here : {mark : ℕ} → WellFormed r → mark_after b r.offset ≡ mark → MarkAt (packed_after b (r ∷ rs)) 0 mark
  here w e = record { this = r; packs = rw e at (first_packs b r rs w) }

  there : {i mark : ℕ} → MarkAt (packed_after r.offset rs) i mark → MarkAt (packed_after b (r ∷ rs)) (suc i) mark
  there {i} m = record { this = m.this; packs = rw (shifted b r rs i) m.packs }

  all_marked : {n mark : ℕ} → MarkAt (packed_after b (r ∷ rs)) 0 mark → ((i : ℕ) → i < n → MarkAt (packed_after r.offset rs) i mark)
      → (i : ℕ) → i < suc n → MarkAt (packed_after b (r ∷ rs)) i mark
  all_marked m f zero h = m
  all_marked m f (suc i) h = there (f i (omega arith))

module _ (at b : ℕ) {r : Record} (rs : List Record) (w : WellFormed r) (behind : From (packed_after r.offset rs) (length rs) (at + 1) (back_from (at + 1) r.offset rs)) where
  on : {x : ℕ} → b ≤ r.offset → From (packed_after r.offset rs) (length rs) (at + 1) x → From (packed_after b (r ∷ rs)) (suc (length rs)) at x
  on h (nothing f) = nothing (all_marked b r rs (here b r rs w (mark_none h)) f)
  on {x} h (found {i = i} e m f) = found {i = suc i} {b = x} (omega arith) (there b r rs m) (all_marked b r rs (here b r rs w (mark_none h)) f)

  step : (r.offset < b) ⊎ (b ≤ r.offset) → From (packed_after b (r ∷ rs)) (suc (length rs)) at (back_from at b (r ∷ rs))
  unfolding back_from
  step (inl h) = rw (back_from, lt-ltb r.offset b h) (found {i = 0} {b = at} (omega arith) (here b r rs w (mark_below h)) (λ j l. absurd (omega arith)))
  step (inr h) = rw (back_from, le-ltb r.offset b h) (on h behind)

from : {rs : List Record} (at b : ℕ) → Each WellFormed rs → From (packed_after b rs) (length rs) at (back_from at b rs)
unfolding back_from
from at b none = nothing (λ i h. absurd (omega arith))
from at b (more {r = r} {rs = rs} w ws) = step at b rs w (from (at + 1) r.offset ws) (below_or_not r.offset b)

-- No offset is below 0, so that the first step back of a whole list is that after 0.
whole_list : (rs : List Record) → step_back rs ≡ back_from 1 0 rs
unfolding step_back back_from
whole_list [] = refl
whole_list (r ∷ rs) = rw (back_from, le-ltb r.offset 0 (omega arith))

-- The first step back of records is the position of the first mark among their bytes, or 0 if there is none.
pub first_mark : {rs : List Record} → Each WellFormed rs → FirstMark (packed rs) (step_back rs)
first_mark {rs} w = rw (whole_list rs) (go (from 1 0 w))
  where
    go : {b : ℕ} → From (packed rs) (length rs) 1 b → FirstMark (packed rs) b
    go (nothing f) = StepBack.none (λ i h. f i (omega (arith, after_length 0 rs)))
    go {b} (found {i = i} e m f) =
        let d : b ≡ i + 1 = omega arith in
        rw d (StepBack.first m f)
