-- Laws on the first step back, one record more at the end.
use Prim.Native.Nat.{ℕ, suc, ◌+◌, ◌≤◌, ◌<◌}
use mathlib.Core.Path.{◌≡◌, refl, ◌∙◌}
use mathlib.Core.Bool.{Bool, true, false}
use mathlib.Core.List.{List, [], ◌∷◌, ◌++◌}
use native.Mathlib.Omega.{arith}
use lib.Dec.{ltb}
use borrow.Author.Tests.{lt-ltb, le-ltb}
use lib.ListN.{length}
use Rattle.record.specs.declared.Record.{Record}
use Rattle.records.specs.Records.{last_after, last_offset}
use Rattle.records.specs.StepBack.{back_from, step_back}

-- One record looked at: the place is it, or what is found after it.
abbrev pick : Bool → ℕ → ℕ → ℕ
pick b at behind = elim b [ true ↦ at | false ↦ behind ]

keep : (b : Bool) (at x y : ℕ) → 0 < pick b at y → (0 < y → x ≡ y) → pick b at x ≡ pick b at y
keep true at x y h i = refl
keep false at x y h i = i h

on : (b : Bool) (at x y z : ℕ) → 0 < at → pick b at y ≡ 0 → (y ≡ 0 → x ≡ z) → pick b at x ≡ z
on true at x y z p h i = absurd (omega arith)
on false at x y z p h i = i h

-- A step back that was found stays the first.
from_keep : (at before : ℕ) (rs qs : List Record) → 0 < back_from at before rs → back_from at before (rs ++ qs) ≡ back_from at before rs
unfolding back_from
from_keep at before [] qs h = absurd (omega arith)
from_keep at before (r ∷ rs) qs h =
    keep (ltb r.offset before) at (back_from (at + 1) r.offset (rs ++ qs)) (back_from (at + 1) r.offset rs) h
    (from_keep (at + 1) r.offset rs qs)

-- Where none was found, the records after are looked at.
from_on : (at before : ℕ) (rs qs : List Record) → 0 < at → back_from at before rs ≡ 0
    → back_from at before (rs ++ qs) ≡ back_from (at + length rs) (last_after before rs) qs
unfolding back_from
from_on at before [] qs p h =
    let e : at + 0 ≡ at = omega arith in
    rw e
from_on at before (r ∷ rs) qs p h =
    let e : at + suc (length rs) ≡ at + 1 + length rs = omega arith in
    rw e
    (on (ltb r.offset before) at (back_from (at + 1) r.offset (rs ++ qs)) (back_from (at + 1) r.offset rs)
    (back_from (at + 1 + length rs) (last_after r.offset rs) qs) p h (from_on (at + 1) r.offset rs qs (omega arith)))

-- One record more: a step back that was found stays,
pub back_keep : (rs : List Record) (r : Record) → 0 < step_back rs → step_back (rs ++ (r ∷ [])) ≡ step_back rs
unfolding step_back
back_keep [] r h = absurd (omega arith)
back_keep (q ∷ rs) r h = from_keep 2 q.offset rs (r ∷ []) h

-- else it is one if its offset is below the last,
pub back_found : (rs : List Record) (r : Record) → step_back rs ≡ 0 → r.offset < last_offset rs → step_back (rs ++ (r ∷ [])) ≡ length rs + 1
unfolding step_back back_from
back_found [] r h l = absurd (omega arith)
back_found (q ∷ rs) r h l =
    from_on 2 q.offset rs (r ∷ []) (omega arith) h ∙ rw (lt-ltb r.offset (last_after q.offset rs) l, back_from) (omega arith)

-- and else none is found.
pub back_none : (rs : List Record) (r : Record) → step_back rs ≡ 0 → last_offset rs ≤ r.offset → step_back (rs ++ (r ∷ [])) ≡ 0
unfolding step_back back_from
back_none [] r h l = refl
back_none (q ∷ rs) r h l =
    from_on 2 q.offset rs (r ∷ []) (omega arith) h ∙ rw (le-ltb r.offset (last_after q.offset rs) l, back_from)
