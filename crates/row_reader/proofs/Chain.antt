-- The laws that every gap and every field of the chain cites.
use Prim.Native.Nat.{ℕ, ◌-◌}
use Rattle.std.specs.Prelude.{Some, None}
use mathlib.Core.Path.{◌≡◌, refl}
use mathlib.Core.Logic.{◌≢◌}
use mathlib.Core.Bool.{true, false}
use mathlib.Core.List.{List, []}
use native.Mathlib.Decide.{ℕ_discrete}
use native.Mathlib.Omega.{arith}
use lib.ListN.{drop}
use Rattle.fields.specs.inner.Window.{Lined, Skipped, Starts, EndAfter}
use Rattle.fields.proofs.Parts.{only_none}
use Rattle.record.specs.declared.Record.{Record}
use Rattle.row.specs.declared.Stage.{Stage}
use Rattle.row.specs.Row.{RowFields}
use Rattle.row.specs.inner.Stages.{Stepped, Stuck, Continues}
use Rattle.row.proofs.Columns.{behind}
use Rattle.row.proofs.Ending.{last, ends_at, left_early}
use Rattle.row_reader.specs.inner.Answer.{RowFound}
use Rattle.row_reader.specs.inner.Chain.{Finds, found, Leads, Goes, GoesRow, Ready, known, seen, Finished, all_read, some_left}
use Rattle.row_reader.specs.inner.Chain.{none as None-found}
use Rattle.row_reader.proofs.Walk.{gap_found, end_found, field_found, field_none, not_whole, is_whole, onward}

-- A gap, and the field behind it.
pub gap_on : {w : List ℕ} {at a : ℕ} {C : List (List ℕ) → Record → Type 0} {o : Record} {e : ℕ} → Skipped w at a → Leads C w a o e → Leads C w at o e
gap_on k g line l = gap_found k l g

-- A gap, and the line ends behind it.
module _ {w : List ℕ} {at a : ℕ} (k : EndAfter w at a) where
  pub gap_end : {C : List (List ℕ) → Record → Type 0} {o : Record} {e : ℕ} → Finds C a [] o e → Leads C w at o e
  gap_end f line l = gap_found k.skipped l (λ rest m. end_found w a m k.end f)

  -- no row is without a row number
  pub gap_empty : {version number : ℕ} {o : Record} → GoesRow version number w at o 0
  gap_empty = gap_end (None-found refl (λ fs r ps c. none_there (only_none ps) c))
    where
      none_there : {v n : ℕ} {r : Record} {fs : List (List ℕ)} → fs ≡ [] → RowFields v n r fs → ⊥
      none_there e (RowFields.number n o) = let z : ◌≡◌ {A = ℕ} 0 1 = cc in omega arith

  module _ {x : Stage} {left place word : ℕ} {out o : Record} where
    -- at a stage that no row ends in
    pub gap_early : last x ≡ false → Ready x left place word out → Goes (known x left place word out) w at o 0
    gap_early f r = gap_end (go (ℕ_discrete left 0))
      where
        go : Dec (left ≡ 0) → Finds (Continues (known x left place word out)) a [] o 0
        go (yes n) = not_whole (last x) f (ends_at (known x left place word out) x refl r.good n)
        go (no n) = not_whole false refl (left_early (known x left place word out) x r.good n)

    -- at one that rows end in
    pub gap_last : {e : ℕ} → last x ≡ true → Ready x left place word out → Finished left a (seen out word) o e
        → Goes (known x left place word out) w at o e
    gap_last {e} f r h = gap_end (go h)
      where
        go : Finished left a (seen out word) o e → Finds (Continues (known x left place word out)) a [] o e
        go (all_read n u z) = is_whole (last x) f (ends_at (known x left place word out) x refl r.good n) u z
        go (some_left n z) = rw z (not_whole false refl (left_early (known x left place word out) x r.good n))

-- A field: it steps the state, and the next gap goes on.
module _ {w : List ℕ} {at : ℕ} {C : List (List ℕ) → Record → Type 0} where
  module _ {a left place : ℕ} {x : Stage} where
    pub link : {r o : Record} {e : ℕ} → Stepped w at C (behind a x left place r) → Goes (behind a x left place r).part w a o e → Leads C w at o e
    link d g line l = field_found d l g

    -- what the next gap asks
    pub next : {word : ℕ} {out : Record} → Stepped w at C (behind a x left place (seen out word)) → Starts w at
        → Lined (drop a w) × Ready x left place word out
    next d k = let o = onward d k in (o.lined, record { good = o.good })

  -- no row goes on with the field
  pub stop : {o : Record} → Stuck w at C → Starts w at → Leads C w at o 0
  stop d k line l = field_none d k l

-- A whole line: 0 is no place, and else the place is one less.
pub no_row : {version k at e : ℕ} {line : List ℕ} {out : Record} → e ≡ 0 → Finds (λ fs r. RowFields version k r fs) at line out e
    → RowFound version k at line out None
no_row n (found ps c z) = absurd (omega arith)
no_row n (None-found z f) = λ r w. f w.fields r w.parted w.row

pub whole_row : {version k at e : ℕ} {line : List ℕ} {out : Record} → e ≢ 0 → Finds (λ fs r. RowFields version k r fs) at line out e
    → RowFound version k at line out (Some (e - 1))
whole_row n (found {fs = fs} ps c z) = (record { fields = fs; parted = ps; row = c }, omega arith)
whole_row n (None-found z f) = absurd (n z)
