-- The chain of gaps and fields: what its functions promise each other. No public promise of the crate cites this file.
use Rattle.std.specs.Prelude.{ℕ, suc, ◌+◌, ◌≡◌, ◌≢◌, List, length, drop}
use Rattle.fields.specs.Parted.{Parted}
use Rattle.fields.specs.inner.Window.{LineBeforeCr}
use Rattle.record.specs.declared.Record.{Record}
use Rattle.row.specs.declared.Stage.{Stage}
use Rattle.row.specs.declared.Part.{Part}
use Rattle.row.specs.Row.{RowFields}
use Rattle.row.specs.inner.Stages.{Continues, Good}

-- The record so far, with this data.
abbrev pub seen : Record → ℕ → Record
seen out word = record out { «data» = word }

-- The state that a stage makes of it.
abbrev pub known : Stage → ℕ → ℕ → ℕ → Record → Part
known stage left place word out = record { stage = stage; left = left; place = place; r = seen out word }

-- It is a state that is reached.
pub record Ready (stage : Stage) (left place word : ℕ) (out : Record) : Type 0 where
  pub good : Good (known stage left place word out)

-- Reading the line at `at`, where C says which fields are which record, gives e: 0 if its fields are none, else one more than the place of its
-- CR, and then `out` is the record.
pub data Finds (C : List (List ℕ) → Record → Type 0) (at : ℕ) (line : List ℕ) (out : Record) (e : ℕ) : Type 0 where
  found : {fs : List (List ℕ)} → Parted fs line → C fs out → e ≡ suc (at + length line) → Finds C at line out e
  none : e ≡ 0 → ((fs : List (List ℕ)) (r : Record) → Parted fs line → C fs r → ⊥) → Finds C at line out e

-- Reading on at `at` of a window gives e, and `out` at the end.
abbrev pub Leads : (List (List ℕ) → Record → Type 0) → List ℕ → ℕ → Record → ℕ → Type 0
Leads C w at out e = (line : List ℕ) → LineBeforeCr line (drop at w) → Finds C at line out e

-- From the state p on.
abbrev pub Goes : Part → List ℕ → ℕ → Record → ℕ → Type 0
Goes p w at out e = Leads (Continues p) w at out e

-- From the start of row k of a version on.
abbrev pub GoesRow : ℕ → ℕ → List ℕ → ℕ → Record → ℕ → Type 0
GoesRow version k w at out e = Leads (λ fs r. RowFields version k r fs) w at out e

-- At the end of the line: one more than its place and this record, if no byte is left; else 0.
pub data Finished (left a : ℕ) (r out : Record) (e : ℕ) : Type 0 where
  all_read : left ≡ 0 → out ≡ r → e ≡ suc a → Finished left a r out e
  some_left : left ≢ 0 → e ≡ 0 → Finished left a r out e
