-- The number of the row that a line may be: the one that is asked for, or the one that stands first.
use Prim.Native.Nat.{ℕ}
use mathlib.Core.Path.{◌≡◌, refl, sym}
use mathlib.Core.Logic.{◌≢◌}
use mathlib.Core.List.{List, [], ◌∷◌}
use native.Mathlib.Decide.{ℕ_discrete}
use native.Mathlib.Omega.{arith}
use lib.ListN.{drop}
use Rattle.std.specs.Prelude.{None}
use Rattle.fields.specs.declared.Scan.{Scan}
use Rattle.fields.specs.Columns.{NumberField}
use Rattle.fields.specs.Parted.{Parted}
use Rattle.fields.specs.inner.Window.{LineBeforeCr, FieldAfter, EndAfter, FieldAt, Takes, Taken}
use Rattle.fields.proofs.Columns.{number_one}
use Rattle.fields.proofs.Parts.{only_none}
use Rattle.fields.proofs.Window.{field_one}
use Rattle.record.specs.declared.Record.{Record}
use Rattle.record.specs.Record.{record_of}
use Rattle.row.specs.Row.{RowFields, Expected, this, any, Row}
use Rattle.row.specs.inner.Stages.{Stuck}
use Rattle.row_reader.specs.inner.Answer.{NumberOf}
use Rattle.row_reader.specs.inner.Chain.{Finds, found, Leads}
use Rattle.row_reader.specs.inner.Chain.{none as None-found}
use Rattle.row_reader.proofs.Chain.{gap_on, gap_end, stop}

-- A row number other than k stands first. That of a line none does so is told as the reader tells it of rows, whatever the record.
abbrev pub Another : ℕ → List (List ℕ) → Record → Type 0
Another k fs r = (f : List ℕ) × (gs : List (List ℕ)) × (j : ℕ) × (fs ≡ f ∷ gs) × NumberField j f × (j ≢ k)

abbrev nobody : Record
nobody = record_of []

-- At the field whose number was read,
another_stuck : {w : List ℕ} {at : ℕ} {s : Scan} → Taken NumberField w at s → Stuck w at (Another s.value)
another_stuck {w} {at} t = record { none = λ g rest h fs r (f, gs, j, e, n, d). d (number_one (same h e n) t.has) }
  where
    same : {g rest f : List ℕ} {fs gs : List (List ℕ)} {j : ℕ} → FieldAt g rest (drop at w) → g ∷ fs ≡ f ∷ gs → NumberField j f
        → NumberField j t.field
    same {g} {f = f} h e n =
        let q : f ≡ g = cc in
        rw (field_one h t.there).0 at (rw q at n)

-- at one that is no number,
none_stuck : {w : List ℕ} {at k : ℕ} → Takes NumberField w at None → Stuck w at (Another k)
none_stuck {w} {at} u = record { none = λ g rest h fs r (f, gs, j, e, n, d). none h e n }
  where
    none : {g rest f : List ℕ} {fs gs : List (List ℕ)} {j : ℕ} → FieldAt g rest (drop at w) → g ∷ fs ≡ f ∷ gs → NumberField j f → ⊥
    none {g} {rest} {f} {j = j} h e n =
        let q : f ≡ g = cc in
        u g rest h j (rw q at n)

-- and where the line ends behind the gap.
another_none : {w : List ℕ} {at a k : ℕ} → EndAfter w at a → Leads (Another k) w at nobody 0
another_none d = gap_end d (None-found refl (λ fs r ps (f, gs, j, q, n, u). nothing (only_none ps) q))
  where
    nothing : {f : List ℕ} {fs gs : List (List ℕ)} → fs ≡ [] → fs ≡ f ∷ gs → ⊥
    nothing e q = let z : ◌≡◌ {A = ℕ} 0 1 = cc in omega arith

-- So k is the number, where any is expected;
module _ (w : List ℕ) (at : ℕ) {e k : ℕ} (z : e ≡ 0) (g : Leads (Another k) w at nobody 0) (line : List ℕ) (l : LineBeforeCr line (drop at w)) where
  none_else : {f : List ℕ} {fs : List (List ℕ)} {j : ℕ} → Parted (f ∷ fs) line → NumberField j f → j ≢ k → Finds (Another k) at line nobody 0 → ⊥
  none_else ps n d (found q c y) = omega arith
  none_else ps n d (None-found y h) = h _ nobody ps (_, _, _, refl, n, d)

  only_one : {f : List ℕ} {fs : List (List ℕ)} {j : ℕ} → Parted (f ∷ fs) line → NumberField j f → Dec (j ≡ k) → j ≡ k
  only_one ps n (yes q) = q
  only_one ps n (no d) = absurd (none_else ps n d (g line l))

  stands_first : NumberOf e line k
  stands_first = record { expected = any z; only = λ f fs j ps n x. only_one ps n (ℕ_discrete j k) }

module _ {w : List ℕ} {at a e : ℕ} (z : e ≡ 0) where
  module _ (k : FieldAfter w at a) where
    pub number_there : {s : Scan} → Taken NumberField w a s → (line : List ℕ) → LineBeforeCr line (drop at w) → NumberOf e line s.value
    number_there t = stands_first w at z (gap_on k.skipped (stop (another_stuck t) k.starts))

    pub no_number_there : {n : ℕ} → Takes NumberField w a None → (line : List ℕ) → LineBeforeCr line (drop at w) → NumberOf e line n
    no_number_there u = stands_first w at z (gap_on k.skipped (stop (none_stuck u) k.starts))

  pub no_field_there : {n : ℕ} → EndAfter w at a → (line : List ℕ) → LineBeforeCr line (drop at w) → NumberOf e line n
  no_field_there k = stands_first w at z (another_none k)

-- and else it is the one that is asked for.
pub number_asked : {e : ℕ} → e ≢ 0 → (line : List ℕ) → NumberOf e line e
number_asked {e} n line = record { expected = this refl; only = λ f fs j ps m x. asked x }
  where
    asked : {j : ℕ} → Expected e j → j ≡ e
    asked (this q) = sym q
    asked (any z) = absurd (n z)

-- Whatever row the line is that is expected has that number.
pub number_of : {v e j k : ℕ} {r : Record} {line : List ℕ} → NumberOf e line k → Row v j r line → Expected e j → j ≡ k
number_of {v} {e} {j} {k} {r} {line} n w x = go w.parted w.row
  where
    go : {fs : List (List ℕ)} → Parted fs line → RowFields v j r fs → j ≡ k
    go ps (RowFields.number m o) = n.only _ _ j ps m x
