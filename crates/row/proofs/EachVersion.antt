-- What holds of versions, and what the tests of the code show of one.
use Prim.Native.Nat.{ℕ, ◌%◌, ◌≤◌}
use mathlib.Core.Path.{◌≡◌, refl}
use mathlib.Core.Logic.{◌≢◌, ◌⊎◌, inl, inr, ⊎_elim}
use mathlib.Core.Bool.{Bool, true, false, cond}
use native.Mathlib.Omega.{arith}
use lib.Dec.{eqb}
use Rattle.base.specs.Limits.{last_bus}
use Rattle.record.specs.declared.Record.{Record}
use Rattle.row.specs.Versions.{Version, is11, is12, fraction_digits, Carries, v11, v12}

pub version_11 : {v : ℕ} → v ≡ 11 → Version v
version_11 e = rw e is11

pub version_12 : {v : ℕ} → v ≡ 12 → Version v
version_12 e = rw e is12

pub other_version : {v : ℕ} → v ≢ 11 → Version v → v ≡ 12
other_version n is11 = absurd (n refl)
other_version n is12 = refl

-- A version is two figures.
pub version_low : {v : ℕ} → Version v → 10 ≤ v
version_low is11 = omega arith
version_low is12 = omega arith

pub version_high : {v : ℕ} → Version v → v ≤ 99
version_high is11 = omega arith
version_high is12 = omega arith

-- One digit behind the point, or three.
pub digits_known : (v : ℕ) → (fraction_digits v ≡ 1) ⊎ (fraction_digits v ≡ 3)
digits_known v = go (eqb v 11)
  where
    go : (b : Bool) → (◌≡◌ {A = ℕ} (cond b 1 3) 1) ⊎ (◌≡◌ {A = ℕ} (cond b 1 3) 3)
    go true = inl refl
    go false = inr refl

pub digits_some : (v : ℕ) → 1 ≤ fraction_digits v
digits_some v = ⊎_elim (λ e. omega arith) (λ e. omega arith) (digits_known v)

pub digits_few : (v : ℕ) → fraction_digits v ≤ 3
digits_few v = ⊎_elim (λ e. omega arith) (λ e. omega arith) (digits_known v)

-- They tell the version.
pub digits_tell : {v u : ℕ} → Version v → Version u → fraction_digits v ≡ fraction_digits u → v ≡ u
digits_tell is11 is11 e = refl
digits_tell is11 is12 e = absurd (omega arith)
digits_tell is12 is11 e = absurd (omega arith)
digits_tell is12 is12 e = refl

-- What a version can carry, case by case.

pub carried_version : {r : Record} {v : ℕ} → Carries r v → Version v
carried_version (v11 a b) = is11
carried_version (v12 a b) = is12

pub carried_11 : {r : Record} {v : ℕ} → v ≡ 11 → Carries r v → (r.bus ≡ 0) × (r.offset % 100 ≡ 0)
carried_11 e (v11 a b) = (a, b)
carried_11 e (v12 a b) = absurd (omega arith)

pub carries_11 : {r : Record} {v : ℕ} → v ≡ 11 → r.bus ≡ 0 → r.offset % 100 ≡ 0 → Carries r v
carries_11 e a b = rw e (v11 a b)

pub carried_12 : {r : Record} {v : ℕ} → (v ≡ 11 → ⊥) → Carries r v → (v ≡ 12) × (1 ≤ r.bus) × (r.bus ≤ last_bus)
carried_12 f (v11 a b) = absurd (omega arith)
carried_12 f (v12 a b) = (omega arith, a, b)

pub carries_12 : {r : Record} {v : ℕ} → v ≡ 12 → 1 ≤ r.bus → r.bus ≤ last_bus → Carries r v
carries_12 e a b = rw e (v12 a b)
