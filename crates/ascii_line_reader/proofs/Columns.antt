-- The parts of a line one by one: one value for its bytes.
use Prim.Native.Nat.{ℕ, zero, suc, ◌≤◌}
use mathlib.Core.Path.{◌≡◌, refl, ap, sym, ◌∙◌}
use mathlib.Core.List.{List}
use native.Mathlib.Omega.{arith}
use lib.ListN.{length, get_or}
use Rattle.digits.proofs.Theorems.{one_spelled, one_hex}
use Rattle.ascii_line.specs.Line.{message_type_text, direction_text}
use Rattle.ascii_line_reader.specs.inner.Columns.{TypePart, ChannelPart, DirectionPart, IdPart}

one_type : (v u : ℕ) → v ≤ 1 → u ≤ 1 → message_type_text v ≡ message_type_text u → v ≡ u
unfolding message_type_text
one_type zero zero h k e = refl
one_type zero (suc zero) h k e = absurd (omega (arith, ap length e))
one_type zero (suc (suc u)) h k e = absurd (omega arith)
one_type (suc zero) zero h k e = absurd (omega (arith, ap length e))
one_type (suc zero) (suc zero) h k e = refl
one_type (suc zero) (suc (suc u)) h k e = absurd (omega arith)
one_type (suc (suc v)) u h k e = absurd (omega arith)

pub type_one : {v u : ℕ} {f : List ℕ} → TypePart v f → TypePart u f → v ≡ u
type_one {v} {u} p q = one_type v u p.few q.few (sym p.bytes ∙ q.bytes)

pub no_type : (v : ℕ) → v ≤ 1 → (v ≡ 0 → ⊥) → (v ≡ 1 → ⊥) → ⊥
no_type zero h n m = n refl
no_type (suc zero) h n m = m refl
no_type (suc (suc v)) h n m = omega arith

pub channel_one : {v u : ℕ} {f : List ℕ} → ChannelPart v f → ChannelPart u f → v ≡ u
channel_one {v} {u} p q = one_spelled v u (cc (p.bytes, q.bytes))

one_direction : (v u : ℕ) → v ≤ 1 → u ≤ 1 → direction_text v ≡ direction_text u → v ≡ u
unfolding direction_text
one_direction zero zero h k e = refl
one_direction zero (suc zero) h k e = absurd (omega (arith, ap (λ (l : List ℕ). get_or l 0 0) e))
one_direction zero (suc (suc u)) h k e = absurd (omega arith)
one_direction (suc zero) zero h k e = absurd (omega (arith, ap (λ (l : List ℕ). get_or l 0 0) e))
one_direction (suc zero) (suc zero) h k e = refl
one_direction (suc zero) (suc (suc u)) h k e = absurd (omega arith)
one_direction (suc (suc v)) u h k e = absurd (omega arith)

pub direction_one : {v u : ℕ} {f : List ℕ} → DirectionPart v f → DirectionPart u f → v ≡ u
direction_one {v} {u} p q = one_direction v u p.few q.few (sym p.bytes ∙ q.bytes)

pub id_one : {x v u : ℕ} {f : List ℕ} → IdPart x v f → IdPart x u f → v ≡ u
id_one p q = one_hex p.digits q.digits
