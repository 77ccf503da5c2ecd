-- The two scans of digits, in every digit system: what their loops keep.
use Prim.Native.Nat.{ℕ, ◌+◌, ◌*◌, ◌^◌, ◌≤◌, ◌<◌}
use mathlib.Core.List.{List}
use native.Mathlib.Numerals.{add-one}
use native.Mathlib.Omega.{arith}
use lib.ListN.{get_or, drop}
use lib.Seq.{slice, slice_empty, length-slice}
use Rattle.base.proofs.Lists.{slice_snoc}
use Rattle.digits.specs.Digits.{DecimalDigit, Digits}
use Rattle.digits.specs.Digits.{none as no-digits}
use Rattle.digits.proofs.Strings.{System, snoc, within}
use Rattle.fields.specs.inner.Window.{Solid, Lined}
use Rattle.fields.proofs.Scans.{Some}
use Rattle.fields.proofs.Window.{inside, next_lined}

-- The bytes from `at` up to i are digits of the number n, and the line goes on.
pub record Passed (D : ℕ → ℕ → Type 0) (b most : ℕ) (w : List ℕ) (at n i : ℕ) : Type 0 where
  pub from : at ≤ i
  pub few : i ≤ at + most
  pub digits : Digits D b (slice at i w) n
  pub lined : Lined (drop i w)

module _ {D : ℕ → ℕ → Type 0} {b : ℕ} {most : ℕ} {w : List ℕ} {at : ℕ} where
  pub none_passed : Lined (drop at w) → Passed D b most w at 0 at
  none_passed l = record { from = omega arith; few = omega arith; digits = rw slice_empty no-digits; lined = l }

  -- one digit more is passed
  pub one_passed : {n d i : ℕ} → ((x : ℕ) → Some D x → Solid x) → Passed D b most w at n i → i < at + most → D (get_or w i 0) d
      → Passed D b most w at (n * b + d) (i + 1)
  one_passed {n} {d} {i} s p h q =
      let f = p.from in
      record {
        from = omega arith;
        few = omega arith;
        digits = rw (add-one, slice_snoc at i w f (inside w i p.lined)) (snoc p.digits q);
        lined = next_lined w i p.lined (s (get_or w i 0) (d, q)).end;
      }

  -- the number that is passed leaves room for one digit more
  pub room : System D b → {n i : ℕ} (k : ℕ) → 0 < b → Passed D b most w at n i → i ≤ at + k → n < b ^ k
  room y {n} {i} k z p h =
      let l = inside w i p.lined in
      within y k z p.digits (omega (arith, length-slice at i w (omega arith)))

-- A byte below `0` or above `9` is no decimal digit.
pub below_zero : {x : ℕ} → x < 48 → (d : ℕ) → DecimalDigit x d → ⊥
below_zero h d p = omega arith

pub above_nine : {x : ℕ} → 57 < x → (d : ℕ) → DecimalDigit x d → ⊥
above_nine h d p = omega arith
