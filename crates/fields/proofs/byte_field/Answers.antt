-- `fields::byte_field` reads two hexadecimal digits, and what ends the field.
use Prim.Native.Nat.{ℕ, ◌+◌}
use mathlib.Core.Path.{refl}
use mathlib.Core.List.{List, [], ◌∷◌}
use native.Mathlib.Omega.{arith}
use lib.ListN.{get_or}
use Rattle.digits.specs.Digits.{HexDigit}
use Rattle.fields.specs.inner.Window.{Starts}
use Rattle.fields.proofs.Scans.{hex_solid}
use Rattle.fields.proofs.FixedFields.{StandsAt, first, then, here, ended, unended, digit_first, digit_then, two_digits}
use Rattle.fields.proofs.byte_field.Goals as goal

-- the byte that stands there, and a digit after it
two : {w : List ℕ} {at d : ℕ} → Starts w at → HexDigit (get_or w (at + 1) 0) d
    → StandsAt (get_or w at 0 ∷ get_or w (at + 1) 0 ∷ []) w at
two {d = d} s p = then (first s refl) (hex_solid _ (d, p)) refl

pub returns-in_err-digit : goal.returns-in_err-digit
returns-in_err-digit c =
    rw c.from_residual.ensures (λ f rest a v p. let d = digit_first c.requires a p in c.in_err-digit.ensures d.0 d.1)

pub returns-in_err-digit-2 : goal.returns-in_err-digit-2
returns-in_err-digit-2 c =
    rw c.from_residual-in_err-digit-2.ensures
    (λ f rest a v p. let d = digit_then (first c.requires refl) a p (omega arith) in c.in_err-digit-2.ensures d.0 d.1)

pub bounds-w-at-3 : goal.bounds-w-at-3
bounds-w-at-3 c = omega (arith, here (two c.requires c.in_ok-digit-2.ensures))

pub returns-then-not-ends : goal.returns-then-not-ends
returns-then-not-ends c =
    let x = c.ends in
    λ f rest a v p. unended (two c.requires c.in_ok-digit-2.ensures) x.result x.ensures c.if-not-ends.true a p.width

pub returns : goal.returns
returns c =
    let x = c.ends in
    record {
      field = _;
      there = ended (two c.requires c.in_ok-digit-2.ensures) (omega arith) x.result x.ensures c.if-not-ends.false;
      place = refl;
      has = two_digits (rw c.wide-high.ensures.0 c.in_ok-digit.ensures) (rw c.wide-low.ensures.0 c.in_ok-digit-2.ensures);
    }
