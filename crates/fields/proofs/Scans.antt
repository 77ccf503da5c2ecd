-- What a scan of digits found is what any field has there.
use Prim.Native.Nat.{ℕ, ◌+◌, ◌≤◌, ◌<◌}
use mathlib.Core.Path.{◌≡◌, sym, ◌∙◌}
use mathlib.Core.List.{List, ◌++◌}
use native.Mathlib.Omega.{arith}
use native.Mathlib.Decide.{dec_lt}
use lib.ListN.{length, drop}
use lib.Seq.{slice, drop-cons, length-slice}
use Rattle.digits.specs.Digits.{DecimalDigit, HexDigit, Digits}
use Rattle.digits.specs.Digits.{none as no-digits, more as digits_more}
use Rattle.digits.proofs.Strings.{cases}
use Rattle.fields.specs.declared.Scan.{Scan}
use Rattle.fields.specs.Runs.{All, empty, more, Stops, halt}
use Rattle.fields.specs.inner.Window.{Solid, Scanned}
use Rattle.fields.proofs.Runs.{cut, longest}
use Rattle.fields.proofs.Window.{inside, slice_drop}

-- The byte is some digit.
abbrev pub Some : (ℕ → ℕ → Type 0) → ℕ → Type 0
Some D x = (d : ℕ) × D x d

pub digits_all : {D : ℕ → ℕ → Type 0} {b n : ℕ} {s : List ℕ} → Digits D b s n → All (Some D) s
digits_all no-digits = empty
digits_all (digits_more {d = d} p r e) = more (d, p) (digits_all r)

pub decimal_solid : (x : ℕ) → Some DecimalDigit x → Solid x
decimal_solid x (d, p) = record { blank = λ e. omega (arith, p.byte, p.value); end = λ e. omega (arith, p.byte, p.value) }

pub hex_solid : (x : ℕ) → Some HexDigit x → Solid x
hex_solid x (d, p) = record { blank = λ e. cases (λ q. omega arith) (λ q. omega arith) (λ q. omega arith) p; end = λ e. cases (λ q. omega arith) (λ q. omega arith) (λ q. omega arith) p }

module _ {D : ℕ → ℕ → Type 0} {b : ℕ} (most : ℕ) (w : List ℕ) (at : ℕ) (s : Scan) (c : Scanned D b most w at s) where
  stops : s.end < at + most → Stops (Some D) (drop s.end w)
  stops h = rw (drop-cons w s.end 0 (inside w s.end c.lined)) (halt (λ (d, p). c.stop h d p))

  split : drop at w ≡ slice at s.end w ++ drop s.end w
  split = let l = inside w s.end c.lined in slice_drop at s.end w c.from (omega arith)

  -- digits that stand there, and that something else follows, are those that the scan found, if they are no more than it looks for
  pub scan_one : {g : List ℕ} (u : List ℕ) → All (Some D) g → Stops (Some D) u → drop at w ≡ g ++ u → length g ≤ most
      → (g ≡ slice at s.end w) × (u ≡ drop s.end w)
  scan_one {g} u a k e h = go (dec_lt s.end (at + most))
    where
      go : Dec (s.end < at + most) → (g ≡ slice at s.end w) × (u ≡ drop s.end w)
      go (yes l) = cut a (digits_all c.digits) k (stops l) (sym e ∙ split)
      go (no n) =
          let i = inside w s.end c.lined in
          let f = c.from in
          let q = longest (drop s.end w) (digits_all c.digits) a k (omega (arith, length-slice at s.end w (omega arith))) (sym split ∙ e) in
          (sym q.0, sym q.1)
