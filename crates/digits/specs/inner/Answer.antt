-- What the readers of digit strings answer.
use Rattle.std.specs.Prelude.{ℕ, ◌≤◌, ◌≡◌, List, length}
use Rattle.digits.specs.Digits.{HexDigit, Decimal, Padded, Hex}

-- The digit that the byte x is, or 255 if it is none.
pub data DigitOr255 (x r : ℕ) : Type 0 where
  digit : HexDigit x r → DigitOr255 x r
  none : ((d : ℕ) → HexDigit x d → ⊥) → r ≡ 255 → DigitOr255 x r

-- A number of at most `most` digits: 19 decimal digits or 16 hexadecimal ones always fit 64 bits.
pub record Short (most : ℕ) (Spells : ℕ → List ℕ → Type 0) (s : List ℕ) (n : ℕ) : Type 0 where
  pub spelled : Spells n s
  pub short : length s ≤ most

-- What each reader takes the bytes s to be.
abbrev pub ReadDecimal : List ℕ → ℕ → Type 0
ReadDecimal = Short 19 Decimal

abbrev pub ReadPadded : List ℕ → ℕ → Type 0
ReadPadded s = Short 19 (Padded (length s)) s

abbrev pub ReadHex : List ℕ → ℕ → Type 0
ReadHex s = Short 16 (Hex (length s)) s
