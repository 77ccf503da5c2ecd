-- Numbers as digit strings: relations between a number and the bytes that spell it. In words: docs/FORMAT.md, section 1.
use Rattle.std.specs.Prelude.{ℕ, ◌+◌, ◌*◌, ◌^◌, ◌≤◌, ◌<◌, ◌≡◌, ◌≢◌, List, [], ◌∷◌, length, get_or}
use Prim.Native.Char.{code}

-- The byte x is the decimal digit d.
pub record DecimalDigit (x d : ℕ) : Type 0 where
  pub value : d < 10
  pub byte : x ≡ code "0" + d

-- The byte x is the letter for the digit d, ten to fifteen, where `ten` is the byte of the letter for ten.
pub record LetterDigit (ten x d : ℕ) : Type 0 where
  pub low : 10 ≤ d
  pub high : d < 16
  pub byte : x + 10 ≡ ten + d

-- A hexadecimal digit in one letter case.
pub data CasedDigit (ten x d : ℕ) : Type 0 where
  figure : DecimalDigit x d → CasedDigit ten x d
  letter : LetterDigit ten x d → CasedDigit ten x d

-- A hexadecimal digit in either letter case.
pub data HexDigit (x d : ℕ) : Type 0 where
  capital : CasedDigit (code "A") x d → HexDigit x d
  small : CasedDigit (code "a") x d → HexDigit x d

-- The bytes are the digits of a number in base b, by place value; D says which byte is which digit. One relation for digit strings of
-- every length.
pub data Digits (D : ℕ → ℕ → Type 0) (b : ℕ) : List ℕ → ℕ → Type 0 where
  none : Digits D b [] 0
  more : {x d n m : ℕ} {s : List ℕ} → D x d → Digits D b s n → m ≡ d * b ^ length s + n → Digits D b (x ∷ s) m

-- A decimal number without leading zeros (a lone 0 is fine), of any length.
pub record Decimal (n : ℕ) (s : List ℕ) : Type 0 where
  pub digits : Digits DecimalDigit 10 s n
  pub some : 0 < length s
  pub lead : 1 < length s → get_or s 0 0 ≢ code "0"

-- A decimal number of exactly w digits, zeros kept.
pub record Padded (w n : ℕ) (s : List ℕ) : Type 0 where
  pub digits : Digits DecimalDigit 10 s n
  pub width : length s ≡ w

-- A hexadecimal number of exactly w digits, each in either letter case.
pub record Hex (w n : ℕ) (s : List ℕ) : Type 0 where
  pub digits : Digits HexDigit 16 s n
  pub width : length s ≡ w

-- The same in one letter case.
pub record CasedHex (ten w n : ℕ) (s : List ℕ) : Type 0 where
  pub digits : Digits (CasedDigit ten) 16 s n
  pub width : length s ≡ w
