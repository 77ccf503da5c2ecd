-- What the table of hexadecimal digits has.
use Rattle.std.specs.Prelude.{ℕ, ◌<◌, ◌≡◌, List, length, get_or}
use Rattle.digits.specs.inner.Answer.{DigitOr255}

-- One entry for each byte value: the digit that the byte is, or 255.
pub record HexTable (t : List ℕ) : Type 0 where
  pub long : length t ≡ 256
  pub entry : (b : ℕ) → b < 256 → DigitOr255 b (get_or t b 0)
