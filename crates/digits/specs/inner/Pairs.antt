-- What the table of digit pairs has.
use Rattle.std.specs.Prelude.{ℕ, ◌+◌, ◌*◌, ◌/◌, ◌%◌, ◌<◌, ◌≡◌, List, length, get_or}
use Rattle.digits.specs.declared.Letters.{Letters}
use Rattle.digits.specs.House.{glyph_of}

-- The two digits of each byte, one pair after the other.
pub record PairsOf (c : Letters) (t : List ℕ) : Type 0 where
  pub long : length t ≡ 512
  pub high : (b : ℕ) → b < 256 → get_or t (2 * b) 0 ≡ glyph_of c (b / 16)
  pub low : (b : ℕ) → b < 256 → get_or t (2 * b + 1) 0 ≡ glyph_of c (b % 16)
