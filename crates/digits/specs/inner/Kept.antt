-- Digits that are kept from one number to the next.
use Rattle.std.specs.Prelude.{ℕ, ◌≤◌, ◌≡◌, List, take}
use Rattle.digits.specs.House.{decimal_text}

-- The bytes start with so many digits, those of n.
pub record KeepsDigits (n digits : ℕ) (kept : List ℕ) : Type 0 where
  pub text : take digits kept ≡ decimal_text n
  pub few : digits ≤ 20
