-- The columns of a row, one by one: a relation between a value and the bytes of its field. In words: docs/FORMAT.md, section 6.
use Rattle.std.specs.Prelude.{ℕ, ◌+◌, ◌*◌, ◌-◌, ◌^◌, ◌≤◌, ◌≡◌, List, [], ◌∷◌, ◌++◌, length}
use Prim.Native.Char.{code}
use Rattle.base.specs.Limits.{offset_digits, offset_limit, last_bus}
use Rattle.base.specs.Text.{text, bracket, point}
use Rattle.digits.specs.Digits.{Decimal, Padded, Hex}
use Rattle.digits.specs.House.{figure_of}

-- The largest row number.
abbrev pub last_number : ℕ
last_number = 999999

-- Row number and `)`, with nothing between: 1 to 999,999, no leading zero.
pub record NumberField (k : ℕ) (f : List ℕ) : Type 0 where
  pub digits : List ℕ
  pub bytes : f ≡ digits ++ (bracket ∷ [])
  pub spelled : Decimal k digits
  pub low : 1 ≤ k
  pub high : k ≤ last_number

-- Offset in milliseconds, kept as microseconds: 1 to 12 digits, no leading zero unless it is a lone 0, a point, then exactly w digits; at most
-- the largest offset.
pub record OffsetField (w offset : ℕ) (f : List ℕ) : Type 0 where
  pub whole : List ℕ
  pub part : List ℕ
  pub bytes : f ≡ whole ++ (point ∷ part)
  pub ms : ℕ
  pub fraction : ℕ
  pub first : Decimal ms whole
  pub short : length whole ≤ offset_digits
  pub second : Padded w fraction part
  pub value : offset ≡ ms * 1000 + fraction * 10 ^ (3 - w)
  pub limit : offset ≤ offset_limit

-- Bus, 1 to 16, no leading zero.
pub record BusField (bus : ℕ) (f : List ℕ) : Type 0 where
  pub spelled : Decimal bus f
  pub low : 1 ≤ bus
  pub high : bus ≤ last_bus

-- `Rx`, `Tx`, `Warng` and `Error`, spelled exactly.
abbrev pub type_rx : List ℕ
type_rx = text "Rx"

abbrev pub type_tx : List ℕ
type_tx = text "Tx"

abbrev pub type_warng : List ℕ
type_warng = text "Warng"

abbrev pub type_error : List ℕ
type_error = text "Error"

-- The one field of a remote frame's data: `RTR`.
abbrev pub remote_text : List ℕ
remote_text = text "RTR"

-- The ID of a frame: four digits up to 07FF, or eight, the extended form, up to 1FFFFFFF.
pub data IdField (extended id : ℕ) (f : List ℕ) : Type 0 where
  standard : extended ≡ 0 → Hex 4 id f → id ≤ 0x7FF → IdField extended id f
  long : extended ≡ 1 → Hex 8 id f → id ≤ 0x1FFFFFFF → IdField extended id f

-- Length, one digit 0 to 8.
pub record LengthField (len : ℕ) (f : List ℕ) : Type 0 where
  pub small : len ≤ 8
  pub spelled : f ≡ figure_of len ∷ []

-- A capital letter A to Z: a warning's words have no other byte.
pub record Capital (b : ℕ) : Type 0 where
  pub low : code "A" ≤ b
  pub high : b ≤ code "Z"
