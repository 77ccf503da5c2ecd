-- Wrong answers of the writers of rows and lines: each is refuted over the house's text.
use Prim.Native.Nat.{ℕ, ◌^◌}
use mathlib.Core.Path.{◌≡◌}
use mathlib.Core.List.{[], ◌∷◌}
use native.Mathlib.Omega.{arith}
use lib.ListN.{length}
use Rattle.digits.specs.declared.Letters.TheVariants.{Capital}
use Rattle.digits.specs.House.{glyph_of, fixed, hex_text, byte_texts}
use Rattle.fields.specs.Columns.{type_rx}
use Rattle.record.specs.declared.Record.{Record}
use Rattle.row.specs.House.{bus_texts, type_text, id_text}
use Rattle.ascii_line.specs.Line as line

-- rows

-- version 1.1 has no bus
pub bus_in_11 : (bus : ℕ) → length (bus_texts 11 bus) ≡ 1 → ⊥
unfolding bus_texts
bus_in_11 bus e = omega arith

pub sent_as_received : type_text 1 ≡ type_rx → ⊥
unfolding type_text
sent_as_received e = let z : ◌≡◌ {A = ℕ} 84 82 = cc in omega arith

-- an extended ID has eight digits, whatever its value
abbrev extended_one : Record
extended_one = record { offset = 0; bus = 0; kind = 0; extended = 1; id = 1; len = 0; «data» = 0 }

pub short_extended_id : length (id_text extended_one) ≡ 4 → ⊥
unfolding id_text fixed
short_extended_id e = omega arith

-- the last byte is written too, and its second digit is its own
pub last_byte_dropped : (sum : ℕ) → length (byte_texts Capital (256 ^ 7) 2 sum) ≡ 1 → ⊥
unfolding byte_texts
last_byte_dropped sum e = omega arith

pub first_digit_again : hex_text Capital 2 0x12 ≡ 49 ∷ 49 ∷ [] → ⊥
unfolding fixed glyph_of
first_digit_again e = let z : ◌≡◌ {A = ℕ} 50 49 = cc in omega arith

-- lines of the export

pub direction_of_another : line.direction_text 1 ≡ type_rx → ⊥
unfolding line.direction_text
direction_of_another e = let z : ◌≡◌ {A = ℕ} 84 82 = cc in omega arith

-- a standard ID has three digits there, in small letters
abbrev standard_ten : Record
standard_ten = record { offset = 0; bus = 0; kind = 0; extended = 0; id = 10; len = 0; «data» = 0 }

pub four_digits_of_a_standard_id : length (line.id_digits standard_ten) ≡ 4 → ⊥
unfolding line.id_digits fixed
four_digits_of_a_standard_id e = omega arith

pub capital_letter : line.id_digits standard_ten ≡ 48 ∷ 48 ∷ 65 ∷ [] → ⊥
unfolding line.id_digits fixed glyph_of
capital_letter e = let z : ◌≡◌ {A = ℕ} 97 65 = cc in omega arith
