-- Wrong answers of the readers and writers of digits, and of the test of a record: each is refuted over the relation or the text that the function
-- promises.
use Rattle.std.specs.Prelude.{None}
use Prim.Native.Nat.{ℕ, suc, ◌%◌, ◌^◌, ◌-◌, ◌<◌}
use mathlib.Core.Path.{◌≡◌, refl, ap}
use mathlib.Core.Logic.{◌≢◌, inl}
use mathlib.Core.List.{List, [], ◌∷◌}
use native.Mathlib.Omega.{arith}
use lib.ListN.{length, get_or}
use Rattle.base.specs.inner.Answers.{Answers}
use Rattle.digits.specs.inner.Answer.{digit}
use Rattle.digits.specs.inner.HexTable.{HexTable}
use Rattle.digits.specs.inner.Pairs.{PairsOf}
use Rattle.digits.specs.Digits.{DecimalDigit, Digits, HexDigit, capital, small, figure, letter, none, more, Decimal, Padded}
use Rattle.digits.specs.declared.Letters.{Letters}
use Rattle.digits.specs.declared.Letters.TheVariants.{Capital}
use Rattle.digits.proofs.HexTables.{hex_of}
use Rattle.digits.proofs.Theorems.{one_digit, entry_of}
use Rattle.digits.specs.House.{glyph_of, fixed, spell, padded_text, hex_text, decimal_text}
use Rattle.record.specs.declared.Record.{Record}
use Rattle.record.specs.Record.{record_of, WellFormed, ErrorId, one, two, four, eight, Position, low, middle, high}

-- digits

-- no byte between `9` and `A` is a digit
pub between_ranges : {x d : ℕ} → 57 < x → x < 65 → HexDigit x d → ⊥
between_ranges a b (capital (figure p)) = omega (arith, p.value, p.byte)
between_ranges a b (capital (letter p)) = omega (arith, p.low, p.byte)
between_ranges a b (small (figure p)) = omega (arith, p.value, p.byte)
between_ranges a b (small (letter p)) = omega (arith, p.low, p.byte)

-- `a` is a digit, and `A` is ten and not eleven
pub small_refused : Answers (HexDigit 97) None → ⊥
small_refused f = f 10 (small (letter (record { low = omega arith; high = omega arith; byte = refl })))

pub letter_one_more : HexDigit 65 11 → ⊥
letter_one_more (capital (figure p)) = omega (arith, p.value)
letter_one_more (capital (letter p)) = omega (arith, p.byte)
letter_one_more (small (figure p)) = omega (arith, p.value)
letter_one_more (small (letter p)) = omega (arith, p.byte)

-- the table of hexadecimal digits: an entry off by one, whichever it is; `@` or `G` as a digit; 255 for `f`; one entry short
pub entry_one_more : {t : List ℕ} {b d : ℕ} → HexTable t → b < 256 → HexDigit b d → get_or t b 0 ≡ suc d → ⊥
entry_one_more {b = b} p l q e = omega (arith, one_digit (p.entry b l) (digit q))

pub at_sign_taken : {t : List ℕ} → HexTable t → get_or t 64 0 ≢ 255 → ⊥
unfolding hex_of
at_sign_taken p n = n (entry_of p 64 (omega arith))

pub g_taken : {t : List ℕ} → HexTable t → get_or t 71 0 ≢ 255 → ⊥
unfolding hex_of
g_taken p n = n (entry_of p 71 (omega arith))

pub f_refused : {t : List ℕ} → HexTable t → get_or t 102 0 ≡ 255 → ⊥
unfolding hex_of
f_refused p e = omega (arith, entry_of p 102 (omega arith))

pub entry_short : {t : List ℕ} → HexTable t → length t ≡ 255 → ⊥
entry_short p e = omega (arith, p.long)

-- no decimal number has a leading zero
pub leading_zero : {n x : ℕ} {s : List ℕ} → Decimal n (48 ∷ x ∷ s) → ⊥
leading_zero p = p.lead (omega arith) refl

-- `10` is ten, and not nine
pub ten_as_nine : Padded 2 9 (49 ∷ 48 ∷ []) → ⊥
ten_as_nine p = go p.digits
  where
    go : Digits DecimalDigit 10 (49 ∷ 48 ∷ []) 9 → ⊥
    go (more a (more b none e) h) = omega (arith, a.byte, b.byte)

-- ten has two digits, and they are not those of nine
pub one_digit_off : length (decimal_text 10) ≡ 1 → ⊥
unfolding decimal_text spell
one_digit_off e = omega arith

pub digits_of_another : decimal_text 10 ≡ decimal_text 9 → ⊥
unfolding decimal_text spell
digits_of_another e = let z = ap length e in omega arith

-- no place is skipped, and capitals are asked for and written
pub place_skipped : padded_text 2 12 ≡ 48 ∷ 50 ∷ [] → ⊥
unfolding fixed
place_skipped e = let z : ◌≡◌ {A = ℕ} 49 48 = cc in omega arith

pub small_for_capital : hex_text Capital 1 10 ≡ 97 ∷ [] → ⊥
unfolding fixed glyph_of
small_for_capital e = let z : ◌≡◌ {A = ℕ} 65 97 = cc in omega arith

-- the first digit of byte 1 is `0`, and not `1`
pub pair_swapped : {c : Letters} {t : List ℕ} → PairsOf c t → get_or t 2 0 ≡ 49 → ⊥
unfolding glyph_of
pair_swapped p e = omega (arith, p.high 1 (omega arith))

-- record

-- each field is the one of its place
pub kind_for_bus : (record_of (1 ∷ 2 ∷ 3 ∷ 4 ∷ 5 ∷ 6 ∷ 7 ∷ [])).bus ≡ 3 → ⊥
kind_for_bus e = omega arith

-- a remote record has no data, and no byte stands past the length
pub remote_data : {r : Record} → WellFormed r → r.kind ≡ 2 → r.«data» ≢ 0 → ⊥
remote_data f e n = n (f.remote (inl e))

pub past_the_length : {r : Record} → WellFormed r → r.len ≡ 7 → r.«data» ≡ 1 → ⊥
past_the_length {r} f e d =
    let h : r.«data» % 256 ^ (8 - 7) ≡ 0 = rw e at f.past in
    omega arith

pub error_id_5 : ErrorId 5 → ⊥
error_id_5 (one e) = omega arith
error_id_5 (two e) = omega arith
error_id_5 (four e) = omega arith
error_id_5 (eight e) = omega arith

pub position_16 : Position 16 → ⊥
position_16 (low a b) = omega arith
position_16 (middle a b) = omega arith
position_16 (high a b) = omega arith

pub position_20 : Position 20 → ⊥
position_20 (low a b) = omega arith
position_20 (middle a b) = omega arith
position_20 (high a b) = omega arith
