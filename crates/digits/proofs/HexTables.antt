-- The table of hexadecimal digits: its rule is tested once over all entries, and carried to each.
use Prim.Native.Nat.{ℕ, ◌-◌, ◌≤◌, ◌<◌}
use Rattle.std.specs.Prelude.{◌≢◌}
use mathlib.Core.Path.{◌≡◌, refl}
use mathlib.Core.Logic.{⊎_elim}
use mathlib.Core.Bool.{true, false}
use mathlib.Core.List.{List}
use native.Mathlib.Omega.{arith}
use borrow.Author.Tests.{lt-ltb, le-ltb}
use lib.Dec.{T, ltb}
use lib.ListN.{get_or}
use Rattle.base.proofs.Numbers.{below_or_not}
use Rattle.base.proofs.Tables.{row, row_length_lem, flat}
use Rattle.digits.specs.declared.hex.TheConstants.{HEX_DIGITS}
use Rattle.digits.specs.Digits.{HexDigit, capital, small, figure, letter}
use Rattle.digits.specs.inner.Answer.{DigitOr255, digit, none}
use Rattle.digits.specs.inner.HexTable.{HexTable}
use Rattle.digits.proofs.Strings.{cases, hex}

-- the first of two below n, the second from n on
abbrev parted : ℕ → ℕ → ℕ → ℕ → ℕ
parted n a b x = elim (ltb x n) [ true ↦ a | false ↦ b ]

part : (n a b x : ℕ) → (x < n → DigitOr255 x a) → (n ≤ x → DigitOr255 x b) → DigitOr255 x (parted n a b x)
part n a b x p q = ⊎_elim (λ l. rw (parted, lt-ltb x n l) (p l)) (λ l. rw (parted, le-ltb x n l) (q l)) (below_or_not x n)

-- The digit of a byte by the bounds of figures, capital letters and small letters.
unfoldable pub hex_of : ℕ → ℕ
hex_of x = parted 48 255 (parted 58 (x - 48) (parted 65 255 (parted 71 (x - 55) (parted 97 255 (parted 103 (x - 87) 255 x) x) x) x) x) x

pub hex_of_lem : (x : ℕ) → DigitOr255 x (hex_of x)
unfolding hex_of
hex_of_lem x =
    part 48 _ _ x (λ h. none (λ d. cases (λ p. omega arith) (λ p. omega arith) (λ p. omega arith)) refl)
    (λ l. part 58 _ _ x (λ h. digit (capital (figure (record { value = omega arith; byte = omega arith }))))
    (λ l. part 65 _ _ x (λ h. none (λ d. cases (λ p. omega arith) (λ p. omega arith) (λ p. omega arith)) refl)
    (λ l. part 71 _ _ x (λ h. digit (capital (letter (record { low = omega arith; high = omega arith; byte = omega arith }))))
    (λ l. part 97 _ _ x (λ h. none (λ d. cases (λ p. omega arith) (λ p. omega arith) (λ p. omega arith)) refl)
    (λ l. part 103 _ _ x (λ h. digit (small (letter (record { low = omega arith; high = omega arith; byte = omega arith }))))
    (λ l. none (λ d. cases (λ p. omega arith) (λ p. omega arith) (λ p. omega arith)) refl))))))

-- A list that passes the test is the table.
pub hex_table_lem : (t : List ℕ) → T (row hex_of 256 t) → HexTable t
hex_table_lem t h = record { long = row_length_lem hex_of 256 t h; entry = λ b l. rw (flat hex_of 256 t h b l) (hex_of_lem b) }

-- So is the constant, whose entries are computed here.
pub hex_table : HexTable HEX_DIGITS
unfolding hex_of
hex_table = hex_table_lem HEX_DIGITS tt

-- A table that is the constant has it too, byte by byte.
pub entry : {t : List ℕ} {b : ℕ} → t ≡ HEX_DIGITS → b < 256 → DigitOr255 b (get_or t b 0)
entry {b = b} e h = rw e (hex_table.entry b h)

-- What an entry says of its byte.
pub is_digit : {x r : ℕ} → DigitOr255 x r → r ≢ 255 → HexDigit x r
is_digit (digit p) h = p
is_digit (none f e) h = absurd (h e)

pub no_digit : {x r : ℕ} → DigitOr255 x r → r ≡ 255 → (d : ℕ) → HexDigit x d → ⊥
no_digit (digit p) h d q = let s = hex.small p in omega arith
no_digit (none f e) h d q = f d q
