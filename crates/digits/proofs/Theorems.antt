-- What holds of digit strings, for those who cite them: one number, bounded by its width; one spelling; one answer.
use Prim.Native.Nat.{ℕ, suc, ◌^◌, ◌≤◌, ◌<◌}
use mathlib.Core.Path.{◌≡◌, sym, ◌∙◌}
use mathlib.Core.List.{List}
use native.Mathlib.Omega.{arith}
use lib.ListN.{length, get_or}
use Rattle.std.specs.Prelude.{Option}
use Rattle.base.specs.inner.Answers.{Answers}
use Rattle.base.proofs.Answers.{one_answer}
use Rattle.base.proofs.Lists.{same_entries}
use Rattle.digits.specs.declared.Letters.{Letters}
use Rattle.digits.specs.declared.Letters.TheVariants.{Capital, Small}
use Rattle.digits.specs.inner.Answer.{DigitOr255, digit, none, ReadDecimal, ReadPadded, ReadHex}
use Rattle.digits.specs.inner.HexTable.{HexTable}
use Rattle.digits.specs.Digits.{CasedDigit, HexDigit, capital, small, Digits, Decimal, Padded, Hex, CasedHex}
use Rattle.digits.specs.Digits.{none as empty, more}
use Rattle.digits.specs.House.{ten_of, hex_text, padded_text, decimal_text}
use Rattle.digits.proofs.House.{few, padded_spells, padded_only, cased_spells, cased_only, decimal_spells, decimal_only}
use Rattle.digits.proofs.HexTables.{hex_of, hex_of_lem}
use Rattle.digits.proofs.Strings.{unique, below, decimal, hex}

-- The number is the only one for its bytes.

pub one_decimal : {n m : ℕ} {s : List ℕ} → Decimal n s → Decimal m s → n ≡ m
one_decimal p q = unique decimal p.digits q.digits

-- So is it for its house spelling.
pub one_spelled : (n m : ℕ) → decimal_text n ≡ decimal_text m → n ≡ m
one_spelled n m e = one_decimal (rw e at (decimal_spells n)) (decimal_spells m)

pub one_padded : {v w n m : ℕ} {s : List ℕ} → Padded v n s → Padded w m s → n ≡ m
one_padded p q = unique decimal p.digits q.digits

pub one_hex : {v w n m : ℕ} {s : List ℕ} → Hex v n s → Hex w m s → n ≡ m
one_hex p q = unique hex p.digits q.digits

-- The width bounds the number: one fact for every length.

pub decimal_below : {n : ℕ} {s : List ℕ} → Decimal n s → n < 10 ^ length s
decimal_below p = below decimal p.digits

pub padded_below : {w n : ℕ} {s : List ℕ} → Padded w n s → n < 10 ^ w
padded_below p = rw (← p.width) (below decimal p.digits)

pub hex_below : {w n : ℕ} {s : List ℕ} → Hex w n s → n < 16 ^ w
hex_below p = rw (← p.width) (below hex p.digits)

-- And, without leading zeros, the number bounds the width.

pub decimal_few : {n : ℕ} {s : List ℕ} (w : ℕ) → Decimal n s → n < 10 ^ suc w → length s ≤ suc w
decimal_few {n} w p h = rw (decimal_only p (decimal_spells n)) (few w n h)

-- What is written is spelled by the relation, and is the only house spelling of its number.

cased_digits : (c : Letters) {n : ℕ} {s : List ℕ} → Digits (CasedDigit (ten_of c)) 16 s n → Digits HexDigit 16 s n
cased_digits c empty = empty
cased_digits Capital (more p r e) = more (capital p) (cased_digits Capital r) e
cased_digits Small (more p r e) = more (small p) (cased_digits Small r) e

pub cased_hex : (c : Letters) {w n : ℕ} {s : List ℕ} → CasedHex (ten_of c) w n s → Hex w n s
cased_hex c p = record { digits = cased_digits c p.digits; width = p.width }

pub hex_spells : (c : Letters) (w n : ℕ) → n < 16 ^ w → Hex w n (hex_text c w n)
hex_spells c w n h = cased_hex c (cased_spells c w n h)

pub decimal_house : {n : ℕ} {s : List ℕ} → Decimal n s → s ≡ decimal_text n
decimal_house {n} p = decimal_only p (decimal_spells n)

pub padded_house : {w n : ℕ} {s : List ℕ} → Padded w n s → s ≡ padded_text w n
padded_house {w} {n} p = padded_only p (padded_spells w n (padded_below p))

pub hex_house : (c : Letters) {w n : ℕ} {s : List ℕ} → CasedHex (ten_of c) w n s → s ≡ hex_text c w n
hex_house c {w} {n} p = cased_only c p (cased_spells c w n (hex_below (cased_hex c p)))

-- Each reader's promise leaves one answer only.

pub one_read_decimal : (s : List ℕ) (a b : Option ℕ) → Answers (ReadDecimal s) a → Answers (ReadDecimal s) b → a ≡ b
one_read_decimal s = one_answer (λ n m p q. one_decimal p.spelled q.spelled)

pub one_read_padded : (s : List ℕ) (a b : Option ℕ) → Answers (ReadPadded s) a → Answers (ReadPadded s) b → a ≡ b
one_read_padded s = one_answer (λ n m p q. one_padded p.spelled q.spelled)

pub one_read_hex : (s : List ℕ) (a b : Option ℕ) → Answers (ReadHex s) a → Answers (ReadHex s) b → a ≡ b
one_read_hex s = one_answer (λ n m p q. one_hex p.spelled q.spelled)

-- So does that of a byte's digit.
pub one_hex_digit : (x : ℕ) (a b : Option ℕ) → Answers (HexDigit x) a → Answers (HexDigit x) b → a ≡ b
one_hex_digit x = one_answer (λ n m p q. hex.one p q)

pub one_digit : {x a b : ℕ} → DigitOr255 x a → DigitOr255 x b → a ≡ b
one_digit (digit p) (digit q) = hex.one p q
one_digit {a = a} (digit p) (none f e) = absurd (f a p)
one_digit {b = b} (none f e) (digit q) = absurd (f b q)
one_digit (none f e) (none g h) = e ∙ sym h

-- and so does that of the table of hexadecimal digits
pub one_table : {t u : List ℕ} → HexTable t → HexTable u → t ≡ u
one_table {t} {u} p q =
    same_entries t u (p.long ∙ sym q.long) (λ b l. let h : b < 256 = omega (arith, p.long) in one_digit (p.entry b h) (q.entry b h))

-- each entry, by the bounds of figures and letters
pub entry_of : {t : List ℕ} → HexTable t → (b : ℕ) → b < 256 → get_or t b 0 ≡ hex_of b
entry_of p b h = one_digit (p.entry b h) (hex_of_lem b)
