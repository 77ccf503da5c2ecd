-- The spelling that is written: the house's one text for a number. In words: docs/FORMAT.md, section 9.
use Rattle.std.specs.Prelude.{ℕ, zero, suc, ◌+◌, ◌-◌, ◌/◌, ◌%◌, true, false, List, [], ◌∷◌, ◌++◌, ltb}
use Prim.Native.Char.{code}
use Rattle.digits.specs.declared.Letters.{Letters}
use Rattle.digits.specs.declared.Letters.TheVariants.{Capital, Small}

-- The byte of a decimal digit.
abbrev pub figure_of : ℕ → ℕ
figure_of d = code "0" + d

-- The byte of the letter for ten.
abbrev pub ten_of : Letters → ℕ
ten_of Capital = code "A"
ten_of Small = code "a"

-- The byte of a hexadecimal digit.
unfoldable pub glyph_of : Letters → ℕ → ℕ
glyph_of c d = elim (ltb d 10) [ true ↦ figure_of d | false ↦ ten_of c + (d - 10) ]

-- n in base b in exactly w digits, zeros kept: the last digit is the remainder, those before it spell the quotient.
unfoldable pub fixed : (ℕ → ℕ) → ℕ → ℕ → ℕ → List ℕ
fixed glyph b zero n = []
fixed glyph b (suc w) n = fixed glyph b w (n / b) ++ (glyph (n % b) ∷ [])

-- n in exactly w decimal digits.
abbrev pub padded_text : ℕ → ℕ → List ℕ
padded_text w n = fixed figure_of 10 w n

-- n in exactly w hexadecimal digits.
abbrev pub hex_text : Letters → ℕ → ℕ → List ℕ
hex_text c w n = fixed (glyph_of c) 16 w n

-- n bytes of a number, the first of them with this place value, each in two digits.
unfoldable pub byte_texts : Letters → ℕ → ℕ → ℕ → List (List ℕ)
byte_texts letters place zero sum = []
byte_texts letters place (suc n) sum = hex_text letters 2 (sum / place % 256) ∷ byte_texts letters (place / 256) n sum

-- n in decimal without leading zeros, if it has at most k + 1 digits.
unfoldable pub spell : ℕ → ℕ → List ℕ
spell zero n = figure_of n ∷ []
spell (suc k) n = elim (ltb n 10) [ true ↦ figure_of n ∷ [] | false ↦ spell k (n / 10) ++ (figure_of (n % 10) ∷ []) ]

-- n in decimal without leading zeros, whatever its length: n is never less than its number of digits less one.
unfoldable pub decimal_text : ℕ → List ℕ
decimal_text n = spell n n
