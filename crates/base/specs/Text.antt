-- Bytes, written as the text that they are. In words: docs/FORMAT.md, section 1.
use Rattle.std.specs.Prelude.{ℕ, List, [] as []ᴸ, ◌∷◌ as ◌∷ᴸ◌}
use Prim.Native.Char.{code}
use Prim.Native.String.{String, [], ◌∷◌}

-- The bytes of a text: a character below 128 is one byte.
abbrev pub text : String → List ℕ
text [] = []ᴸ
text (c ∷ s) = code c ∷ᴸ text s

-- The characters that paper 01 names.
abbrev pub blank : ℕ
blank = code " "

abbrev pub semicolon : ℕ
semicolon = code ";"

abbrev pub dollar : ℕ
dollar = code "$"

abbrev pub bracket : ℕ
bracket = code ")"

abbrev pub point : ℕ
point = code "."

abbrev pub colon : ℕ
colon = code ":"

-- A line ends in CR LF.
abbrev pub cr : ℕ
cr = code "\r"

abbrev pub lf : ℕ
lf = code "\n"
