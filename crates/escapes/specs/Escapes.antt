-- The escapes in the cases of the test programs: what the bytes of one stand for, and what is begun before its last byte.
use Rattle.std.specs.Prelude.{ℕ, ◌+◌, ◌*◌, ◌≡◌, ◌≢◌, List, [], ◌∷◌, ◌++◌}
use Prim.Native.Char.{code}
use Rattle.digits.specs.Digits.{HexDigit}
use Rattle.escapes.specs.declared.Begun.{Begun}
use Rattle.escapes.specs.declared.Begun.TheVariants.{Nothing, Backslash, Hex, Digit}

-- `r`, `n` and `t` after a backslash are CR, LF and tab, and any other byte is itself.
pub data Lettered (b x : ℕ) : Type 0 where
  return : b ≡ code "r" → x ≡ code "\r" → Lettered b x
  feed : b ≡ code "n" → x ≡ code "\n" → Lettered b x
  tab : b ≡ code "t" → x ≡ code "\t" → Lettered b x
  itself : b ≢ code "r" → b ≢ code "n" → b ≢ code "t" → x ≡ b → Lettered b x

-- The bytes s stand for x: a byte that is no backslash, a backslash and a letter, or a backslash, an x and two hexadecimal digits.
pub data StandsFor (s : List ℕ) (x : ℕ) : Type 0 where
  plain : s ≡ x ∷ [] → x ≢ code "\\" → StandsFor s x
  letter : {b : ℕ} → s ≡ code "\\" ∷ b ∷ [] → b ≢ code "x" → Lettered b x → StandsFor s x
  byte : {a b d e : ℕ} → s ≡ code "\\" ∷ code "x" ∷ a ∷ b ∷ [] → HexDigit a d → HexDigit b e → x ≡ 16 * d + e → StandsFor s x

-- What the bytes s begin.
abbrev pub Begins : Begun → List ℕ → Type 0
Begins Nothing s = s ≡ []
Begins Backslash s = s ≡ code "\\" ∷ []
Begins Hex s = s ≡ code "\\" ∷ code "x" ∷ []
Begins (Digit d) s = (a : ℕ) × (s ≡ code "\\" ∷ code "x" ∷ a ∷ []) × HexDigit a d

-- With the byte b after the bytes s, r is what is begun, or nothing where they stand for a byte.
pub record After (s : List ℕ) (b : ℕ) (r : Begun) : Type 0 where
  pub ended : (x : ℕ) → StandsFor (s ++ (b ∷ [])) x → r ≡ Nothing
  pub begun : (n : Begun) → Begins n (s ++ (b ∷ [])) → r ≡ n
