-- The parts of a line: what stands before a byte, what stands after it, its words and the numbers that they are.
use Rattle.std.specs.Prelude.{ℕ, zero, suc, ◌≤◌, ◌<◌, ◌≡◌, ◌≢◌, cond, List, [], ◌∷◌, eqb, length, get_or}
use Rattle.digits.specs.inner.Answer.{ReadDecimal, ReadHex}
use Rattle.digits.specs.Digits.{Digits}

-- r is the first place from `at` on where the byte b stands in s, or the end of s.
pub record FirstFrom (s : List ℕ) (at b r : ℕ) : Type 0 where
  pub from : at ≤ r
  pub within : r ≤ length s
  pub passed : (k : ℕ) → at ≤ k → k < r → get_or s k 0 ≢ b
  pub found : r < length s → get_or s r 0 ≡ b

-- What stands before the first byte b, or all.
unfoldable pub before : ℕ → List ℕ → List ℕ
before b [] = []
before b (x ∷ s) = cond (eqb x b) [] (x ∷ before b s)

-- What stands after the first byte b, or nothing.
unfoldable pub behind : ℕ → List ℕ → List ℕ
behind b [] = []
behind b (x ∷ s) = cond (eqb x b) s (behind b s)

-- What stands after n blanks.
unfoldable pub skipped : ℕ → List ℕ → List ℕ
skipped zero s = s
skipped (suc n) s = behind 32 (skipped n s)

-- The word after n blanks.
abbrev pub word : ℕ → List ℕ → List ℕ
word n s = before 32 (skipped n s)

-- The number that has P, or 0 where none has it.
pub data Or0 (P : ℕ → Type 0) (v : ℕ) : Type 0 where
  is : P v → Or0 P v
  none : ((n : ℕ) → P n → ⊥) → v ≡ 0 → Or0 P v

-- The number that a word is: after an x in hexadecimal, otherwise in decimal; 0 where it is none.
pub data ValueOf (s : List ℕ) (v : ℕ) : Type 0 where
  hexadecimal : {t : List ℕ} → s ≡ 120 ∷ t → Or0 (ReadHex t) v → ValueOf s v
  decimal : ((t : List ℕ) → s ≢ 120 ∷ t) → Or0 (ReadDecimal s) v → ValueOf s v

-- The byte x as a digit of base 256.
pub record Letter (x d : ℕ) : Type 0 where
  pub same : d ≡ x
  pub small : d < 256

-- The letters of a word as the digits of one number; 0 where there are more than eight.
pub data KeyOf (s : List ℕ) (k : ℕ) : Type 0 where
  few : length s ≤ 8 → Digits Letter 256 s k → KeyOf s k
  many : 8 < length s → k ≡ 0 → KeyOf s k
