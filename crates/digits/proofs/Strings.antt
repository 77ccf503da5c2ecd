-- Digit strings of every length, in every base: the laws that readers and writers cite.
use Prim.Native.Nat.{ℕ, zero, suc, ◌+◌, ◌*◌, ◌^◌, ◌≤◌, ◌<◌}
use mathlib.Core.Path.{◌≡◌, refl, ap₂, sym, ◌∙◌}
use mathlib.Core.Logic.{◌⊎◌, inl, inr, ⊎_elim}
use mathlib.Core.List.{List, [], ◌∷◌, ◌++◌}
use native.Mathlib.Nat.{pow-zero, pow-suc, pow-succ', pow-le-pow_right, lt_of_lt_of_le, add-mul, mul_assoc, add_assoc, mul-one, add-zero, zero-mul, zero-add}
use native.Mathlib.Numerals.{add-one}
use native.Mathlib.Omega.{arith}
use lib.Arith.{digits_lt}
use lib.ListN.{length, get_or, length-append}
use Rattle.base.proofs.Numbers.{parts}
use Rattle.digits.specs.Digits.{DecimalDigit, LetterDigit, CasedDigit, figure, letter, HexDigit, capital, small, Digits, none, more}

-- What the laws ask of a base's digits: each is below the base, and a byte is one digit at the most.
pub record System (D : ℕ → ℕ → Type 0) (b : ℕ) : Type 0 where
  pub small : {x d : ℕ} → D x d → d < b
  pub one : {x d e : ℕ} → D x d → D x e → d ≡ e

shift : (b d p n e : ℕ) → (d * p + n) * b + e ≡ d * (p * b) + (n * b + e)
shift b d p n e = simp (add-mul, mul_assoc, add_assoc)

module _ {D : ℕ → ℕ → Type 0} {b : ℕ} where
  -- one digit more at the end: Horner's rule
  pub snoc : {s : List ℕ} {n z e : ℕ} → Digits D b s n → D z e → Digits D b (s ++ (z ∷ [])) (n * b + e)
  snoc {e = e} none p =
      let h : 0 * b + e ≡ e * b ^ 0 + 0 = simp (pow-zero, mul-one, zero-mul, zero-add, add-zero) in
      more p none h
  snoc {z = z} {e = e} (more {d = d} {n = n} {m = m} {s = s} q r f) p =
      let l : length (s ++ (z ∷ [])) ≡ suc (length s) = rw (length-append, add-one) in
      let h : m * b + e ≡ d * b ^ length (s ++ (z ∷ [])) + (n * b + e) = rw (f, l, pow-suc) (shift b d (b ^ length s) n e) in
      more q (snoc r p) h

  -- each byte of the string is a digit
  pub each : {s : List ℕ} {n : ℕ} → Digits D b s n → (i : ℕ) → i < length s → (d : ℕ) × D (get_or s i 0) d
  each none i h = absurd (omega arith)
  each (more {d = d} p r f) zero h = (d, p)
  each (more p r f) (suc i) h = each r i (omega arith)

module _ {D : ℕ → ℕ → Type 0} {b : ℕ} (y : System D b) where
  -- the number is the only one for its bytes
  pub unique : {s : List ℕ} {n m : ℕ} → Digits D b s n → Digits D b s m → n ≡ m
  unique none none = refl
  unique (more {s = s} p r e) (more q t f) = e ∙ ap₂ (λ (d n : ℕ). d * b ^ length s + n) (y.one p q) (unique r t) ∙ sym f

  -- the width bounds the number
  pub below : {s : List ℕ} {n : ℕ} → Digits D b s n → n < b ^ length s
  below none = rw pow-zero (omega arith)
  below (more {s = s} p r e) = rw (e, pow-succ') (digits_lt (y.small p) (below r))

  -- so does any width from there on
  pub within : {s : List ℕ} {n : ℕ} (w : ℕ) → 0 < b → Digits D b s n → length s ≤ w → n < b ^ w
  within w z r h = lt_of_lt_of_le (below r) (pow-le-pow_right z h)

  -- a number has one string of each width, where a digit has one byte
  pub same_width : ((x z d : ℕ) → D x d → D z d → x ≡ z) → {s t : List ℕ} {n m : ℕ}
      → Digits D b s n → Digits D b t m → n ≡ m → length s ≡ length t → s ≡ t
  same_width g none none e l = refl
  same_width g none (more q t f) e l = absurd (omega arith)
  same_width g (more p r f) none e l = absurd (omega arith)
  same_width g (more {x = x} {d = d} {n = n} {s = s} p r f) (more {x = z} {d = c} {n = m} {s = t} q v h) e l =
      let k : length s ≡ length t = omega arith in
      let w : d * b ^ length s + n ≡ c * b ^ length s + m = sym f ∙ e ∙ h ∙ rw k in
      let i = parts (b ^ length s) (below r) (rw k (below v)) w in
      ap₂ (λ (a : ℕ) (u : List ℕ). a ∷ u) (g x z c (rw i.0 at p) q) (same_width g r v i.1 k)

pub decimal : System DecimalDigit 10
decimal = record { small = λ p. p.value; one = λ p q. omega (arith, p.byte, q.byte) }

cased_small : {ten x d : ℕ} → CasedDigit ten x d → d < 16
cased_small (figure p) = omega arith
cased_small (letter p) = omega arith

-- letters of one case, or of two that do not overlap, and that stand after the figures
cased_one : {t u x d e : ℕ} → 58 ≤ t → 58 ≤ u → (t ≡ u) ⊎ ((t + 6 ≤ u) ⊎ (u + 6 ≤ t)) → CasedDigit t x d → CasedDigit u x e → d ≡ e
cased_one h k o (figure p) (figure q) = omega arith
cased_one h k o (figure p) (letter q) = omega arith
cased_one h k o (letter p) (figure q) = omega arith
cased_one h k o (letter p) (letter q) = ⊎_elim (λ a. omega arith) (⊎_elim (λ a. omega arith) (λ a. omega arith)) o

pub cased : (ten : ℕ) → 58 ≤ ten → System (CasedDigit ten) 16
cased ten h = record { small = cased_small; one = cased_one h h (inl refl) }

-- in one case a digit has one byte
pub cased_byte : {ten : ℕ} (x z d : ℕ) → CasedDigit ten x d → CasedDigit ten z d → x ≡ z
cased_byte x z d (figure p) (figure q) = omega arith
cased_byte x z d (figure p) (letter q) = omega arith
cased_byte x z d (letter p) (figure q) = omega arith
cased_byte x z d (letter p) (letter q) = omega arith

pub decimal_byte : (x z d : ℕ) → DecimalDigit x d → DecimalDigit z d → x ≡ z
decimal_byte x z d p q = omega arith

hex_one : {x d e : ℕ} → HexDigit x d → HexDigit x e → d ≡ e
hex_one (capital p) (capital q) = cased_one (omega arith) (omega arith) (inl refl) p q
hex_one (capital p) (small q) = cased_one (omega arith) (omega arith) (inr (inl (omega arith))) p q
hex_one (small p) (capital q) = cased_one (omega arith) (omega arith) (inr (inr (omega arith))) p q
hex_one (small p) (small q) = cased_one (omega arith) (omega arith) (inl refl) p q

hex_small : {x d : ℕ} → HexDigit x d → d < 16
hex_small (capital p) = cased_small p
hex_small (small p) = cased_small p

pub hex : System HexDigit 16
hex = record { small = hex_small; one = hex_one }

-- what follows from a figure, a capital letter and a small letter follows from every hexadecimal digit
pub cases : {C : Type 0} {x d : ℕ} → (DecimalDigit x d → C) → (LetterDigit 65 x d → C) → (LetterDigit 97 x d → C) → HexDigit x d → C
cases f g h (capital (figure p)) = f p
cases f g h (capital (letter p)) = g p
cases f g h (small (figure p)) = f p
cases f g h (small (letter p)) = h p
