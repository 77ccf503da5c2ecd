-- Laws on digits at a place: the number that stands there is the only one; digits are put together from fewer, and a byte behind them is one more.
use Prim.Native.Nat.{ℕ, suc, ◌+◌, ◌*◌, ◌^◌, ◌<◌}
use mathlib.Core.Path.{◌≡◌, refl, ap, sym, ◌∙◌}
use mathlib.Core.Logic.{◌≢◌}
use mathlib.Core.List.{List, [], ◌∷◌, ◌++◌, append_assoc}
use native.Mathlib.Nat.{add-zero, add-mul, mul_assoc, add_assoc, zero-mul, zero-add}
use native.Mathlib.Numerals.{add-one}
use native.Mathlib.Omega.{arith}
use lib.Pow.{pow-add}
use lib.ListN.{length, get_or, take, drop, length-append, take-append-drop}
use lib.Seq.{take-append_seam, drop-append_seam, length-take-le, drop-cons}
use Rattle.std.specs.Prelude.{None}
use Rattle.digits.specs.Digits.{DecimalDigit, Digits, Padded}
use Rattle.digits.specs.Digits.{none as no-digits, more as more-digits}
use Rattle.digits.specs.House.{padded_text}
use Rattle.digits.proofs.House.{padded_spells}
use Rattle.digits.proofs.Strings.{each}
use Rattle.digits.proofs.Theorems.{one_padded, padded_house}
use Rattle.fields.specs.Runs.{All}
use Rattle.fields.specs.inner.Window.{Solid, Lined, FieldAt}
use Rattle.fields.proofs.DigitFields.{first}
use Rattle.fields.proofs.Runs.{all_map, all_append}
use Rattle.fields.proofs.Scans.{digits_all, decimal_solid}
use Rattle.fields.proofs.Window.{End, head_at, inside, next_lined, stops_here}
use Rattle.ascii_line_reader.specs.inner.Answer.{DigitsHere, DigitsThen}

-- Two lists with fronts of one length.
same_front : (a b c d : List ℕ) → length a ≡ length b → a ++ c ≡ b ++ d → (a ≡ b) × (c ≡ d)
same_front a b c d l e = (
  sym (take-append_seam a c) ∙ ap (take (length a)) e ∙ rw l (take-append_seam b d),
  sym (drop-append_seam a c) ∙ ap (drop (length a)) e ∙ rw l (drop-append_seam b d),
)

spread : {s g : List ℕ} (a b u : List ℕ) → s ≡ g ++ u → g ≡ a ++ b → s ≡ a ++ (b ++ u)
spread a b u e k = e ∙ ap (λ (l : List ℕ). l ++ u) k ∙ append_assoc a b u

-- Digit strings, cut and joined.

halves : {n : ℕ} (a b : List ℕ) → Digits DecimalDigit 10 (a ++ b) n → ((p : ℕ) × Digits DecimalDigit 10 a p) × ((q : ℕ) × Digits DecimalDigit 10 b q)
halves {n} [] b r = ((0, no-digits), (n, r))
halves (x ∷ a) b (more-digits p r e) = let y = halves a b r in ((_, more-digits p y.0.1 refl), y.1)

shift : (b d p n e : ℕ) → (d * p + n) * b + e ≡ d * (p * b) + (n * b + e)
shift b d p n e = simp (add-mul, mul_assoc, add_assoc)

together : {p q : ℕ} {a b : List ℕ} → Digits DecimalDigit 10 a p → Digits DecimalDigit 10 b q → Digits DecimalDigit 10 (a ++ b) (p * 10 ^ length b + q)
together no-digits r = rw (zero-mul, zero-add) r
together {q = q} {b = b} (more-digits {d = d} {n = n} {m = m} {s = s} x r e) t =
    let h : m * 10 ^ length b + q ≡ d * 10 ^ length (s ++ b) + (n * 10 ^ length b + q) =
    rw (e, length-append, pow-add) (shift (10 ^ length b) d (10 ^ length s) n q) in
    more-digits x (together r t) h

record Halves (v w : ℕ) (g : List ℕ) : Type 0 where
  pub left : List ℕ
  pub right : List ℕ
  pub is : g ≡ left ++ right
  pub p : ℕ
  pub q : ℕ
  pub first : Padded v p left
  pub second : Padded w q right

halved : (v w : ℕ) {n : ℕ} {g : List ℕ} → Padded (v + w) n g → Halves v w g
halved v w {n = n} {g = g} r =
    let e = take-append-drop v g in
    let l : length (take v g) ≡ v = length-take-le v g (omega (arith, r.width)) in
    let h = halves {n = n} (take v g) (drop v g) (rw e r.digits) in
    record {
      left = take v g;
      right = drop v g;
      is = sym e;
      p = h.0.0;
      q = h.1.0;
      first = record { digits = h.0.1; width = l };
      second = record { digits = h.1.1; width = omega (arith, r.width, ap length e, length-append (take v g) (drop v g)) };
    }

-- What stands there is the only such.
pub only : {width at n m : ℕ} {t s h : List ℕ} (u : List ℕ) → DigitsHere width t s at n → Padded width m h → drop at s ≡ h ++ (t ++ u)
    → (n ≡ m) × (drop (at + width + length t) s ≡ u)
only {t = t} {h = h} u d p e =
    let q = d.padded in
    let x = same_front d.digits h _ _ (q.width ∙ sym p.width) (sym d.bytes ∙ e) in
    (one_padded (rw x.0 at q) p, (same_front t t _ u refl x.1).1)

-- So the number that a house text has there is the one that was read, and what stands behind it is told.
pub text_is : {width at n : ℕ} {t s : List ℕ} (e m : ℕ) (u : List ℕ) → DigitsHere width t s at n → m < 10 ^ width
    → drop at s ≡ padded_text width m ++ (t ++ u) → e ≡ at + width + length t → (n ≡ m) × (drop e s ≡ u)
text_is {width} e m u a h k z = let x = only u a (padded_spells width m h) k in (x.0, rw z x.1)

pub no_digit : (s : List ℕ) (at : ℕ) → ((d : ℕ) → DecimalDigit (get_or s at 0) d → ⊥) → DigitsThen 1 [] s at None
no_digit s at f g u m p e =
    let h : 0 < length g = omega (arith, p.width) in
    let d = each p.digits 0 h in
    f d.0 (rw (first s at g u e h) d.1)

-- no digits of the first half
pub first_none : (v w : ℕ) (t s : List ℕ) (at : ℕ) → DigitsThen v [] s at None → DigitsThen (v + w) t s at None
first_none v w t s at f g u m r e =
    let c = halved v w r in
    f c.left (c.right ++ (t ++ u)) c.p c.first (spread c.left c.right (t ++ u) e c.is)

-- digits that are not there are not there with something behind them either
pub then_none : (width : ℕ) (t s : List ℕ) (at : ℕ) → DigitsThen width [] s at None → DigitsThen width t s at None
then_none width t s at f g u m r e = f g (t ++ u) m r e

module _ {s : List ℕ} {at : ℕ} where
  -- one digit
  pub one_digit : {d : ℕ} → Lined (drop at s) → DecimalDigit (get_or s at 0) d → DigitsHere 1 [] s at d
  one_digit {d} l p =
      let k : at + 1 + 0 ≡ suc at = omega arith in
      let e : d ≡ d * 10 ^ 0 + 0 = omega arith in
      record {
        digits = get_or s at 0 ∷ [];
        padded = record { digits = more-digits p no-digits e; width = refl };
        bytes = rw k (drop-cons s at 0 (inside s at l));
        lined = rw add-zero (next_lined s at l (λ h. omega (arith, p.byte)));
      }

  -- the digits of the first half, and of the second
  module _ {p : ℕ} (v w : ℕ) (a : DigitsHere v [] s at p) where
    pub both : {q : ℕ} {t : List ℕ} → DigitsHere w t s (at + v) q → DigitsHere (v + w) t s at (p * 10 ^ w + q)
    both {q} {t} b =
        let r = a.padded in
        let x = b.padded in
        let f = a.digits in
        let g = b.digits in
        let j : at + v + w + length t ≡ at + (v + w) + length t = omega arith in
        let c = together r.digits x.digits in
        record {
          digits = f ++ g;
          padded = record { digits = rw x.width at c; width = omega (arith, r.width, x.width, length-append f g) };
          bytes = a.bytes ∙ rw (add-zero, b.bytes, j) (sym (append_assoc f g _));
          lined = rw j at b.lined;
        }

    pub second_none : (t : List ℕ) → DigitsThen w t s (at + v) None → DigitsThen (v + w) t s at None
    second_none t b g u m r e =
        let c = halved v w r in
        let x = only (c.right ++ (t ++ u)) a c.first (spread c.left c.right (t ++ u) e c.is) in
        b c.right u c.q c.second (rw add-zero at x.1)

  -- a byte behind them
  module _ {width n : ℕ} (a : DigitsHere width [] s at n) where
    pub then_byte : {b : ℕ} → 13 < b → get_or s (at + width) 0 ≡ b → DigitsHere width (b ∷ []) s at n
    then_byte {b} k e =
        let l : Lined (drop (at + width) s) = rw add-zero at a.lined in
        let d : drop (at + width) s ≡ b ∷ drop (at + width + 1) s = drop-cons s (at + width) 0 (inside s (at + width) l) ∙ rw (e, add-one) in
        record {
          digits = a.digits;
          padded = a.padded;
          bytes = a.bytes ∙ ap (λ (u : List ℕ). a.digits ++ u) (rw add-zero d);
          lined = next_lined s (at + width) l (λ z. omega arith);
        }

    pub other_byte : {b : ℕ} → get_or s (at + width) 0 ≢ b → DigitsThen width (b ∷ []) s at None
    other_byte {b = b} f g u k p e =
        let x = only (b ∷ u) a p e in
        let y : drop (at + width) s ≡ b ∷ u = rw add-zero at x.1 in
        f (head_at s (at + width) y).1

-- The line goes on behind them, inside the window.
pub line_behind : {width at n : ℕ} {t s : List ℕ} (e : ℕ) → DigitsHere width t s at n → e ≡ at + width + length t → Lined (drop e s)
line_behind e d k = rw k d.lined

pub behind : {width at n : ℕ} {t s : List ℕ} → DigitsHere width t s at n → at + width + length t < length s
behind {width} {at} {t = t} {s = s} d = inside s (at + width + length t) d.lined

-- The bytes t stand from `at` up to e, none of them ends a field, and the line goes on behind them.
pub record Stands (t w : List ℕ) (at e : ℕ) : Type 0 where
  pub bytes : drop at w ≡ t ++ drop e w
  pub size : e ≡ at + length t
  pub solid : All Solid t
  pub lined : Lined (drop e w)

pub stands : {width at n : ℕ} {t s : List ℕ} (e : ℕ) → All Solid t → DigitsHere width t s at n → e ≡ at + width + length t
    → Stands (padded_text width n ++ t) s at e
stands {width} {at} {n} {t} {s} e a x k =
    let r = x.padded in
    let i = padded_house r in
    let d = rw i at x.bytes in
    record {
      bytes = rw (k, append_assoc) d;
      size = omega (arith, r.width, ap length i, length-append (padded_text width n) t);
      solid = all_append (rw i at (all_map decimal_solid (digits_all r.digits))) a;
      lined = rw k x.lined;
    }

pub next : {t u w : List ℕ} {at e i : ℕ} → Stands t w at e → Stands u w e i → Stands (t ++ u) w at i
next {t} {u} a b = record {
  bytes = a.bytes ∙ ap (λ (l : List ℕ). t ++ l) b.bytes ∙ sym (append_assoc t u _);
  size = omega (arith, a.size, b.size, length-append t u);
  solid = all_append a.solid b.solid;
  lined = b.lined;
}

-- A byte that ends the field behind them.
pub as_field : {t w : List ℕ} {at e : ℕ} → Stands t w at e → at < e → End (get_or w e 0) → FieldAt t (drop e w) (drop at w)
as_field {w = w} {e = e} a h k = record { bytes = a.bytes; some = omega (arith, a.size); solid = a.solid; stops = stops_here w e k }
