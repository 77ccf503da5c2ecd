-- The bytes of a word, each after one blank: one more is one part more at the end, with the place value that the shift has.
use Prim.Native.Nat.{ℕ, zero, suc, ◌+◌, ◌*◌, ◌-◌, ◌/◌, ◌%◌, ◌^◌, ◌<◌}
use mathlib.Core.Path.{◌≡◌, refl, ap, sym, ◌∙◌}
use mathlib.Core.List.{List, [], ◌∷◌, ◌++◌, append-nil}
use native.Mathlib.Nat.{add-zero, div-one, pow-zero, pow-suc, suc-mul, mul_comm, div-div-eq-div-mul}
use native.Mathlib.Numerals.{add-one}
use native.Mathlib.Omega.{arith}
use lib.Pow.{pow-add, shl-shr}
use lib.ListN.{length, get_or, length-append}
use Rattle.digits.specs.inner.Pairs.{PairsOf}
use Rattle.base.specs.inner.Wrote.{Wrote}
use Rattle.base.specs.Spaced.{spaced}
use Rattle.base.proofs.Lists.{then}
use Rattle.base.proofs.Spaced.{spaced_none, spaced_more, spaced_append}
use Rattle.digits.specs.declared.Letters.{Letters}
use Rattle.digits.specs.House.{glyph_of, hex_text, byte_texts}
use Rattle.digits.proofs.House.{fixed_zero, fixed_step, length_fixed}

pub two_digits : (x : Letters) (b : ℕ) → b < 256 → hex_text x 2 b ≡ glyph_of x (b / 16) ∷ glyph_of x (b % 16) ∷ []
two_digits x b h =
    let e : b / 16 % 16 ≡ b / 16 = omega arith in
    rw (fixed_step, fixed_step, fixed_zero, e)

-- a table of pairs has them
pub paired : {x : Letters} {t : List ℕ} (b : ℕ) → b < 256 → PairsOf x t → hex_text x 2 b ≡ get_or t (2 * b) 0 ∷ get_or t (2 * b + 1) 0 ∷ []
paired {x} b h p = two_digits x b h ∙ rw (p.high b h, p.low b h)

-- case by case

pub bytes_none : (x : Letters) (place sum : ℕ) → byte_texts x place 0 sum ≡ []
unfolding byte_texts
bytes_none x place sum = refl

pub bytes_more : (x : Letters) (place n sum : ℕ) → byte_texts x place (suc n) sum
    ≡ hex_text x 2 (sum / place % 256) ∷ byte_texts x (place / 256) n sum
unfolding byte_texts
bytes_more x place n sum = refl

-- the last of n + 1 bytes
last : (x : Letters) (place n sum : ℕ) → byte_texts x place (suc n) sum ≡ byte_texts x place n sum ++ (hex_text x 2 (sum / (place / 256 ^ n) % 256) ∷ [])
last x place zero sum = rw (bytes_more, bytes_none, bytes_none, pow-zero, div-one)
last x place (suc n) sum =
    let e : place / 256 / 256 ^ n ≡ place / 256 ^ suc n = rw (div-div-eq-div-mul, mul_comm, ← pow-suc) in
    rw (bytes_more, bytes_more x place n sum) (ap (λ (l : List (List ℕ)). hex_text x 2 (sum / place % 256) ∷ l) (rw e at (last x (place / 256) n sum)))

bits : (k : ℕ) → 256 ^ k ≡ 2 ^ (k * 8)
bits zero = refl
bits (suc k) = rw (pow-suc, suc-mul, pow-add, bits k)

-- the place value of a byte is that of the bits after it
place : (n : ℕ) → n < 8 → 256 ^ 7 / 256 ^ n ≡ 2 ^ (56 - 8 * n)
place n h =
    let e : 56 - 8 * n + n * 8 ≡ 56 = omega arith in
    let a : 2 ^ 56 ≡ 2 ^ (56 - 8 * n) * 2 ^ (n * 8) = ap (λ (m : ℕ). 2 ^ m) (sym e) ∙ pow-add 2 (56 - 8 * n) (n * 8) in
    ap (λ (m : ℕ). m / 256 ^ n) a ∙ rw (bits n) (shl-shr (2 ^ (56 - 8 * n)) (n * 8))

more : (x : Letters) (n sum : ℕ) → n < 8
    → spaced (byte_texts x (256 ^ 7) (suc n) sum) ≡ spaced (byte_texts x (256 ^ 7) n sum) ++ (32 ∷ hex_text x 2 (sum / 2 ^ (56 - 8 * n) % 256))
more x n sum h =
    rw (last, place n h, spaced_append, spaced_more, spaced_none, append-nil (hex_text x 2 (sum / 2 ^ (56 - 8 * n) % 256)))

-- Before byte n, counted from 0, stand those before it.

pub put_none : (x : Letters) (at sum : ℕ) (l : List ℕ) → Wrote l l at at (spaced (byte_texts x (256 ^ 7) 0 sum))
put_none x at sum l = rw (bytes_none, spaced_none) (record { next = sym (add-zero at); stored = refl })

pub put_more : {l a b : List ℕ} {at p q : ℕ} (x : Letters) (n sum : ℕ) → n < 8 → Wrote l a at p (spaced (byte_texts x (256 ^ 7) n sum))
    → Wrote a b p q (32 ∷ hex_text x 2 (sum / 2 ^ (56 - 8 * n) % 256)) → Wrote l b at q (spaced (byte_texts x (256 ^ 7) (n + 1) sum))
put_more x n sum h w v = rw (add-one, more x n sum h) (then w v)

pub length_bytes : (x : Letters) (place n sum : ℕ) → length (spaced (byte_texts x place n sum)) ≡ 3 * n
length_bytes x place zero sum = rw (bytes_none, spaced_none)
length_bytes x place (suc n) sum = rw (bytes_more, spaced_more, length-append, length_fixed, length_bytes x (place / 256) n sum) (omega arith)
