-- A shift by n bytes keeps the eight data bytes past the n-th, and those alone.
use Prim.Native.Nat.{ℕ, zero, suc, ◌+◌, ◌*◌, ◌-◌, ◌/◌, ◌%◌, ◌^◌, ◌≤◌, ◌<◌}
use mathlib.Core.Path.{◌≡◌, refl, ap, sym, ◌∙◌}
use mathlib.Core.Logic.{⊎_elim}
use native.Mathlib.Nat.{pow-suc, suc-mul, zero-mul, add-mul, mul_assoc, mod-lt, div-add-mod'}
use native.Mathlib.Nat.{mul-lt-mul_of_pos_right, mul-pos, eq-zero-or-pos}
use native.Mathlib.Omega.{arith}
use lib.Arith.{digits_mod}
use lib.Pow.{pow-add, pow_pos}

pow_bytes : (k : ℕ) → 256 ^ k ≡ 2 ^ (k * 8)
pow_bytes zero = refl
pow_bytes (suc k) = rw (pow-suc, suc-mul, pow-add, pow_bytes k)

whole : (n : ℕ) → n ≤ 8 → 256 ^ (8 - n) * 2 ^ (n * 8) ≡ 2 ^ 64
whole n h =
    let e : (8 - n) * 8 + n * 8 ≡ 64 = omega arith in
    rw (pow_bytes, ← pow-add, e)

-- The rest of a product is the product of the rest.
scaled : (d m c : ℕ) → 0 < m → 0 < c → d * c % (m * c) ≡ d % m * c
scaled d m c p q =
    let e : d * c ≡ d / m * (m * c) + d % m * c =
    ap (λ (x : ℕ). x * c) (sym (div-add-mod' d m)) ∙ rw (add-mul, mul_assoc) in
    rw e (digits_mod (d / m) (mul-lt-mul_of_pos_right (mod-lt d p) q))

pub shifted : (d n : ℕ) → n ≤ 8 → d * 2 ^ (n * 8) % 2 ^ 64 ≡ d % 256 ^ (8 - n) * 2 ^ (n * 8)
shifted d n h =
    let p : 0 < 256 ^ (8 - n) = rw pow_bytes (pow_pos ((8 - n) * 8)) in
    rw (← whole n h) (scaled d (256 ^ (8 - n)) (2 ^ (n * 8)) p (pow_pos (n * 8)))

-- Nothing is left past the n-th byte exactly if the shifted word is zero.
pub zero_past : (d n : ℕ) → n ≤ 8 → d * 2 ^ (n * 8) % 2 ^ 64 ≡ 0 → d % 256 ^ (8 - n) ≡ 0
zero_past d n h z =
    let e : d % 256 ^ (8 - n) * 2 ^ (n * 8) ≡ 0 = sym (shifted d n h) ∙ z in
    ⊎_elim (λ p. p)
    (λ p. let q = mul-pos p (pow_pos (n * 8)) in absurd (omega arith)) (eq-zero-or-pos (d % 256 ^ (8 - n)))

pub past_zero : (d n : ℕ) → n ≤ 8 → d % 256 ^ (8 - n) ≡ 0 → d * 2 ^ (n * 8) % 2 ^ 64 ≡ 0
past_zero d n h z = shifted d n h ∙ ap (λ (x : ℕ). x * 2 ^ (n * 8)) z ∙ zero-mul (2 ^ (n * 8))
