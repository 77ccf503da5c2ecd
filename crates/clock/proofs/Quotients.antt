-- Laws of quotients. A bracket between two multiples, m * c ≤ x < (m + 1) * c, holds of one m; quotients of neighbours.
use Prim.Native.Nat.{ℕ, zero, suc, ◌+◌, ◌*◌, ◌-◌, ◌/◌, ◌%◌, ◌≤◌, ◌<◌}
use mathlib.Core.Path.{◌≡◌, ap, sym, ◌∙◌}
use native.Mathlib.Nat.{div-add-mod', div-eq_of_lt-le, div-mul-le_self, lt-div-mul-add, mod-lt}
use native.Mathlib.Omega.{arith}
use lib.Arith.{digits_div}

pub one_bracket : (c x : ℕ) {m n : ℕ} → m * c ≤ x → x < suc m * c → n * c ≤ x → x < suc n * c → m ≡ n
one_bracket c x {m} {n} l h l' h' =
    let p : x < (m + 1) * c = omega arith in
    let q : x < (n + 1) * c = omega arith in
    sym (div-eq_of_lt-le c l p) ∙ div-eq_of_lt-le c l' q

pub some_bracket : (c x : ℕ) → 0 < c → (x / c * c ≤ x) × (x < suc (x / c) * c)
some_bracket c x h = (div-mul-le_self x c, omega (arith, lt-div-mul-add {a = x} h))

-- From n to n + 1 the quotient rises by one at a multiple of c, and nowhere else.
pub at_multiple : (c n : ℕ) → 0 < c → suc n % c ≡ 0 → suc n / c ≡ suc (n / c)
at_multiple c n h z = go (suc n / c) (omega (arith, div-add-mod' (suc n) c))
  where
    go : (q : ℕ) → q * c ≡ suc n → q ≡ suc (n / c)
    go zero e = absurd (omega arith)
    go (suc p) e =
        let f : n ≡ p * c + (c - 1) = omega arith in
        let l : c - 1 < c = omega arith in
        sym (ap (λ (x : ℕ). suc (x / c)) f ∙ ap suc (digits_div p l))

pub between : (c n : ℕ) → 0 < c → (suc n % c ≡ 0 → ⊥) → suc n / c ≡ n / c
between c n h z =
    let f : n ≡ suc n / c * c + (suc n % c - 1) = omega (arith, div-add-mod' (suc n) c) in
    let l : suc n % c - 1 < c = omega (arith, mod-lt (suc n) h) in
    sym (ap (λ (x : ℕ). x / c) f ∙ digits_div (suc n / c) l)
