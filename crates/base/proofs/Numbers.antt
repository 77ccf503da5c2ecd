-- Laws on numbers that every layer shares.
use Prim.Native.Nat.{ℕ, ◌+◌, ◌*◌, ◌/◌, ◌%◌, ◌≤◌, ◌<◌}
use mathlib.Core.Path.{◌≡◌, ap, sym, ◌∙◌}
use mathlib.Core.Logic.{◌⊎◌, inl, inr}
use native.Mathlib.Decide.{dec_lt}
use native.Mathlib.Omega.{arith}
use lib.Arith.{digits_div, digits_mod}

pub below_or_not : (a b : ℕ) → (a < b) ⊎ (b ≤ a)
below_or_not a b = elim (dec_lt a b) [ yes p ↦ inl p | no q ↦ inr (omega arith) ]

-- Quotient and remainder are the only ones.
pub parts : (c : ℕ) {q r q' r' : ℕ} → r < c → r' < c → q * c + r ≡ q' * c + r' → (q ≡ q') × (r ≡ r')
parts c {q} {r} {q'} {r'} p p' e =
    (sym (digits_div q p) ∙ ap (λ (n : ℕ). n / c) e ∙ digits_div q' p', sym (digits_mod q p) ∙ ap (λ (n : ℕ). n % c) e ∙ digits_mod q' p')
