-- The line of a refusal: its parts, and how long it is.
use Prim.Native.Nat.{ℕ, ◌+◌}
use mathlib.Core.Path.{◌≡◌, refl, ap, ◌∙◌}
use mathlib.Core.List.{[], ◌∷◌, ◌++◌}
use native.Mathlib.Omega.{arith}
use lib.ListN.{length, length-append}
use Rattle.digits.specs.House.{decimal_text}
use Rattle.convert.specs.Promise.{refusal_text}

pub refusal : (n p : ℕ) → refusal_text n p
    ≡ (114 ∷ 101 ∷ 102 ∷ 117 ∷ 115 ∷ 101 ∷ 100 ∷ 32 ∷ [])
    ++ (decimal_text n ++ ((32 ∷ 97 ∷ 116 ∷ 32 ∷ 108 ∷ 105 ∷ 110 ∷ 101 ∷ 32 ∷ []) ++ (decimal_text p ++ (13 ∷ 10 ∷ []))))
unfolding refusal_text
refusal n p = refl

pub refusal_length : (n p : ℕ) → length (refusal_text n p) ≡ length (decimal_text n) + length (decimal_text p) + 19
refusal_length n p =
    ap length (refusal n p)
    ∙ omega (arith, length-append (decimal_text n) ((32 ∷ 97 ∷ 116 ∷ 32 ∷ 108 ∷ 105 ∷ 110 ∷ 101 ∷ 32 ∷ []) ++ (decimal_text p ++ (13 ∷ 10 ∷ []))), length-append (decimal_text p) (13 ∷ 10 ∷ []))
