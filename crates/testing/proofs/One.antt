-- The promises on the parts of a line leave one answer only.
use Prim.Native.Nat.{ℕ, ◌<◌}
use mathlib.Core.Path.{◌≡◌, sym, ◌∙◌}
use mathlib.Core.Logic.{⊎_elim}
use mathlib.Core.List.{List}
use native.Mathlib.Omega.{arith}
use Rattle.base.proofs.Numbers.{below_or_not}
use Rattle.digits.proofs.Strings.{unique}
use Rattle.digits.proofs.Theorems.{one_decimal, one_hex}
use Rattle.testing.specs.Words.{FirstFrom, Or0, is, none, ValueOf, hexadecimal, decimal, KeyOf, few, many}
use Rattle.testing.proofs.Cutting.{letters}

not_below : {s : List ℕ} {at b r q : ℕ} → FirstFrom s at b r → FirstFrom s at b q → r < q → ⊥
not_below {r = r} f g h = let w = g.within in g.passed r f.from h (f.found (omega arith))

pub one_first : {s : List ℕ} {at b r q : ℕ} → FirstFrom s at b r → FirstFrom s at b q → r ≡ q
one_first {r = r} {q = q} f g =
    ⊎_elim (λ h. absurd (not_below f g h)) (λ h. ⊎_elim (λ l. absurd (not_below g f l)) (λ l. omega arith) (below_or_not q r)) (below_or_not r q)

one_or_0 : {P : ℕ → Type 0} {v w : ℕ} → ((n m : ℕ) → P n → P m → n ≡ m) → Or0 P v → Or0 P w → v ≡ w
one_or_0 u (is p) (is q) = u _ _ p q
one_or_0 u (is p) (none n e) = absurd (n _ p)
one_or_0 u (none n e) (is q) = absurd (n _ q)
one_or_0 u (none n e) (none m f) = e ∙ sym f

pub one_value : {s : List ℕ} {v w : ℕ} → ValueOf s v → ValueOf s w → v ≡ w
one_value {w = w} (hexadecimal {t = t} e p) (hexadecimal {t = u} f q) =
    let h : u ≡ t = cc in
    one_or_0 (λ n m a b. one_hex a.spelled b.spelled) p (rw h at q)
one_value (hexadecimal {t = t} e p) (decimal n q) = absurd (n t e)
one_value (decimal n p) (hexadecimal {t = t} e q) = absurd (n t e)
one_value (decimal n p) (decimal m q) = one_or_0 (λ n m a b. one_decimal a.spelled b.spelled) p q

pub one_key : {s : List ℕ} {k m : ℕ} → KeyOf s k → KeyOf s m → k ≡ m
one_key (few h p) (few l q) = unique letters p q
one_key (few h p) (many l e) = absurd (omega arith)
one_key (many h e) (few l q) = absurd (omega arith)
one_key (many h e) (many l f) = e ∙ sym f
