-- What is begun by the first digit of a byte, and what the second one ends.
use Prim.Native.Nat.{ℕ, ◌+◌, ◌*◌, ◌%◌}
use mathlib.Core.Path.{◌≡◌, ap}
use mathlib.Core.List.{List, [], ◌∷◌, ◌++◌}
use native.Mathlib.Omega.{arith}
use lib.ListN.{length}
use Rattle.std.specs.Prelude.{Option, Some, None}
use Rattle.std.specs.Option.{unwrap_or}
use Rattle.base.specs.inner.Answers.{Answers}
use Rattle.digits.specs.Digits.{HexDigit}
use Rattle.digits.proofs.Strings.{hex}
use Rattle.escapes.specs.declared.Begun.{Begun}
use Rattle.escapes.specs.declared.Begun.TheVariants.{Nothing, Backslash, Hex, Digit}
use Rattle.escapes.specs.Escapes.{StandsFor, plain, letter, byte, Begins, After}

-- A digit that is looked up is the only one.
pub looked_up : {b d : ℕ} (n : ℕ) (o : Option ℕ) → Answers (HexDigit b) o → HexDigit b d → unwrap_or o n ≡ d
looked_up n (Some e) p q = hex.one p q
looked_up n None f q = absurd (f _ q)

pub digit_begun : {s : List ℕ} {b v : ℕ} → Begins Hex s → ((d : ℕ) → HexDigit b d → v ≡ d) → After s b (Digit v)
digit_begun {b = b} {v = v} k f = rw k (record { ended = over; begun = on })
  where
    over : (x : ℕ) → StandsFor (92 ∷ 120 ∷ b ∷ []) x → Digit v ≡ Nothing
    over x (plain e h) = cc
    over x (letter e h l) = cc
    over x (byte e p q h) = cc

    on : (n : Begun) → Begins n (92 ∷ 120 ∷ b ∷ []) → Digit v ≡ n
    on Nothing e = cc
    on Backslash e = cc
    on Hex e = cc
    on (Digit d) (a, e, p) =
        let h : b ≡ a = cc in
        ap Digit (f d (rw h p))

pub byte_is : {s : List ℕ} {b d v r x : ℕ} → Begins (Digit d) s → ((e : ℕ) → HexDigit b e → v ≡ e) → r ≡ (d * 16 % 256 + v) % 256
    → StandsFor (s ++ (b ∷ [])) x → r ≡ x
byte_is {b = b} {d = d} {v = v} {r = r} {x = x} (a, k, p) f q y = go (rw k at y)
  where
    go : StandsFor (92 ∷ 120 ∷ a ∷ b ∷ []) x → r ≡ x
    go (plain e h) = omega (arith, ap length e)
    go (letter e h l) = omega (arith, ap length e)
    go (byte {a = c} {b = g} {d = i} e m n h) =
        let first : a ≡ c = cc in
        let second : b ≡ g = cc in
        let m2 = rw (← first) at m in
        let n2 = rw (← second) at n in
        omega (arith, hex.small p, hex.one p m2, hex.small n2, f _ n2)
