-- What the readers' loops keep, in any base.
use Prim.Native.Nat.{ℕ, ◌+◌, ◌*◌, ◌^◌, ◌≤◌, ◌<◌}
use mathlib.Core.Path.{◌≡◌}
use mathlib.Core.List.{List}
use native.Mathlib.Numerals.{add-one}
use native.Mathlib.Omega.{arith}
use lib.ListN.{length, get_or, take}
use lib.Seq.{take-suc, length-take-le, take-length}
use Rattle.digits.specs.Digits.{Digits, none}
use Rattle.digits.proofs.Strings.{System, snoc, each, within}

-- What a loop over at most `most` digits keeps: the bytes before place i are the digits of n.
pub record Passed (D : ℕ → ℕ → Type 0) (b most : ℕ) (s : List ℕ) (n i : ℕ) : Type 0 where
  pub within : i ≤ length s
  pub few : length s ≤ most
  pub digits : Digits D b (take i s) n

module _ {D : ℕ → ℕ → Type 0} {b most : ℕ} where
  pub none_passed : (s : List ℕ) → length s ≤ most → Passed D b most s 0 0
  none_passed s h = record { within = omega arith; few = h; digits = none }

  module _ {s : List ℕ} {n i : ℕ} (p : Passed D b most s n i) where
    pub one_passed : {d : ℕ} → i < length s → D (get_or s i 0) d → Passed D b most s (n * b + d) (i + 1)
    one_passed h q = record { within = omega arith; few = p.few; digits = rw (add-one, take-suc s i 0 h) (snoc p.digits q) }

    -- a byte that is no digit refuses the whole
    pub stopped : {m : ℕ} → i < length s → ((d : ℕ) → D (get_or s i 0) d → ⊥) → Digits D b s m → ⊥
    stopped h f r = let q = each r i h in f q.0 q.1

    pub all_passed : length s ≤ i → Digits D b s n
    all_passed h =
        let l = p.within in
        let e : i ≡ length s = omega arith in
        rw (e, take-length) at p.digits

    -- one digit more fits where so many do
    pub room : System D b → (w : ℕ) → 0 < b → most ≤ w + 1 → i < length s → n < b ^ w
    room y w z h l =
        let f = p.few in
        within y w z p.digits (rw (length-take-le i s p.within) (omega arith))
