-- A count that never falls, as the days before a year or a month: a number has one place in it, and some place.
use Prim.Native.Nat.{ℕ, zero, suc, ◌+◌, ◌≤◌, ◌<◌}
use mathlib.Core.Path.{◌≡◌, ap}
use mathlib.Core.Logic.{⊎_elim}
use native.Mathlib.Omega.{arith}
use Rattle.base.proofs.Numbers.{below_or_not}

module _ (B : ℕ → ℕ) (grows : (k : ℕ) → B k ≤ B (suc k)) where
  pub rises : (j k : ℕ) → j ≤ k → B j ≤ B k
  rises j zero h =
      let e : B j ≡ B 0 = ap B (omega arith) in
      omega arith
  rises j (suc k) h =
      ⊎_elim (λ p. omega (arith, rises j k (omega arith), grows k))
      (λ p. let e : B j ≡ B (suc k) = ap B (omega arith) in omega arith)
      (below_or_not j (suc k))

  -- A number lies between the counts of one place and the next only once, and so has one remainder.
  pub one_place : (j x k y : ℕ) → B j + x ≡ B k + y → B j + x < B (suc j) → B k + y < B (suc k)
      → (j ≡ k) × (x ≡ y)
  one_place j x k y e h h' =
      let p : k ≤ j =
      ⊎_elim (λ p. absurd (omega (arith, rises (suc j) k p))) (λ p. p) (below_or_not j k) in
      let q : j ≤ k =
      ⊎_elim (λ p. absurd (omega (arith, rises (suc k) j p))) (λ p. p) (below_or_not k j) in
      let r : B j ≡ B k = ap B (omega arith) in
      (omega arith, omega arith)

-- A number from the first count on and below a later one has a place.
pub record Place (B : ℕ → ℕ) (n m : ℕ) : Type 0 where
  pub place : ℕ
  pub within : place < m
  pub low : B place ≤ n
  pub high : n < B (suc place)

pub some_place : (B : ℕ → ℕ) (n m : ℕ) → B 0 ≤ n → n < B m → Place B n m
some_place B n zero l h = absurd (omega arith)
some_place B n (suc m) l h =
    ⊎_elim
    (λ p. let s = some_place B n m l p in record { place = s.place; within = omega arith; low = s.low; high = s.high })
    (λ p. record { place = m; within = omega arith; low = p; high = h })
    (below_or_not n (B m))
