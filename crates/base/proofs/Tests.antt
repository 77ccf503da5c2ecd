-- Laws on a test that answers true or false.
use Prim.Native.Nat.{ℕ}
use mathlib.Core.Path.{◌≡◌, refl}
use mathlib.Core.Bool.{Bool, true, false, not}
use borrow.Author.Tests.{eqb-true, eqb-false, not-true, not-false}
use lib.Dec.{eqb}
use Rattle.base.specs.inner.Decides.{Decides}

-- A test of one fact is a test of any other that holds exactly if it does.
pub same_test : {P Q : Type 0} (b : Bool) → (P → Q) → (Q → P) → Decides P b → Decides Q b
same_test true f g p = f p
same_test false f g n = λ q. n (g q)

-- What a test that answered true, or false, has shown.
pub shown : {P : Type 0} (b : Bool) → b ≡ true → Decides P b → P
shown b e d = rw e at d

pub refuted : {P : Type 0} (b : Bool) → b ≡ false → Decides P b → P → ⊥
refuted b e d = rw e at d

-- The same where the code tests the negation.
pub shown_not : {P : Type 0} (b : Bool) → Decides P b → not b ≡ false → P
shown_not b d e = shown b (not-false b e) d

pub refuted_not : {P : Type 0} (b : Bool) → Decides P b → not b ≡ true → P → ⊥
refuted_not b d e = refuted b (not-true b e) d

pub equal : (m n : ℕ) → Decides (m ≡ n) (eqb m n)
equal m n = go (eqb m n) refl
  where
    go : (b : Bool) → eqb m n ≡ b → Decides (m ≡ n) b
    go true e = eqb-true m n e
    go false e = eqb-false m n e
