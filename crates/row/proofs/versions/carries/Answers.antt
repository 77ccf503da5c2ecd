-- `row::versions::carries` decides.
use Prim.Native.Nat.{ℕ, ◌%◌, ◌≤◌}
use mathlib.Core.Path.{◌≡◌, refl}
use mathlib.Core.Bool.{Bool, true, false}
use native.Mathlib.Omega.{arith}
use borrow.Author.Tests.{leb-true, leb-false}
use lib.Dec.{eqb, leb}
use Rattle.base.specs.inner.Decides.{Decides}
use Rattle.base.proofs.Tests.{same_test, equal}
use Rattle.row.proofs.EachVersion.{carried_11, carried_12, carries_11, carries_12}
use Rattle.row.proofs.versions.carries.Goals as goal

at_most : (m n : ℕ) → Decides (m ≤ n) (leb m n)
at_most m n = go (leb m n) refl
  where
    go : (b : Bool) → leb m n ≡ b → Decides (m ≤ n) b
    go true e = leb-true m n e
    go false e = λ l. let g = leb-false m n e in omega arith

pub returns-then-r-eq0 : goal.returns-then-r-eq0
returns-then-r-eq0 c =
    let r = c.args.r in
    let e = c.in-11.is in
    same_test (eqb (r.offset % 100) 0) (λ z. carries_11 e c.if-r-eq0.true z) (λ h. (carried_11 e h).1) (equal (r.offset % 100) 0)

pub returns-then-r-ne0 : goal.returns-then-r-ne0
returns-then-r-ne0 c =
    let r = c.args.r in
    let e = c.in-12.is in
    same_test (leb r.bus 16) (carries_12 e (omega (arith, c.if-r-ne0.true))) (λ h. (carried_12 (λ z. omega arith) h).2) (at_most r.bus 16)
