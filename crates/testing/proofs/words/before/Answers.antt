-- `testing::words::before` cuts the line at the first of the byte.
use Prim.Native.Nat.{◌-◌}
use mathlib.Core.Path.{◌≡◌}
use native.Mathlib.Omega.{arith}
use Rattle.testing.proofs.Cutting.{cut_from}
use Rattle.testing.proofs.words.before.Goals as goal

pub returns : goal.returns
returns c =
    let e : c.find-i.result - 0 ≡ c.find-i.result = omega arith in
    rw e at (cut_from c.find-i.ensures).0
