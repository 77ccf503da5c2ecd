-- `ascii::put_export` meets its contract.
use Prim.Native.Nat.{◌≤◌}
use mathlib.Core.Path.{refl}
use native.Mathlib.Omega.{arith}
use Rattle.ascii.specs.inner.Passes.{line, left}
use Rattle.ascii.proofs.put_export.Goals as goal

pub returns-then-r-gt1 : goal.returns-then-r-gt1
returns-then-r-gt1 c = λ s b. left (omega arith) refl refl

pub put_line-requires : goal.put_line-requires
put_line-requires c =
    let p = c.requires in
    let k : c.args.r.kind ≤ 1 = omega arith in
    (p.0.extended, k, p.0.len, (p.1.0, rw c.channel_of.ensures (p.1.1 k)), p.2)

pub returns : goal.returns
returns c =
    λ s b. let n = c.channel_of.ensures in
    let k : c.args.r.kind ≤ 1 = omega arith in
    line k (rw n at (c.put_line.ensures s b))
