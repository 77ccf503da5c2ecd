-- `base::put_text` puts one byte more in each turn.
use Prim.Native.Nat.{◌+◌, ◌≤◌}
use lib.ListN.{length, take}
use mathlib.Core.Path.{◌≡◌}
use Rattle.base.specs.inner.Wrote.{Wrote}
use Rattle.base.proofs.put_text.Given as goal

abbrev pub invariant-loop-i : goal.invariant-loop-i
invariant-loop-i l = (length l.out ≡ length l.initial.out) × Wrote l.initial.out l.out l.at (l.at + l.i) (take l.i l.text)
