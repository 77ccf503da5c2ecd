-- `testing::template::fill` puts a part of the line, and the text that is given, in each turn, if there is room; the bytes left fall.
use Prim.Native.Nat.{◌≤◌, ◌-◌}
use lib.ListN.{length}
use Rattle.testing.specs.Putting.{Puts}
use Rattle.testing.proofs.template.fill.Given as goal

abbrev pub invariant-loop-at : goal.invariant-loop-at
invariant-loop-at l = Puts l.initial.out l.out 0 l.p × (l.at ≤ length l.line)

abbrev pub decreases-loop-at : goal.decreases-loop-at
decreases-loop-at l = length l.line - l.at
