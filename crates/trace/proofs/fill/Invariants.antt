-- `trace::fill` keeps: the records of the lines up to `at` stand in the output, and the window holds bytes of the text.
use Prim.Native.Nat.{◌-◌, ◌≤◌}
use lib.ListN.{length}
use Rattle.trace.specs.inner.Passes.{Windowed}
use Rattle.trace.proofs.Filling.{Filling}
use Rattle.trace.proofs.fill.Given as goal

abbrev pub invariant-loop-at : goal.invariant-loop-at
invariant-loop-at l =
    Filling l.first l.text l.initial.out l.out l.version l.at l.o l.done l.last l.back × Windowed l.text l.base l.w × (l.base ≤ l.at)

abbrev pub decreases-loop-at : goal.decreases-loop-at
decreases-loop-at l = length l.text - l.at
