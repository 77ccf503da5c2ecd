-- `ascii_reader::fill` keeps: the records of the lines up to `at` stand in the output, and the window holds bytes of the text.
use Prim.Native.Nat.{◌-◌, ◌≤◌}
use lib.ListN.{length}
use Rattle.trace.specs.inner.Passes.{Windowed}
use Rattle.ascii_reader.specs.inner.Ends.{cr_for_all}
use Rattle.ascii_reader.proofs.Filling.{Filling}
use Rattle.ascii_reader.proofs.fill.Given as goal

abbrev pub invariant-loop-at : goal.invariant-loop-at
invariant-loop-at l = Filling l.start l.text l.initial.out l.out l.at l.o l.last × Windowed (cr_for_all l.text) l.base l.w × (l.base ≤ l.at)

abbrev pub decreases-loop-at : goal.decreases-loop-at
decreases-loop-at l = length l.text - l.at
