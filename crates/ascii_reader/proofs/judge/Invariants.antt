-- `ascii_reader::judge` keeps: the lines up to `at` are judged, and spell the start and as many records; the window holds bytes of the text.
use Prim.Native.Nat.{◌-◌, ◌≤◌}
use lib.ListN.{length}
use Rattle.trace.specs.inner.Passes.{Windowed}
use Rattle.ascii_reader.specs.inner.Ends.{cr_for_all}
use Rattle.ascii_reader.proofs.Judging.{Judging}
use Rattle.ascii_reader.proofs.judge.Given as goal

abbrev pub invariant-loop-at : goal.invariant-loop-at
invariant-loop-at l = Judging l.text l.at l.lines l.start × Windowed (cr_for_all l.text) l.base l.w × (l.base ≤ l.at)

abbrev pub decreases-loop-at : goal.decreases-loop-at
decreases-loop-at l = length l.text - l.at
