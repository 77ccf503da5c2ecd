-- `trace::judge` keeps: the lines up to `at` are judged, and spell the rows counted; the window holds bytes of the text.
use Prim.Native.Nat.{◌-◌, ◌≤◌}
use lib.ListN.{length}
use Rattle.trace.specs.inner.Passes.{Windowed}
use Rattle.trace.proofs.Judging.{Judging}
use Rattle.trace.proofs.judge.Given as goal

abbrev pub invariant-loop-at : goal.invariant-loop-at
invariant-loop-at l = Judging l.first l.text l.version l.start l.at l.place l.rows × Windowed l.text l.base l.w × (l.base ≤ l.at)

abbrev pub decreases-loop-at : goal.decreases-loop-at
decreases-loop-at l = length l.text - l.at
