-- `lines::run_end` keeps: the bytes passed stand between the two.
use Rattle.lines.specs.inner.Parts.{Between}
use Rattle.lines.proofs.Scans.{Passed}
use Rattle.lines.proofs.run_end.Given as goal

abbrev pub invariant-loop-e : goal.invariant-loop-e
invariant-loop-e l = Passed (Between l.first l.last) l.line l.at l.e
