-- `lines::inside_end` keeps: the bytes passed are inside a line.
use Rattle.lines.specs.Lines.{Inside}
use Rattle.lines.proofs.Scans.{Passed}
use Rattle.lines.proofs.inside_end.Given as goal

abbrev pub invariant-loop-e : goal.invariant-loop-e
invariant-loop-e l = Passed Inside l.text l.at l.e
