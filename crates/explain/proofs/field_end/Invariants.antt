-- `explain::field_end` keeps: the bytes passed are no blanks.
use Rattle.fields.specs.Parted.{NoBlank}
use Rattle.lines.proofs.Scans.{Passed}
use Rattle.explain.proofs.field_end.Given as goal

abbrev pub invariant-loop-e : goal.invariant-loop-e
invariant-loop-e l = Passed NoBlank l.line l.at l.e
