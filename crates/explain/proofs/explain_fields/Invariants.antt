-- `explain::explain_fields` goes from field to field, after the first.
use Prim.Native.Nat.{◌-◌}
use lib.ListN.{length}
use Rattle.explain.proofs.Answers.{Going}
use Rattle.explain.proofs.explain_fields.Given as goal

abbrev pub invariant-loop-p : goal.invariant-loop-p
invariant-loop-p l = Going l.line l.from l.initial.p l.p l.at l.i

abbrev pub decreases-loop-p : goal.decreases-loop-p
decreases-loop-p l = length l.line - l.at
