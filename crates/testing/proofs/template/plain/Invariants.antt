-- `testing::template::plain` puts what a byte stands for in each turn, if there is room.
use Rattle.testing.specs.Putting.{Puts}
use Rattle.testing.proofs.template.plain.Given as goal

abbrev pub invariant-loop-b : goal.invariant-loop-b
invariant-loop-b l = Puts l.initial.out l.out l.at l.p
