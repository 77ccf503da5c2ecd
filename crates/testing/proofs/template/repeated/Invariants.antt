-- `testing::template::repeated` puts a byte in each turn, if there is room.
use Rattle.testing.specs.Putting.{Puts}
use Rattle.testing.proofs.template.repeated.Given as goal

abbrev pub invariant-loop : goal.invariant-loop
invariant-loop l = Puts l.initial.out l.out l.at l.p
