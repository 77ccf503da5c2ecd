-- `testing::template::data` puts a blank and a data byte in each turn, if there is room.
use Rattle.testing.specs.Putting.{Puts}
use Rattle.testing.proofs.template.data.Given as goal

abbrev pub invariant-loop-i : goal.invariant-loop-i
invariant-loop-i l = Puts l.initial.out l.out l.at l.p
