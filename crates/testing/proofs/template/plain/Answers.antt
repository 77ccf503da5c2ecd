-- `testing::template::plain` puts what a byte stands for in each turn, if there is room.
use Rattle.testing.proofs.Putting.{more}
use Rattle.testing.proofs.template.plain.Goals as goal

pub loop-b-preserved : goal.loop-b-preserved
loop-b-preserved c = more c.loop-b.invariant c.next-p.ensures
