-- `testing::template::repeated` puts a byte in each turn, if there is room.
use Rattle.testing.proofs.Putting.{more}
use Rattle.testing.proofs.template.repeated.Goals as goal

pub loop-preserved : goal.loop-preserved
loop-preserved c = more c.loop.invariant c.put_one-p.ensures
