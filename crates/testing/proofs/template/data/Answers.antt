-- `testing::template::data` puts a blank and a data byte in each turn, if there is room.
use Rattle.testing.proofs.Putting.{more}
use Rattle.testing.proofs.template.data.Goals as goal

pub loop-i-preserved : goal.loop-i-preserved
loop-i-preserved c = more (more c.loop-i.invariant c.put_one-p.ensures) c.hexadecimal-p.ensures

-- after the last turn
pub returns-2 : goal.returns-2
returns-2 c = more (more c.loop-i.invariant c.put_one-p.ensures) c.hexadecimal-p.ensures
