-- `base::put_text` puts one byte more in each turn.
use borrow.Author.Rules.{rules}
use Rattle.base.proofs.Lists.{put_next}
use Rattle.base.proofs.put_text.Goals as goal

pub loop-i-preserved : goal.loop-i-preserved
loop-i-preserved c = (search rules, put_next c.args.text.now c.loop-i-test.true c.loop-i.invariant.1)
