-- `ascii_line::put_second` meets its contract.
use borrow.Author.Rules.{rules}
use Rattle.base.proofs.Lists.{then}
use Rattle.ascii_line.proofs.Texts.{all_put}
use Rattle.ascii_line.proofs.put_second.Goals as goal

pub returns : goal.returns
returns c = all_put c.args.s (search rules) (then c.put_date-p.ensures.wrote (then c.put_byte-q.ensures c.put_clock.ensures.wrote))
