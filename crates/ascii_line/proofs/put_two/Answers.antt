-- `ascii_line::put_two` meets its contract.
use borrow.Author.Rules.{rules}
use Rattle.base.proofs.Lists.{then}
use Rattle.ascii_line.proofs.put_two.Goals as goal

pub returns : goal.returns
returns c = record { wrote = then c.put_padded-p.ensures.wrote (then c.put_byte-q.ensures (then c.put_padded-s.ensures.wrote c.put_byte.ensures)); value = search rules }
