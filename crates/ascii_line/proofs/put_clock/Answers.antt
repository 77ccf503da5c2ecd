-- `ascii_line::put_clock` meets its contract.
use borrow.Author.Rules.{rules}
use Rattle.base.proofs.Lists.{then}
use Rattle.ascii_line.proofs.Texts.{clock}
use Rattle.ascii_line.proofs.put_clock.Goals as goal

pub returns : goal.returns
returns c = record { wrote = rw clock (then c.put_two-p.ensures.wrote (then c.put_padded-q.ensures.wrote c.put_byte.ensures)); value = search rules }
