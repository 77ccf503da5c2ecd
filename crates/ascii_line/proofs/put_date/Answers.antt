-- `ascii_line::put_date` meets its contract.
use borrow.Author.Rules.{rules}
use Rattle.base.proofs.Lists.{then}
use Rattle.ascii_line.proofs.Texts.{date}
use Rattle.ascii_line.proofs.put_date.Goals as goal

pub returns : goal.returns
returns c = record { wrote = rw date (then c.put_two-p.ensures.wrote c.put_padded.ensures.wrote); value = search rules }
