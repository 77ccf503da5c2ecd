-- `ascii_line::put_line_frame` meets its contract.
use Rattle.base.proofs.Lists.{then}
use Rattle.ascii_line.proofs.put_line_frame.Goals as goal

pub returns : goal.returns
returns c = then c.put_source-p.ensures (then c.put_decimal-q.ensures (then c.put_way-s.ensures c.put_rest.ensures))
