-- `ascii_line::put_rest` meets its contract.
use Rattle.base.proofs.Lists.{then}
use Rattle.ascii_line.proofs.put_rest.Goals as goal

pub returns : goal.returns
returns c = then c.put_line_id-p.ensures (then c.put_line_data-q.ensures c.put_end.ensures)
