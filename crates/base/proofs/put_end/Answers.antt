-- `base::put_end` meets its contract.
use Rattle.base.proofs.Lists.{then}
use Rattle.base.proofs.put_end.Goals as goal

pub returns : goal.returns
returns c = then c.put_byte-p.ensures c.put_byte.ensures
