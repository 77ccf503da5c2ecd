-- `base::put_three` meets its contract.
use Rattle.base.proofs.Lists.{then}
use Rattle.base.proofs.put_three.Goals as goal

pub returns : goal.returns
returns c =
    let q = c in
    let p = q in
    then p.put_byte-p.ensures (then q.put_byte-q.ensures c.put_byte.ensures)
