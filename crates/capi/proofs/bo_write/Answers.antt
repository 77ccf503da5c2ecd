-- `capi::bo_write` hands out the number of the reason.
use Rattle.capi.proofs.bo_write.Goals as goal

pub returns-in-Ok : goal.returns-in-Ok
returns-in-Ok c = rw c.from.ensures at c.in-Ok.ensures

pub returns-in-Err : goal.returns-in-Err
returns-in-Err c = rw c.number.ensures (rw c.from.ensures at c.in-Err.ensures)
