-- `capi::bo_read` hands out the number of the reason.
use Rattle.capi.proofs.bo_read.Goals as goal

pub returns-in-Err : goal.returns-in-Err
returns-in-Err c = rw c.number.ensures c.in-Err.ensures
