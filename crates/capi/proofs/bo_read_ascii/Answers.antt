-- `capi::bo_read_ascii` hands out the number of the reason.
use Rattle.capi.proofs.bo_read_ascii.Goals as goal

pub returns-in-Err : goal.returns-in-Err
returns-in-Err c = rw c.number.ensures c.in-Err.ensures.read_ascii_promise
