-- `capi::bo_export` hands out the number of the reason.
use Rattle.capi.proofs.bo_export.Goals as goal

pub returns-in-Err : goal.returns-in-Err
returns-in-Err c = rw c.number.ensures c.in-Err.ensures.export_promise
