-- `record::past` meets its contract.
use Prim.Native.Nat.{◌*◌, ◌%◌, ◌^◌}
use lib.Dec.{eqb}
use Rattle.base.proofs.Tests.{same_test, equal}
use Rattle.record.proofs.Shift.{zero_past, past_zero}
use Rattle.record.proofs.past.Goals as goal

pub returns-else-len-eq8 : goal.returns-else-len-eq8
returns-else-len-eq8 c =
    let a = c.args in
    let n = a.d * 2 ^ (a.len * 8) % 2 ^ 64 in
    same_test (eqb n 0) (zero_past a.d a.len c.requires) (past_zero a.d a.len c.requires) (equal n 0)
