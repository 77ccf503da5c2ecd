-- `record::put_record` meets its contract.
use native.Mathlib.Omega.{arith}
use Rattle.record.proofs.Words.{widths, stored_words}
use Rattle.record.proofs.put_record.Goals as goal

pub returns : goal.returns
returns c =
    let a = c.args in
    let t = c.requires in
    stored_words a.r (widths t.1) t.2 a.out.now _ _ _ a.at _ _ _ _ _ c.put.ensures c.put-2.ensures c.put-3.ensures
    (omega arith) (omega arith) (omega arith) c.middle.ensures (omega arith)
