-- `row_writer::put_head` meets its contract.
use native.Mathlib.Omega.{arith}
use Rattle.base.proofs.Lists.{then}
use Rattle.row_writer.proofs.Rows.{head_cut, head_length_lem}
use Rattle.row_writer.proofs.put_head.Goals as goal

pub put_number-p-requires : goal.put_number-p-requires
put_number-p-requires c = omega (arith, head_length_lem c.args.version c.args.k c.args.r)

pub put_offset-q-requires : goal.put_offset-q-requires
put_offset-q-requires c = omega (arith, head_length_lem c.args.version c.args.k c.args.r)

pub put_bus-requires : goal.put_bus-requires
put_bus-requires c = let a = c.args in omega (arith, head_length_lem a.version a.k a.r)

pub returns : goal.returns
returns c =
    let a = c.args in
    rw (head_cut a.version a.k a.r) (then c.put_number-p.ensures (then c.put_offset-q.ensures c.put_bus.ensures))
