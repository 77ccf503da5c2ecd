-- `row_writer::put_row` meets its contract.
use native.Mathlib.Omega.{arith}
use Rattle.base.proofs.Lists.{then}
use Rattle.row_writer.proofs.Rows.{row_cut, row_length_lem}
use Rattle.row_writer.proofs.put_row.Goals as goal

pub put_head-p-requires : goal.put_head-p-requires
put_head-p-requires c = omega (arith, row_length_lem c.args.version c.args.k c.args.r)

pub put_frame-requires : goal.put_frame-requires
put_frame-requires c =
    let a = c.args in
    record {
      well_formed = (c.requires.well_formed.0, omega (arith, row_length_lem a.version a.k a.r));
      capital = c.requires.capital;
    }

pub returns : goal.returns
returns c =
    let a = c.args in
    rw (row_cut a.version a.k a.r) (then c.put_head-p.ensures c.put_frame.ensures)
