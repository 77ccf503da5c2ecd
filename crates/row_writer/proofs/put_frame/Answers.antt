-- `row_writer::put_frame` meets its contract.
use native.Mathlib.Omega.{arith}
use Rattle.base.proofs.Lists.{then}
use Rattle.row_writer.proofs.Rows.{frame_cut, frame_length}
use Rattle.row_writer.proofs.put_frame.Goals as goal

pub put_type-p-requires : goal.put_type-p-requires
put_type-p-requires c = omega (arith, frame_length c.args.r)

pub put_id-q-requires : goal.put_id-q-requires
put_id-q-requires c = omega (arith, frame_length c.args.r)

pub put_byte-s-requires : goal.put_byte-s-requires
put_byte-s-requires c = omega (arith, frame_length c.args.r)

pub put_byte-t-requires : goal.put_byte-t-requires
put_byte-t-requires c = omega (arith, frame_length c.args.r)

pub put_data-requires : goal.put_data-requires
put_data-requires c = record { in_bounds = omega (arith, frame_length c.args.r); capital = c.requires.capital }

pub returns : goal.returns
returns c =
    let e = frame_cut c.args.r in
    rw e
    (then c.put_type-p.ensures
    (then c.put_id-q.ensures (then c.put_byte-s.ensures (then c.put_byte-t.ensures c.put_data.ensures))))
