-- `row_writer::put_id` meets its contract.
use native.Mathlib.Omega.{arith}
use Rattle.base.proofs.Lists.{then}
use Rattle.row.proofs.Texts.{id_warning, id_frame}
use Rattle.row_writer.proofs.Columns.{length_warning_id, length_frame_id}
use Rattle.row_writer.proofs.put_id.Goals as goal

pub put_hex-requires : goal.put_hex-requires
put_hex-requires c = omega (arith, length_warning_id c.args.r c.if-r-eq4.true)

pub returns-then-r-eq4 : goal.returns-then-r-eq4
returns-then-r-eq4 c =
    let e = id_warning c.args.r c.if-r-eq4.true in
    rw e (then c.put_byte-p.ensures c.put_hex.ensures.wrote)

pub put_hex-requires-2 : goal.put_hex-requires-2
put_hex-requires-2 c = omega (arith, length_frame_id c.args.r c.if-r-eq4.false)

pub returns : goal.returns
returns c =
    let e = id_frame c.args.r c.if-r-eq4.false in
    rw e (then c.put_byte-p.ensures c.put_hex-2.ensures.wrote)
