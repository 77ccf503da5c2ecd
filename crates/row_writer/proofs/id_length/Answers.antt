-- `row_writer::id_length` meets its contract.
use native.Mathlib.Omega.{arith}
use Rattle.row_writer.proofs.Columns.{length_warning_id, length_frame_id}
use Rattle.row_writer.proofs.id_length.Goals as goal

pub returns-then-r-eq4 : goal.returns-then-r-eq4
returns-then-r-eq4 c = omega (arith, length_warning_id c.args.r c.if-r-eq4.true)

pub returns : goal.returns
returns c = omega (arith, length_frame_id c.args.r c.if-r-eq4.false)
