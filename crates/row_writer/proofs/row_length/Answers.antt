-- `row_writer::row_length` meets its contract.
use native.Mathlib.Omega.{arith}
use Rattle.row_writer.proofs.Rows.{row_length_lem, head_length_lem, frame_length}
use Rattle.row_writer.proofs.row_length.Goals as goal

pub returns : goal.returns
returns c =
    let a = c.args in
    omega (arith, row_length_lem a.version a.k a.r, head_length_lem a.version a.k a.r, frame_length a.r)
