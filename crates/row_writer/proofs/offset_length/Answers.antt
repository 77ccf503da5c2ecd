-- `row_writer::offset_length` meets its contract.
use Prim.Native.Nat.{◌/◌}
use native.Mathlib.Omega.{arith}
use Rattle.digits.proofs.House.{word_few}
use Rattle.row.proofs.EachVersion.{digits_few}
use Rattle.row_writer.proofs.Columns.{length_offset}
use Rattle.row_writer.proofs.offset_length.Goals as goal

pub overflow_add-result : goal.overflow_add-result
overflow_add-result c = let a = c.args in omega (arith, word_few (a.offset / 1000) (omega arith))

pub overflow_add-result-2 : goal.overflow_add-result-2
overflow_add-result-2 c = let a = c.args in omega (arith, word_few (a.offset / 1000) (omega arith), digits_few a.version)

pub returns : goal.returns
returns c =
    let a = c.args in
    omega (arith, word_few (a.offset / 1000) (omega arith), length_offset a.version a.offset, digits_few a.version)
