-- `row_writer::number_length` meets its contract.
use native.Mathlib.Omega.{arith}
use Rattle.digits.proofs.House.{word_few}
use Rattle.row_writer.proofs.Columns.{length_number}
use Rattle.row_writer.proofs.number_length.Goals as goal

pub overflow_add-result : goal.overflow_add-result
overflow_add-result c = omega (arith, word_few c.args.k (omega arith))

pub returns : goal.returns
returns c = omega (arith, word_few c.args.k (omega arith), length_number c.args.k)
