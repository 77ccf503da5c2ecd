-- `row_writer::put_number` meets its contract.
use native.Mathlib.Omega.{arith}
use Rattle.base.proofs.Lists.{then}
use Rattle.row.proofs.Texts.{number_text_lem}
use Rattle.row_writer.proofs.Columns.{length_number}
use Rattle.row_writer.proofs.put_number.Goals as goal

pub put-p-requires : goal.put-p-requires
put-p-requires c = omega (arith, length_number c.args.k)

pub put_byte-requires : goal.put_byte-requires
put_byte-requires c = omega (arith, length_number c.args.k)

pub returns : goal.returns
returns c = rw number_text_lem (then c.put-p.ensures c.put_byte.ensures)
