-- `row_reader::row_in` starts at the row number.
use native.Mathlib.Omega.{arith}
use Rattle.row_reader.proofs.Chain.{no_row, whole_row}
use Rattle.row_reader.proofs.row_in.Goals as goal

pub returns-in-0 : goal.returns-in-0
returns-in-0 c = λ line l. no_row c.in-0.is (c.gap_number.ensures line l)

pub returns-in_default : goal.returns-in_default
returns-in_default c = λ line l. whole_row (λ z. omega arith) (c.gap_number.ensures line l)
