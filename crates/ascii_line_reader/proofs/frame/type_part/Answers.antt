-- `ascii_line_reader::frame::type_part` reads `CAN` or, where that does not stand, `CANExt`.
use native.Mathlib.Omega.{arith}
use Rattle.ascii_line_reader.proofs.Parts.{solid_word, standard_type, extended_type, neither_type}
use Rattle.ascii_line_reader.proofs.frame.type_part.Goals as goal

pub keyword-requires : goal.keyword-requires
keyword-requires c = (c.requires, solid_word _ tt, omega arith)

pub keyword-requires-2 : goal.keyword-requires-2
keyword-requires-2 c = (c.requires, solid_word _ tt, omega arith)

pub returns-in-Some : goal.returns-in-Some
returns-in-Some c = standard_type c.in-Some.ensures

pub returns-in_err-t : goal.returns-in_err-t
returns-in_err-t c = rw c.from_residual.ensures (neither_type c.args.w.now c.args.at c.in_default.ensures c.in_err-t.ensures)

pub returns : goal.returns
returns c = extended_type c.in_ok-t.ensures
