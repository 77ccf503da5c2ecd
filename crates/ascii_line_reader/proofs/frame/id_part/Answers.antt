-- `ascii_line_reader::frame::id_part` takes a hexadecimal number by its width and its limit.
use native.Mathlib.Omega.{arith}
use Rattle.ascii_line_reader.proofs.Parts.{no_hex, id_is, id_taken}
use Rattle.ascii_line_reader.proofs.frame.id_part.Goals as goal

pub returns-in_err-s : goal.returns-in_err-s
returns-in_err-s c = rw c.from_residual.ensures (no_hex c.args.w.now c.args.at c.requires.1 c.in_err-s.ensures)

pub returns-then-e-at : goal.returns-then-e-at
returns-then-e-at c = λ f rest a v p. let g = (id_is c.requires.1 c.in_ok-s.ensures a p).0 in let n = c.if-e-at.true in omega arith

pub returns-then-extended-s : goal.returns-then-extended-s
returns-then-extended-s c = λ f rest a v p. let g = (id_is c.requires.1 c.in_ok-s.ensures a p).1 in omega arith

pub returns : goal.returns
returns c =
    let g = c.in_ok-s.ensures.place in
    id_taken c.requires.1 c.in_ok-s.ensures (omega arith) (omega arith)
