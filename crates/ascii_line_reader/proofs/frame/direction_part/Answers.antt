-- `ascii_line_reader::frame::direction_part` takes the first two types of a row.
use Rattle.ascii_line_reader.proofs.Parts.{no_direction, other_direction, direction_taken}
use Rattle.ascii_line_reader.proofs.frame.direction_part.Goals as goal

pub returns-in_err-s : goal.returns-in_err-s
returns-in_err-s c = rw c.from_residual.ensures (no_direction c.args.w.now c.args.at c.in_err-s.ensures)

pub returns-then-s-gt1 : goal.returns-then-s-gt1
returns-then-s-gt1 c = other_direction c.if-s-gt1.true c.in_ok-s.ensures

pub returns : goal.returns
returns c = direction_taken c.if-s-gt1.false c.in_ok-s.ensures
