-- `ascii_line_reader::frame::frame_direction` reads the direction, and goes on behind it.
use Rattle.ascii_line_reader.proofs.Walk.{part_lined}
use Rattle.ascii_line_reader.proofs.Chain.{over, stop, link}
use Rattle.ascii_line_reader.proofs.Stages.{direction_stage}
use Rattle.ascii_line_reader.proofs.frame.frame_direction.Goals as goal

pub returns-in_default : goal.returns-in_default
returns-in_default c = over (direction_stage _ _) c.in_default.ensures

pub returns-in_err-s : goal.returns-in_err-s
returns-in_err-s c = rw c.from_residual.ensures (stop (direction_stage _ _) c.in-Field.ensures c.in_err-s.ensures)

pub frame_id-requires : goal.frame_id-requires
frame_id-requires c = (part_lined c.in-Field.ensures.starts c.in_ok-s.ensures, c.requires.1)

pub returns : goal.returns
returns c = link (direction_stage _ _) c.in-Field.ensures c.in_ok-s.ensures c.frame_id.result c.frame_id.ensures
