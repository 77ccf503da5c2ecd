-- `ascii_line_reader::frame::frame_id` reads the ID, and goes on behind it.
use Rattle.ascii_line_reader.proofs.Walk.{part_lined}
use Rattle.ascii_line_reader.proofs.Chain.{over, stop, link}
use Rattle.ascii_line_reader.proofs.Stages.{id_stage}
use Rattle.ascii_line_reader.proofs.frame.frame_id.Goals as goal

pub returns-in_default : goal.returns-in_default
returns-in_default c = over (id_stage _ _ _) c.in_default.ensures

pub returns-in_err-s : goal.returns-in_err-s
returns-in_err-s c = rw c.from_residual.ensures (stop (id_stage _ _ _) c.in-Field.ensures c.in_err-s.ensures)

pub frame_length-requires : goal.frame_length-requires
frame_length-requires c = part_lined c.in-Field.ensures.starts c.in_ok-s.ensures

pub returns : goal.returns
returns c = link (id_stage _ _ _) c.in-Field.ensures c.in_ok-s.ensures c.frame_length.result c.frame_length.ensures
