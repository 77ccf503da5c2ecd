-- `ascii_line_reader::frame::frame_length` reads the length, and goes on behind it.
use Rattle.ascii_line_reader.proofs.Walk.{part_lined}
use Rattle.ascii_line_reader.proofs.Chain.{over, stop, link}
use Rattle.ascii_line_reader.proofs.Stages.{length_stage}
use Rattle.ascii_line_reader.proofs.frame.frame_length.Goals as goal

pub returns-in_default : goal.returns-in_default
returns-in_default c = over (length_stage _ _ _ _) c.in_default.ensures

pub returns-in_err-s : goal.returns-in_err-s
returns-in_err-s c = rw c.from_residual.ensures (stop (length_stage _ _ _ _) c.in-Field.ensures c.in_err-s.ensures)

pub frame_data-requires : goal.frame_data-requires
frame_data-requires c = part_lined c.in-Field.ensures.starts c.in_ok-s.ensures

pub returns : goal.returns
returns c = link (length_stage _ _ _ _) c.in-Field.ensures c.in_ok-s.ensures c.frame_data.result c.frame_data.ensures
