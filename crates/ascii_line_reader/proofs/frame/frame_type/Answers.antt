-- `ascii_line_reader::frame::frame_type` reads the type, and goes on behind it.
use Rattle.ascii_line_reader.proofs.Walk.{part_lined}
use Rattle.ascii_line_reader.proofs.Chain.{over, stop, link}
use Rattle.ascii_line_reader.proofs.Stages.{type_stage}
use Rattle.ascii_line_reader.proofs.frame.frame_type.Goals as goal

pub returns-in_default : goal.returns-in_default
returns-in_default c = over type_stage c.in_default.ensures

pub returns-in_err-s : goal.returns-in_err-s
returns-in_err-s c = rw c.from_residual.ensures (stop type_stage c.in-Field.ensures c.in_err-s.ensures)

pub frame_channel-requires : goal.frame_channel-requires
frame_channel-requires c = (part_lined c.in-Field.ensures.starts c.in_ok-s.ensures, c.in_ok-s.ensures.has.few)

pub returns : goal.returns
returns c = link type_stage c.in-Field.ensures c.in_ok-s.ensures c.frame_channel.result c.frame_channel.ensures
