-- `ascii_line_reader::frame::frame_channel` reads the channel, and goes on behind it.
use Rattle.ascii_line_reader.proofs.Walk.{part_lined}
use Rattle.ascii_line_reader.proofs.Chain.{over, stop, link}
use Rattle.ascii_line_reader.proofs.Stages.{channel_stage}
use Rattle.ascii_line_reader.proofs.frame.frame_channel.Goals as goal

pub returns-in_default : goal.returns-in_default
returns-in_default c = over (channel_stage _) c.in_default.ensures

pub returns-in_err-s : goal.returns-in_err-s
returns-in_err-s c = rw c.from_residual.ensures (stop (channel_stage _) c.in-Field.ensures c.in_err-s.ensures)

pub frame_bar-requires : goal.frame_bar-requires
frame_bar-requires c = (part_lined c.in-Field.ensures.starts c.in_ok-s.ensures, c.requires.1)

pub returns : goal.returns
returns c = link (channel_stage _) c.in-Field.ensures c.in_ok-s.ensures c.frame_bar.result c.frame_bar.ensures
