-- `ascii_line_reader::frame::frame_bar` reads the bar, and goes on behind it.
use native.Mathlib.Omega.{arith}
use Rattle.ascii_line_reader.proofs.Walk.{part_lined}
use Rattle.ascii_line_reader.proofs.Parts.{solid_word}
use Rattle.ascii_line_reader.proofs.Chain.{over, stop, link}
use Rattle.ascii_line_reader.proofs.Stages.{bar_stage}
use Rattle.ascii_line_reader.proofs.frame.frame_bar.Goals as goal

pub returns-in_default : goal.returns-in_default
returns-in_default c = over (bar_stage _ _) c.in_default.ensures

pub keyword-requires : goal.keyword-requires
keyword-requires c = (c.in-Field.ensures.starts, solid_word _ tt, omega arith)

pub returns-in_err-s : goal.returns-in_err-s
returns-in_err-s c = rw c.from_residual.ensures (stop (bar_stage _ _) c.in-Field.ensures c.in_err-s.ensures)

pub frame_extended-requires : goal.frame_extended-requires
frame_extended-requires c = (part_lined c.in-Field.ensures.starts c.in_ok-s.ensures, c.requires.1)

pub returns : goal.returns
returns c = link (bar_stage _ _) c.in-Field.ensures c.in_ok-s.ensures c.frame_extended.result c.frame_extended.ensures
