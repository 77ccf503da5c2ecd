-- `ascii_line_reader::frame::frame_extended` reads `EXTENDED` for an extended ID, and goes on behind it.
use native.Mathlib.Omega.{arith}
use Rattle.ascii_line_reader.proofs.Walk.{part_lined}
use Rattle.ascii_line_reader.proofs.Parts.{solid_word}
use Rattle.ascii_line_reader.proofs.Chain.{over, stop, link}
use Rattle.ascii_line_reader.proofs.Stages.{one, extended_stage, no_extended}
use Rattle.ascii_line_reader.proofs.frame.frame_extended.Goals as goal

pub returns-then-extended-eq0 : goal.returns-then-extended-eq0
returns-then-extended-eq0 c = no_extended c.args.bus c.frame_direction.result c.if-extended-eq0.true c.frame_direction.ensures

pub returns-in_default : goal.returns-in_default
returns-in_default c = over (extended_stage _ _ (one c.if-extended-eq0.false c.requires.1)) c.in_default.ensures

pub keyword-requires : goal.keyword-requires
keyword-requires c = (c.in-Field.ensures.starts, solid_word _ tt, omega arith)

pub returns-in_err-s : goal.returns-in_err-s
returns-in_err-s c = rw c.from_residual.ensures (stop (extended_stage _ _ (one c.if-extended-eq0.false c.requires.1)) c.in-Field.ensures c.in_err-s.ensures)

pub frame_direction-requires-2 : goal.frame_direction-requires-2
frame_direction-requires-2 c = (part_lined c.in-Field.ensures.starts c.in_ok-s.ensures, c.requires.1)

pub returns : goal.returns
returns c = link (extended_stage _ _ (one c.if-extended-eq0.false c.requires.1)) c.in-Field.ensures c.in_ok-s.ensures c.frame_direction-2.result c.frame_direction-2.ensures
