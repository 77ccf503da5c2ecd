-- `ascii_reader::fill` keeps: the records of the lines up to `at` stand in the output, and the window holds bytes of the text.
use native.Mathlib.Omega.{arith}
use Rattle.ascii_reader.proofs.Filling.{filling, stamp_low, no_fault, line_room, stored_line, some_line, filled}
use Rattle.ascii_reader.proofs.fill.Goals as goal

pub loop-at-init : goal.loop-at-init
loop-at-init c = (filling c.requires, c.fill_window.ensures, omega arith)

pub returns-in_default : goal.returns-in_default
returns-in_default c = absurd (some_line c.loop-at.invariant.0 c.loop-at-test.true c.in_default.ensures)

pub offset_of-requires : goal.offset_of-requires
offset_of-requires c = stamp_low c.loop-at.invariant.0 c.in-Some.ensures

pub returns-in_default-offset_of : goal.returns-in_default-offset_of
returns-in_default-offset_of c = absurd (no_fault c.loop-at.invariant.0 c.in-Some.ensures c.in_default-offset_of.ensures)

pub put_record-requires : goal.put_record-requires
put_record-requires c = line_room c.loop-at.invariant.0 c.in-Some.ensures c.in-Ok.ensures c.mark_after.ensures

pub loop-at-preserved : goal.loop-at-preserved
loop-at-preserved c =
    let f = c.in-Some.ensures in
    let w = c.window_at-base.ensures in
    let a = f.later in
    (stored_line c.loop-at.invariant.0 f c.in-Ok.ensures c.mark_after.ensures c.put_record.ensures, w.windowed, omega (arith, w.starts))

pub returns : goal.returns
returns c = filled c.loop-at.invariant.0 c.loop-at-test.false
