-- `ascii_reader::judge` keeps: the lines up to `at` are judged, and spell the start and as many records; the window holds bytes of the text.
use native.Mathlib.Omega.{arith}
use Rattle.ascii_reader.proofs.Judging.{judging, first, later, counted_line, refused_stamp, refused_line}
use Rattle.ascii_reader.proofs.judge.Goals as goal
use Rattle.ascii_reader.proofs.judge.Goals.{then-lines-eq0, else-lines-eq0}

pub loop-at-init : goal.loop-at-init
loop-at-init c = (judging c.args.text.now, c.fill_window.ensures, omega arith)

pub returns-in_default : goal.returns-in_default
returns-in_default c = rw c.at.ensures (refused_line c.loop-at.invariant.0 c.loop-at-test.true c.in_default.ensures)

pub returns-in-Err : goal.returns-in-Err
returns-in-Err c =
    rw c.at-in-Err.ensures
    (refused_stamp c.loop-at.invariant.0 c.in-Some.ensures
    (elim c.if-lines-eq0.branch [ then-lines-eq0 w ↦ first w.if-lines-eq0.true w.start-is | else-lines-eq0 w ↦ later w.if-lines-eq0.false w.start-is ])
    c.in-Err.ensures)

pub loop-at-preserved : goal.loop-at-preserved
loop-at-preserved c =
    let f = c.in-Some.ensures in
    let w = c.window_at-base.ensures in
    let a = f.later in
    let b = w.starts in (
      counted_line c.loop-at.invariant.0 f
          (elim c.if-lines-eq0.branch [ then-lines-eq0 w ↦ first w.if-lines-eq0.true w.start-is | else-lines-eq0 w ↦ later w.if-lines-eq0.false w.start-is ])
          c.in_default-offset_of.ensures,
      w.windowed,
      omega arith,
    )
