-- `trace::head` finds the end of the first line, and reads it as a version line.
use native.Mathlib.Omega.{arith}
use lib.Seq.{length-slice}
use Rattle.trace.proofs.Pieces.{part_slice, line_there}
use Rattle.trace.proofs.Opening.{absent_first, open_first, long_first, other_first}
use Rattle.trace.proofs.head.Goals as goal

pub returns-then-text-eq0 : goal.returns-then-text-eq0
returns-then-text-eq0 c = rw c.at.ensures (absent_first _ c.requires c.if-text-eq0.true)

pub returns-in_default : goal.returns-in_default
returns-in_default c = rw c.at-in_default.ensures (open_first _ c.requires c.if-text-eq0.false c.in_default.ensures)

pub returns-then-e-gt-LINE_LIMIT : goal.returns-then-e-gt-LINE_LIMIT
returns-then-e-gt-LINE_LIMIT c =
    let h = c.in-Some.ensures in
    rw c.at-then-e-gt-LINE_LIMIT.ensures (long_first _ c.requires h.2 (omega (arith, length-slice 0 c.in-Some.e c.args.text.now (omega arith))))

pub returns-in_default-version_line : goal.returns-in_default-version_line
returns-in_default-version_line c =
    let h = c.in-Some.ensures in
    let q = part_slice 0 c.in-Some.e c.args.text.now (omega arith) (omega arith) in
    rw c.at-in_default-version_line.ensures (other_first _ c.requires (line_there h (omega arith)).is (λ v x. c.in_default-version_line.ensures v (rw (← q) at x)))
