-- `trace::second` finds the end of the second line, and reads it as a start line.
use native.Mathlib.Omega.{arith}
use lib.Seq.{length-slice}
use Rattle.trace.proofs.Pieces.{part_slice, line_there}
use Rattle.trace.proofs.Opening.{absent_second, open_second, long_second, other_second, both_lines}
use Rattle.trace.proofs.second.Goals as goal

pub returns-then-text-at : goal.returns-then-text-at
returns-then-text-at c = let p = c.requires in rw c.at.ensures (absent_second _ p.1 p.0 c.if-text-at.true)

pub returns-in_default : goal.returns-in_default
returns-in_default c = let p = c.requires in rw c.at-in_default.ensures (open_second _ p.1 p.0 c.if-text-at.false c.in_default.ensures)

pub returns-then-e-at-gt-LINE_LIMIT : goal.returns-then-e-at-gt-LINE_LIMIT
returns-then-e-at-gt-LINE_LIMIT c =
    let p = c.requires in
    let a = c.args in
    let h = c.in-Some.ensures in
    rw c.at-then-e-at-gt-LINE_LIMIT.ensures (long_second _ p.1 p.0 h.2 (omega (arith, length-slice a.at c.in-Some.e a.text.now (omega arith))))

pub returns-in_default-start_line : goal.returns-in_default-start_line
returns-in_default-start_line c =
    let p = c.requires in
    let h = c.in-Some.ensures in
    let q = part_slice c.args.at c.in-Some.e c.args.text.now (omega arith) (omega arith) in
    rw c.at-in_default-start_line.ensures (other_second _ p.1 p.0 (line_there h (omega arith)).is (λ s x. c.in_default-start_line.ensures s (rw (← q) at x)))

pub returns : goal.returns
returns c =
    let p = c.requires in
    let h = c.in-Some.ensures in
    let q = part_slice c.args.at c.in-Some.e c.args.text.now (omega arith) (omega arith) in
    both_lines _ p.1 p.0 (line_there h (omega arith)) (rw q at c.in-Some-start_line.ensures)
