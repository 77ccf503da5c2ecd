-- `trace::other_at` finds the line's end, and reads it as a comment.
use native.Mathlib.Omega.{arith}
use lib.Seq.{length-slice}
use Rattle.trace.specs.inner.Passes.{unended, long, dollar, other}
use Rattle.trace.proofs.Pieces.{part_slice, line_there}
use Rattle.trace.proofs.other_at.Goals as goal

pub returns-in_default : goal.returns-in_default
returns-in_default c = unended c.in_default.ensures

pub returns-then-e-at-gt-LINE_LIMIT : goal.returns-then-e-at-gt-LINE_LIMIT
returns-then-e-at-gt-LINE_LIMIT c =
    let h = c.in-Some.ensures in
    let a = c.args in
    long h.2 (omega (arith, length-slice a.at c.in-Some.e a.text.now (omega arith)))

pub returns-in-Dollar : goal.returns-in-Dollar
returns-in-Dollar c =
    let h = c.in-Some.ensures in
    let q = part_slice c.args.at c.in-Some.e c.args.text.now (omega arith) (omega arith) in
    dollar (line_there h (omega arith)).is (rw q at c.in-Dollar.ensures)

pub returns-in-Neither : goal.returns-in-Neither
returns-in-Neither c =
    let h = c.in-Some.ensures in
    let q = part_slice c.args.at c.in-Some.e c.args.text.now (omega arith) (omega arith) in
    let m = c.in-Neither.ensures in
    other (line_there h (omega arith)).is (λ x. m.0 (rw (← q) at x)) (λ x. m.1 (rw (← q) at x))
