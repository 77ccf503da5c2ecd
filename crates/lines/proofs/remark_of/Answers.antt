-- `lines::remark_of` goes by the byte behind `;` and blanks.
use native.Mathlib.Omega.{arith}
use Rattle.lines.specs.inner.Parts.{Opened}
use Rattle.lines.proofs.Lines.{comment_over, comment_other}
use Rattle.lines.proofs.remark_of.Goals as goal

pub returns-then-a-line : goal.returns-then-a-line
returns-then-a-line c = comment_over (rw c.in-Some.is at c.opened.ensures) c.if-a-line.true

pub returns : goal.returns
returns c =
    let o : Opened c.args.line.now c.in-Some.a = rw c.in-Some.is at c.opened.ensures in
    let w = o.within in
    let n = c.if-a-line.false in
    comment_other o (omega arith) c.if-line-a-eq36.false
