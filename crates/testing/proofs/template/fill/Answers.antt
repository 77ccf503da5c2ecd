-- `testing::template::fill` puts a part of the line, and the text that is given, in each turn, if there is room; the bytes left fall.
use borrow.Author.Rules.{rules}
use Rattle.testing.proofs.Putting.{more}
use Rattle.testing.proofs.template.fill.Goals as goal

pub returns-then-line-end : goal.returns-then-line-end
returns-then-line-end c = more c.loop-at.invariant.0 c.plain-p.ensures

pub loop-at-preserved : goal.loop-at-preserved
loop-at-preserved c = (more (more c.loop-at.invariant.0 c.plain-p.ensures) c.plain-p-in-loop-at.ensures, search rules)
