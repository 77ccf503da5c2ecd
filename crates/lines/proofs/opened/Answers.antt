-- `lines::opened` finds the place behind `;` and blanks.
use native.Mathlib.Omega.{arith}
use Rattle.lines.proofs.Scans.{blanks_ran, opens}
use Rattle.lines.proofs.opened.Goals as goal

pub returns : goal.returns
returns c = opens (omega arith) c.if-line-ne59.false (blanks_ran c.run_end.ensures)
