-- `ascii_reader::line_at` takes the line that was read in the window, if an end stands behind it.
use native.Mathlib.Omega.{arith}
use Rattle.trace.proofs.Rows.{lined}
use Rattle.ascii_reader.specs.inner.Ends.{cr_all_length}
use Rattle.ascii_reader.proofs.Windows.{end_near, not_read, not_ended, line_here}
use Rattle.ascii_reader.proofs.line_at.Goals as goal

pub line_in-requires : goal.line_in-requires
line_in-requires c = lined c.requires.0 (rw (cr_all_length c.args.text.now) c.requires.1)

pub returns-in_err-x : goal.returns-in_err-x
returns-in_err-x c = rw c.from_residual.ensures (not_read c.args.text.now c.requires.0 c.requires.1 c.in_err-x.ensures)

pub overflow_add-from : goal.overflow_add-from
overflow_add-from c = omega (arith, c.requires.1, end_near c.args.text.now c.requires.0 c.requires.1 c.in_ok-x.ensures)

pub after_end-requires : goal.after_end-requires
after_end-requires c = (end_near c.args.text.now c.requires.0 c.requires.1 c.in_ok-x.ensures).0

pub returns-in_err-next : goal.returns-in_err-next
returns-in_err-next c = rw c.from_residual-in_err-next.ensures (not_ended c.args.text.now c.requires.0 c.requires.1 c.in_ok-x.ensures c.in_err-next.ensures)

pub returns : goal.returns
returns c = line_here c.args.text.now c.requires.0 c.requires.1 c.in_ok-x.ensures c.in_ok-next.ensures
