-- `ascii_reader::window::cr_for` gives CR for LF, and every other byte as it is.
use mathlib.Core.Path.{sym}
use Rattle.ascii_reader.proofs.Ends.{cr_for_feed, cr_for_other}
use Rattle.ascii_reader.proofs.window.cr_for.Goals as goal

pub returns-then-b-eq10 : goal.returns-then-b-eq10
returns-then-b-eq10 c = sym (cr_for_feed c.args.b c.if-b-eq10.true)

pub returns : goal.returns
returns c = sym (cr_for_other c.args.b c.if-b-eq10.false)
