-- `ascii_line_reader::stamp::two_then` reads two digits, and the byte behind them.
use mathlib.Core.List.{[], ◌∷◌}
use Rattle.ascii_line_reader.proofs.Digits.{then_none, then_byte, other_byte}
use Rattle.ascii_line_reader.proofs.stamp.two_then.Goals as goal

pub returns-in_err-n : goal.returns-in_err-n
returns-in_err-n c = rw c.from_residual.ensures (then_none 2 (c.args.b ∷ []) c.args.w.now c.args.at c.in_err-n.ensures)

pub returns-then-bytes-at : goal.returns-then-bytes-at
returns-then-bytes-at c = other_byte c.in_ok-n.ensures c.if-bytes-at.true

pub returns : goal.returns
returns c = then_byte c.in_ok-n.ensures c.requires.1 c.if-bytes-at.false
