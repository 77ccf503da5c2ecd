-- `stages::frame::length` takes a frame's length off.
use mathlib.Core.Path.{refl}
use Rattle.row.proofs.Moves.{refused}
use Rattle.row.proofs.Columns.{after_length, length_went}
use Rattle.stages.proofs.frame.length.Goals as goal

pub returns-in_err-s : goal.returns-in_err-s
returns-in_err-s c = rw c.from_residual.ensures (refused c.in_err-s.ensures (λ f fs r h. (r.len, (after_length h.1).0)))

pub returns : goal.returns
returns c =
    rw c.bytes_left.ensures (length_went c.args.p _ c.requires.1.0 refl refl refl c.requires.1.1 c.in_ok-s.ensures)
