-- `stages::error::error_length` takes the length of an error frame off.
use mathlib.Core.Path.{refl}
use native.Mathlib.Omega.{arith}
use Rattle.row.proofs.Moves.{refused}
use Rattle.row.proofs.Warnings.{after_error_length, error_length_barred, error_length_went}
use Rattle.stages.proofs.error.error_length.Goals as goal

pub returns-in_err-s : goal.returns-in_err-s
returns-in_err-s c = rw c.from_residual.ensures (refused c.in_err-s.ensures (λ f fs r h. (4, (after_error_length h.2).1)))

pub returns-then-s-ne4 : goal.returns-then-s-ne4
returns-then-s-ne4 c =
    error_length_barred c.args.p (λ z. omega arith) c.in_ok-s.ensures

pub returns : goal.returns
returns c =
    rw c.known.ensures (error_length_went c.args.p _ refl refl refl c.requires.1 (omega arith) c.in_ok-s.ensures)
