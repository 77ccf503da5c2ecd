-- `stages::error::error_first` takes the first byte of an error frame off.
use mathlib.Core.Path.{refl}
use Rattle.row.proofs.Moves.{refused}
use Rattle.row.proofs.Warnings.{after_first, error_first_barred, error_first_went}
use Rattle.stages.proofs.error.error_first.Goals as goal

pub returns-in_err-s : goal.returns-in_err-s
returns-in_err-s c = rw c.from_residual.ensures (refused c.in_err-s.ensures (λ f fs r h. let a = after_first h.1 in (a.0, a.2)))

pub returns-then-s-gt1 : goal.returns-then-s-gt1
returns-then-s-gt1 c =
    error_first_barred c.args.p c.if-s-gt1.true c.in_ok-s.ensures

pub returns : goal.returns
returns c = rw c.known.ensures (error_first_went c.args.p _ refl refl c.if-s-gt1.false c.in_ok-s.ensures)
