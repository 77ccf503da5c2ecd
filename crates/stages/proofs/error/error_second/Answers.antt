-- `stages::error::error_second` takes the second byte of an error frame off: a position.
use mathlib.Core.Path.{refl}
use Rattle.base.proofs.Tests.{shown, refuted}
use Rattle.row.proofs.Moves.{refused}
use Rattle.row.proofs.Warnings.{after_second, error_second_barred, error_second_went}
use Rattle.stages.proofs.error.error_second.Goals as goal

pub returns-in_err-s : goal.returns-in_err-s
returns-in_err-s c =
    rw c.from_residual.ensures (refused c.in_err-s.ensures (λ f fs r h. let a = after_second h.bytes in (a.0, a.2)))

pub returns-then-not-position : goal.returns-then-not-position
returns-then-not-position c =
    let b = refuted c.position.result c.if-not-position.true c.position.ensures in
    error_second_barred c.args.p b c.in_ok-s.ensures

pub returns : goal.returns
returns c =
    rw c.bytes_left.ensures
    (error_second_went c.args.p _ refl refl c.requires.1 (shown c.position.result c.if-not-position.false c.position.ensures) c.in_ok-s.ensures)
