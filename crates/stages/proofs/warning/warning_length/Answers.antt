-- `stages::warning::warning_length` takes the length of a warning off.
use Rattle.row.proofs.Moves.{refused}
use Rattle.row.proofs.Warnings.{after_warning_length, warning_length_barred, warning_length_went}
use Rattle.stages.proofs.warning.warning_length.Goals as goal

pub returns-in_err-s : goal.returns-in_err-s
returns-in_err-s c = rw c.from_residual.ensures (refused c.in_err-s.ensures (λ f fs r h. (4, (after_warning_length h.1).0)))

pub returns-then-s-ne4 : goal.returns-then-s-ne4
returns-then-s-ne4 c =
    warning_length_barred c.args.p c.if-s-ne4.true c.in_ok-s.ensures

pub returns : goal.returns
returns c =
    rw c.bytes_left.ensures (warning_length_went c.args.p c.requires.1 c.if-s-ne4.false c.in_ok-s.ensures)
