-- `stages::error::error_id` takes the ID of an error frame off.
use mathlib.Core.Path.{refl}
use Rattle.row.proofs.Moves.{refused}
use Rattle.row.proofs.Warnings.{some_error_id, error_id_barred, error_id_went}
use Rattle.stages.proofs.error.error_id.Goals.{then-s-at-ne4-via-then-s-at-ne4, then-s-at-ne4-via-else-s-at-ne4+then-not-error_id}
use Rattle.stages.proofs.error.error_id.Goals as goal

pub returns-in_err-s : goal.returns-in_err-s
returns-in_err-s c = rw c.from_residual.ensures (refused c.in_err-s.ensures (some_error_id c.args.p))

pub returns-then-s-at-ne4 : goal.returns-then-s-at-ne4
returns-then-s-at-ne4 c =
    elim c.then-s-at-ne4.branch [
      | then-s-at-ne4-via-then-s-at-ne4 w ↦ error_id_barred c.args.p (λ e v. w.if-s-at-ne4.true e) c.in_ok-s.ensures
      | then-s-at-ne4-via-else-s-at-ne4+then-not-error_id w ↦ error_id_barred c.args.p (λ e. w.if-not-error_id.ensures) c.in_ok-s.ensures
    ]

pub returns : goal.returns
returns c =
    rw c.known.ensures
    (error_id_went c.args.p _ refl refl refl c.requires.1 c.if-s-at-ne4.false c.if-not-error_id.ensures c.in_ok-s.ensures)
