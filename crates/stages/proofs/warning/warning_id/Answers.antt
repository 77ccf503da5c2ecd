-- `stages::warning::warning_id` takes the eight F of a warning off.
use mathlib.Core.Path.{refl}
use Rattle.row.proofs.Moves.{refused}
use Rattle.row.proofs.Warnings.{some_warning_id, warning_id_barred, warning_id_went}
use Rattle.stages.proofs.warning.warning_id.Goals.{then-s-at-ne8-via-then-s-at-ne8, then-s-at-ne8-via-else-s-at-ne8+then-s-ne4294967295}
use Rattle.stages.proofs.warning.warning_id.Goals as goal

pub returns-in_err-s : goal.returns-in_err-s
returns-in_err-s c = rw c.from_residual.ensures (refused c.in_err-s.ensures (some_warning_id c.args.p))

pub returns-then-s-at-ne8 : goal.returns-then-s-at-ne8
returns-then-s-at-ne8 c =
    elim c.then-s-at-ne8.branch [
      | then-s-at-ne8-via-then-s-at-ne8 w ↦ warning_id_barred c.args.p (λ e v. w.if-s-at-ne8.true e) c.in_ok-s.ensures
      | then-s-at-ne8-via-else-s-at-ne8+then-s-ne4294967295 w ↦ warning_id_barred c.args.p (λ e v. w.if-s-ne4294967295.true v) c.in_ok-s.ensures
    ]

pub returns : goal.returns
returns c =
    rw c.known.ensures
    (warning_id_went c.args.p _ refl refl (record { extended = refl; id = refl; len = refl }) c.requires.1
    c.if-s-at-ne8.false c.if-s-ne4294967295.false c.in_ok-s.ensures)
