-- `stages::frame::id` takes a frame's ID off, and its width says whether it is extended.
use mathlib.Core.Path.{refl}
use Rattle.row.proofs.Moves.{refused}
use Rattle.row.proofs.Columns.{after_id, some_id, id_barred, id_went}
use Rattle.stages.proofs.frame.id.Goals as goal

pub returns-in_err-s : goal.returns-in_err-s
returns-in_err-s c = rw c.from_residual.ensures (refused c.in_err-s.ensures (λ f fs r h. some_id (after_id h.1).0))

pub returns-in_err-r : goal.returns-in_err-r
returns-in_err-r c = rw c.from_residual-in_err-r.ensures (id_barred c.args.p c.in_ok-s.ensures c.in_err-r.ensures)

pub returns : goal.returns
returns c =
    rw c.known.ensures
    (id_went c.args.p c.in_ok-s.ensures _ c.requires.1.0 refl refl refl c.requires.1.1 c.in_ok-r.ensures)
