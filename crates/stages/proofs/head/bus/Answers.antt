-- `stages::head::bus` takes the bus off.
use mathlib.Core.Path.{refl}
use Rattle.row.proofs.Moves.{refused}
use Rattle.row.proofs.Columns.{after_bus, bus_went}
use Rattle.stages.proofs.head.bus.Goals as goal

pub returns-in_err-s : goal.returns-in_err-s
returns-in_err-s c = rw c.from_residual.ensures (refused c.in_err-s.ensures (λ f fs r h. (r.bus, (after_bus h.1).0)))

pub returns : goal.returns
returns c = rw c.known.ensures (bus_went c.args.p _ refl refl c.requires.1 c.in_ok-s.ensures)
