-- `stages::head::take_number` takes the row number off.
use mathlib.Core.Path.{refl}
use native.Mathlib.Omega.{arith}
use Rattle.row.proofs.Moves.{refused}
use Rattle.row.proofs.Columns.{after_number, number_barred, number_went}
use Rattle.stages.proofs.head.take_number.Goals as goal

pub returns-in_err-s : goal.returns-in_err-s
returns-in_err-s c = rw c.from_residual.ensures (refused c.in_err-s.ensures (λ f fs r h. (c.args.k, (after_number h).0)))

pub returns-then-s-k : goal.returns-then-s-k
returns-then-s-k c = number_barred c.in_ok-s.ensures c.if-s-k.true

pub returns : goal.returns
returns c =
    rw c.known.ensures (number_went c.in_ok-s.ensures _ refl c.if-s-k.false (c.requires.1, omega (arith, c.default.ensures)) (λ fs r. refl))
