-- `stages::head::type_column` takes the type off: frames, warnings and error frames part here.
use mathlib.Core.Path.{refl}
use native.Mathlib.Omega.{arith}
use Rattle.row.proofs.Moves.{refused}
use Rattle.row.proofs.Columns.{some_type, type_frame, type_warning, type_error}
use Rattle.stages.proofs.head.type_column.Goals as goal

pub returns-in_err-s : goal.returns-in_err-s
returns-in_err-s c = rw c.from_residual.ensures (refused c.in_err-s.ensures (λ f fs r h. some_type h.1))

pub returns-then-m-le1 : goal.returns-then-m-le1
returns-then-m-le1 c =
    rw c.known.ensures (type_frame c.args.p c.in_ok-s.ensures _ c.if-m-le1.true refl refl c.requires.1)

pub returns-then-m-eq2 : goal.returns-then-m-eq2
returns-then-m-eq2 c =
    rw c.known-then-m-eq2.ensures (type_warning c.args.p c.in_ok-s.ensures c.if-m-eq2.true c.requires.1)

pub returns : goal.returns
returns c = rw c.known-2.ensures (type_error c.args.p c.in_ok-s.ensures (omega arith) c.requires.1)
