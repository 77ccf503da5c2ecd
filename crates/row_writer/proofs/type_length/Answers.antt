-- `row_writer::type_length` meets its contract.
use native.Mathlib.Omega.{arith}
use Rattle.row_writer.proofs.Columns.{short_type, long_type}
use Rattle.row_writer.proofs.type_length.Goals as goal

pub returns-then-kind-lt4 : goal.returns-then-kind-lt4
returns-then-kind-lt4 c = omega (arith, short_type c.args.kind c.if-kind-lt4.true)

pub returns : goal.returns
returns c = omega (arith, long_type c.args.kind c.if-kind-lt4.false c.requires)
