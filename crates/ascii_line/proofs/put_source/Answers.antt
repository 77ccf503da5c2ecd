-- `ascii_line::put_source` meets its contract.
use mathlib.Core.Path.{ap}
use native.Mathlib.Omega.{arith}
use lib.ListN.{length}
use Rattle.ascii_line.proofs.Texts.{extended_source, standard_source}
use Rattle.ascii_line.proofs.put_source.Goals as goal

pub put_text-requires : goal.put_text-requires
put_text-requires c = omega (arith, ap length (extended_source c.args.extended c.if-extended-eq1.true))

pub returns-then-extended-eq1 : goal.returns-then-extended-eq1
returns-then-extended-eq1 c = rw (extended_source c.args.extended c.if-extended-eq1.true) c.put_text.ensures

pub put_text-requires-2 : goal.put_text-requires-2
put_text-requires-2 c = omega (arith, ap length (standard_source c.args.extended c.if-extended-eq1.false))

pub returns : goal.returns
returns c = rw (standard_source c.args.extended c.if-extended-eq1.false) c.put_text-2.ensures
