-- `row_writer::put_bus` meets its contract.
use mathlib.Core.Path.{refl, ap, sym, ◌∙◌}
use native.Mathlib.Nat.{add-zero}
use native.Mathlib.Omega.{arith}
use lib.ListN.{length}
use Rattle.base.proofs.Lists.{then}
use Rattle.row_writer.proofs.Columns.{with_bus, without_bus}
use Rattle.row_writer.proofs.put_bus.Goals as goal

pub put_byte-p-requires : goal.put_byte-p-requires
put_byte-p-requires c =
    let e = with_bus c.args.version c.args.bus (sym c.has_bus.ensures ∙ c.if-has_bus.true) in
    omega (arith, ap length e)

pub put_decimal-requires : goal.put_decimal-requires
put_decimal-requires c =
    let e = with_bus c.args.version c.args.bus (sym c.has_bus.ensures ∙ c.if-has_bus.true) in
    omega (arith, ap length e)

pub returns-then-has_bus : goal.returns-then-has_bus
returns-then-has_bus c =
    let e = with_bus c.args.version c.args.bus (sym c.has_bus.ensures ∙ c.if-has_bus.true) in
    rw e (then c.put_byte-p.ensures c.put_decimal.ensures)

pub returns : goal.returns
returns c =
    let e = without_bus c.args.version c.args.bus (sym c.has_bus.ensures ∙ c.if-has_bus.false) in
    rw e (record { next = sym (add-zero c.args.at); stored = refl })
