-- `row_writer::bus_length` meets its contract.
use mathlib.Core.Path.{ap, sym, ◌∙◌}
use native.Mathlib.Omega.{arith}
use lib.ListN.{length}
use Rattle.digits.proofs.House.{word_few}
use Rattle.row_writer.proofs.Columns.{with_bus, without_bus}
use Rattle.row_writer.proofs.bus_length.Goals as goal

pub overflow_add-result : goal.overflow_add-result
overflow_add-result c = omega (arith, word_few c.args.bus (omega arith))

pub returns-then-has_bus : goal.returns-then-has_bus
returns-then-has_bus c =
    let a = c.args in
    let e = with_bus a.version a.bus (sym c.has_bus.ensures ∙ c.if-has_bus.true) in
    omega (arith, word_few a.bus (omega arith), ap length e)

pub returns : goal.returns
returns c =
    let a = c.args in
    let e = without_bus a.version a.bus (sym c.has_bus.ensures ∙ c.if-has_bus.false) in
    omega (arith, ap length e)
