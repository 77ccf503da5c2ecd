-- `row_reader::head::field_bus` takes a bus, and goes on at the column behind it.
use Rattle.row_reader.proofs.Chain.{link, next, stop}
use Rattle.row_reader.proofs.Columns.{bus_off, bus_on}
use Rattle.row_reader.proofs.head.field_bus.Goals as goal

pub returns-in_default : goal.returns-in_default
returns-in_default c = stop (bus_off c.requires.1 c.in_default.ensures) c.requires.0

pub gap_type-requires : goal.gap_type-requires
gap_type-requires c = let t = c.in-Some.ensures in next (bus_on c.requires.1 t) c.requires.0

pub returns : goal.returns
returns c = let t = c.in-Some.ensures in link (bus_on c.requires.1 t) c.gap_type.ensures
