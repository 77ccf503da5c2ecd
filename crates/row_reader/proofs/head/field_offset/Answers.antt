-- `row_reader::head::field_offset` takes an offset, and goes on at the bus, or behind it where the version has none.
use mathlib.Core.Path.{sym, ◌∙◌}
use Rattle.row_reader.proofs.Chain.{link, next, stop}
use Rattle.row_reader.proofs.Columns.{offset_off, offset_on, offset_bus_on}
use Rattle.row_reader.proofs.head.field_offset.Goals as goal

pub returns-in_default : goal.returns-in_default
returns-in_default c = stop (offset_off c.requires.1 c.fraction_digits.ensures c.in_default.ensures) c.requires.0

pub gap_bus-requires : goal.gap_bus-requires
gap_bus-requires c =
    let t = c.in-Some.ensures in
    next (offset_bus_on c.requires.1 c.fraction_digits.ensures t (sym c.has_bus.ensures ∙ c.if-has_bus.true)) c.requires.0

pub returns-then-has_bus : goal.returns-then-has_bus
returns-then-has_bus c =
    let t = c.in-Some.ensures in
    link (offset_bus_on c.requires.1 c.fraction_digits.ensures t (sym c.has_bus.ensures ∙ c.if-has_bus.true)) c.gap_bus.ensures

pub gap_type-requires : goal.gap_type-requires
gap_type-requires c =
    let t = c.in-Some.ensures in
    next (offset_on c.requires.1 c.fraction_digits.ensures t (sym c.has_bus.ensures ∙ c.if-has_bus.false)) c.requires.0

pub returns : goal.returns
returns c =
    let t = c.in-Some.ensures in
    link (offset_on c.requires.1 c.fraction_digits.ensures t (sym c.has_bus.ensures ∙ c.if-has_bus.false)) c.gap_type.ensures
