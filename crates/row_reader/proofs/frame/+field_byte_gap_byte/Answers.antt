-- The data bytes of a frame: a byte that is left is taken, and the gap behind it goes on.
use mathlib.Core.Path.{refl}
use native.Mathlib.Omega.{arith}
use Rattle.row.proofs.Data.{byte_fits}
use Rattle.row_reader.proofs.Columns.{byte_none, byte_off, byte_on}
use Rattle.row_reader.proofs.Chain.{gap_on, gap_last, link, stop}
use Rattle.row_reader.proofs.Walk.{onward}
use Rattle.row_reader.proofs.frame.+field_byte_gap_byte.Goals as goal

pub field_byte-returns-then-left-eq0 : goal.field_byte-returns-then-left-eq0
field_byte-returns-then-left-eq0 t c = stop (byte_none c.requires.1 c.if-left-eq0.true) c.requires.0

pub field_byte-returns-in_default : goal.field_byte-returns-in_default
field_byte-returns-in_default t c = stop (byte_off c.requires.1 c.if-left-eq0.false c.in_default.ensures) c.requires.0

pub field_byte-overflow_mul-s : goal.field_byte-overflow_mul-s
field_byte-overflow_mul-s t c = omega (arith, c.requires.1.good, byte_fits c.args.place c.in-Some.ensures.has)

pub field_byte-overflow_add-data : goal.field_byte-overflow_add-data
field_byte-overflow_add-data t c = omega (arith, c.requires.1.good, byte_fits c.args.place c.in-Some.ensures.has)

pub field_byte-gap_byte-requires : goal.field_byte-gap_byte-requires
field_byte-gap_byte-requires t c =
    let b = c.in-Some.ensures in
    let o = onward (byte_on c.requires.1 c.if-left-eq0.false b) c.requires.0 in
    (omega arith, (o.lined, record { good = o.good }))

pub field_byte-returns : goal.field_byte-returns
field_byte-returns t c = let b = c.in-Some.ensures in link (byte_on c.requires.1 c.if-left-eq0.false b) c.gap_byte.ensures

pub gap_byte-returns-in-Field : goal.gap_byte-returns-in-Field
gap_byte-returns-in-Field t c = gap_on c.in-Field.ensures.skipped c.field_byte.ensures

pub gap_byte-returns-in-End : goal.gap_byte-returns-in-End
gap_byte-returns-in-End t c = gap_last c.in-End.ensures refl c.requires.1 c.finish.ensures
