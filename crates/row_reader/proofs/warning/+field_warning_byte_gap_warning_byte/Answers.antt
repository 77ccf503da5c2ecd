-- The data bytes and words of a warning: a byte that is left is taken, else a word, and the gap behind it goes on.
use mathlib.Core.Path.{refl}
use native.Mathlib.Omega.{arith}
use Rattle.row.proofs.Data.{byte_fits}
use Rattle.row_reader.proofs.Columns.{word_off, word_on, warning_byte_off, warning_byte_on}
use Rattle.row_reader.proofs.Chain.{gap_on, gap_last, link, stop}
use Rattle.row_reader.proofs.Walk.{onward}
use Rattle.row_reader.proofs.warning.+field_warning_byte_gap_warning_byte.Goals as goal

pub field_warning_byte-returns-in_default : goal.field_warning_byte-returns-in_default
field_warning_byte-returns-in_default t c = stop (word_off c.requires.1 c.if-left-eq0.true c.in_default.ensures) c.requires.0

pub field_warning_byte-gap_warning_byte-requires : goal.field_warning_byte-gap_warning_byte-requires
field_warning_byte-gap_warning_byte-requires t c =
    let b = c.in-Some.ensures in
    let o = onward (word_on c.requires.1 c.if-left-eq0.true b) c.requires.0 in
    (omega arith, (o.lined, record { good = o.good }))

pub field_warning_byte-returns-then-left-eq0 : goal.field_warning_byte-returns-then-left-eq0
field_warning_byte-returns-then-left-eq0 t c =
    let b = c.in-Some.ensures in link (word_on c.requires.1 c.if-left-eq0.true b) c.gap_warning_byte.ensures

pub field_warning_byte-returns-in_default-byte_field : goal.field_warning_byte-returns-in_default-byte_field
field_warning_byte-returns-in_default-byte_field t c = stop (warning_byte_off c.requires.1 c.if-left-eq0.false c.in_default-byte_field.ensures) c.requires.0

pub field_warning_byte-overflow_mul-s : goal.field_warning_byte-overflow_mul-s
field_warning_byte-overflow_mul-s t c = omega (arith, c.requires.1.good, byte_fits c.args.place c.in-Some-byte_field.ensures.has)

pub field_warning_byte-overflow_add-data : goal.field_warning_byte-overflow_add-data
field_warning_byte-overflow_add-data t c = omega (arith, c.requires.1.good, byte_fits c.args.place c.in-Some-byte_field.ensures.has)

pub field_warning_byte-gap_warning_byte-requires-2 : goal.field_warning_byte-gap_warning_byte-requires-2
field_warning_byte-gap_warning_byte-requires-2 t c =
    let b = c.in-Some-byte_field.ensures in
    let o = onward (warning_byte_on c.requires.1 c.if-left-eq0.false b) c.requires.0 in
    (omega arith, (o.lined, record { good = o.good }))

pub field_warning_byte-returns : goal.field_warning_byte-returns
field_warning_byte-returns t c =
    let b = c.in-Some-byte_field.ensures in link (warning_byte_on c.requires.1 c.if-left-eq0.false b) c.gap_warning_byte-2.ensures

pub gap_warning_byte-returns-in-Field : goal.gap_warning_byte-returns-in-Field
gap_warning_byte-returns-in-Field t c = gap_on c.in-Field.ensures.skipped c.field_warning_byte.ensures

pub gap_warning_byte-returns-in-End : goal.gap_warning_byte-returns-in-End
gap_warning_byte-returns-in-End t c = gap_last c.in-End.ensures refl c.requires.1 c.finish.ensures
