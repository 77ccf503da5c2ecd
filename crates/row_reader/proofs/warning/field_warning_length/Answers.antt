-- `row_reader::warning::field_warning_length` takes a warning's length.
use Rattle.row_reader.proofs.Chain.{link, next, stop}
use Rattle.row_reader.proofs.Columns.{warning_length_off, warning_length_none, warning_length_on}
use Rattle.row_reader.proofs.warning.field_warning_length.Goals as goal

pub returns-in_default : goal.returns-in_default
returns-in_default c = stop (warning_length_off c.requires.1 c.in_default.ensures) c.requires.0

pub returns-then-s-ne4 : goal.returns-then-s-ne4
returns-then-s-ne4 c = stop (warning_length_none c.requires.1 c.in-Some.ensures c.if-s-ne4.true) c.requires.0

pub gap_warning_byte-requires : goal.gap_warning_byte-requires
gap_warning_byte-requires c = let t = c.in-Some.ensures in next (warning_length_on c.requires.1 t c.if-s-ne4.false) c.requires.0

pub returns : goal.returns
returns c = let t = c.in-Some.ensures in link (warning_length_on c.requires.1 t c.if-s-ne4.false) c.gap_warning_byte.ensures
