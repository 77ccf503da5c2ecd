-- `row_reader::error::field_error_length` takes an error frame's length.
use Rattle.row_reader.proofs.Chain.{link, next, stop}
use Rattle.row_reader.proofs.Columns.{error_length_off, error_length_none, error_length_on}
use Rattle.row_reader.proofs.error.field_error_length.Goals as goal

pub returns-in_default : goal.returns-in_default
returns-in_default c = stop (error_length_off c.requires.1 c.in_default.ensures) c.requires.0

pub returns-then-s-ne4 : goal.returns-then-s-ne4
returns-then-s-ne4 c = stop (error_length_none c.requires.1 c.in-Some.ensures c.if-s-ne4.true) c.requires.0

pub gap_error_first-requires : goal.gap_error_first-requires
gap_error_first-requires c = let t = c.in-Some.ensures in next (error_length_on c.requires.1 t c.if-s-ne4.false) c.requires.0

pub returns : goal.returns
returns c = let t = c.in-Some.ensures in link (error_length_on c.requires.1 t c.if-s-ne4.false) c.gap_error_first.ensures
