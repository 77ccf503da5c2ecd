-- `row_reader::error::field_error_first` takes an error frame's first byte.
use Rattle.row_reader.proofs.Chain.{link, next, stop}
use Rattle.row_reader.proofs.Columns.{first_off, first_none, first_on}
use Rattle.row_reader.proofs.error.field_error_first.Goals as goal

pub returns-in_default : goal.returns-in_default
returns-in_default c = stop (first_off c.requires.1 c.in_default.ensures) c.requires.0

pub returns-then-s-gt1 : goal.returns-then-s-gt1
returns-then-s-gt1 c = stop (first_none c.requires.1 c.in-Some.ensures c.if-s-gt1.true) c.requires.0

pub gap_error_second-requires : goal.gap_error_second-requires
gap_error_second-requires c = let t = c.in-Some.ensures in next (first_on c.requires.1 t c.if-s-gt1.false) c.requires.0

pub returns : goal.returns
returns c = let t = c.in-Some.ensures in link (first_on c.requires.1 t c.if-s-gt1.false) c.gap_error_second.ensures
