-- `row_reader::frame::field_length` takes a frame's length, and goes on at its data.
use Rattle.row_reader.proofs.Chain.{link, next, stop}
use Rattle.row_reader.proofs.Columns.{length_off, length_on}
use Rattle.row_reader.proofs.frame.field_length.Goals as goal

pub returns-in_default : goal.returns-in_default
returns-in_default c = stop (length_off c.requires.1 c.in_default.ensures) c.requires.0

pub gap_data-requires : goal.gap_data-requires
gap_data-requires c = let t = c.in-Some.ensures in next (length_on c.requires.1 t) c.requires.0

pub returns : goal.returns
returns c = let t = c.in-Some.ensures in link (length_on c.requires.1 t) c.gap_data.ensures
