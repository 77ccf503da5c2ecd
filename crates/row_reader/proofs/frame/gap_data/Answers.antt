-- `row_reader::frame::gap_data` skips the gap before the data, where the row may end.
use mathlib.Core.Path.{refl}
use Rattle.row_reader.proofs.Chain.{gap_on, gap_last}
use Rattle.row_reader.proofs.frame.gap_data.Goals as goal

pub returns-in-Field : goal.returns-in-Field
returns-in-Field c = gap_on c.in-Field.ensures.skipped c.field_data.ensures

pub returns-in-End : goal.returns-in-End
returns-in-End c = gap_last c.in-End.ensures refl c.requires.1 c.finish.ensures
