-- `row_reader::head::gap_number` skips the gap before the row number.
use Rattle.row_reader.proofs.Chain.{gap_on, gap_empty}
use Rattle.row_reader.proofs.head.gap_number.Goals as goal

pub returns-in_default : goal.returns-in_default
returns-in_default c = gap_empty c.in_default.ensures

pub returns : goal.returns
returns c = gap_on c.in-Field.ensures.skipped c.field_number.ensures
