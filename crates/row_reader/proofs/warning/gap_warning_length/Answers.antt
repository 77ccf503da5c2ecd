-- `row_reader::warning::gap_warning_length` skips the gap before a warning's length.
use mathlib.Core.Path.{refl}
use Rattle.row_reader.proofs.Chain.{gap_on, gap_early}
use Rattle.row_reader.proofs.warning.gap_warning_length.Goals as goal

pub returns-in_default : goal.returns-in_default
returns-in_default c = gap_early c.in_default.ensures refl c.requires.1

pub returns : goal.returns
returns c = gap_on c.in-Field.ensures.skipped c.field_warning_length.ensures
