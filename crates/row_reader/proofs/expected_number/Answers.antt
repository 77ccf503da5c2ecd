-- `row_reader::expected_number` is the number that is asked for, or the one that stands behind the gap.
use Rattle.row_reader.proofs.Numbers.{number_there, no_number_there, no_field_there}
use Rattle.row_reader.proofs.expected_number.Goals as goal

pub returns-in_default : goal.returns-in_default
returns-in_default c = no_field_there c.if-e-ne0.false c.in_default.ensures

pub returns-in_default-number_field : goal.returns-in_default-number_field
returns-in_default-number_field c = no_number_there c.if-e-ne0.false c.in-Field.ensures c.in_default-number_field.ensures

pub returns : goal.returns
returns c = number_there c.if-e-ne0.false c.in-Field.ensures c.in-Some.ensures
