-- `row_reader::frame::field_id` takes a frame's ID, and its width says whether it is extended.
use Rattle.row_reader.proofs.Chain.{link, next, stop}
use Rattle.row_reader.proofs.Columns.{id_off, id_none, id_on}
use Rattle.row_reader.proofs.frame.field_id.Goals as goal

pub returns-in_default : goal.returns-in_default
returns-in_default c = stop (id_off c.requires.1 c.in_default.ensures) c.requires.0

pub returns-in_default-form : goal.returns-in_default-form
returns-in_default-form c = stop (id_none c.requires.1 c.in-Some.ensures c.in_default-form.ensures) c.requires.0

pub gap_length-requires : goal.gap_length-requires
gap_length-requires c = let t = c.in-Some.ensures in next (id_on c.requires.1 t c.in-Some-form.ensures) c.requires.0

pub returns : goal.returns
returns c = let t = c.in-Some.ensures in link (id_on c.requires.1 t c.in-Some-form.ensures) c.gap_length.ensures
