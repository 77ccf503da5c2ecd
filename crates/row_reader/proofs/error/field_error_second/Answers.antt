-- `row_reader::error::field_error_second` takes an error frame's second byte, and goes on at the two that are left.
use Rattle.row_reader.proofs.Chain.{link, next, stop}
use Rattle.row_reader.proofs.Columns.{second_off, second_none, second_on}
use Rattle.row_reader.proofs.error.field_error_second.Goals as goal

pub returns-in_default : goal.returns-in_default
returns-in_default c = stop (second_off c.requires.1 c.in_default.ensures) c.requires.0

pub returns-then-not-position : goal.returns-then-not-position
returns-then-not-position c = stop (second_none c.requires.1 c.in-Some.ensures c.if-not-position.ensures) c.requires.0

pub gap_byte-requires : goal.gap_byte-requires
gap_byte-requires c = let t = c.in-Some.ensures in next (second_on c.requires.1 t c.if-not-position.ensures) c.requires.0

pub returns : goal.returns
returns c = let t = c.in-Some.ensures in link (second_on c.requires.1 t c.if-not-position.ensures) c.gap_byte.ensures
