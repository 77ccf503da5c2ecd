-- `row_reader::frame::field_data` takes `RTR` or the first data byte, and goes on at the bytes.
use native.Mathlib.Omega.{arith}
use Rattle.digits.proofs.Theorems.{hex_below}
use Rattle.row_reader.proofs.Chain.{link, next, stop}
use Rattle.row_reader.proofs.Columns.{remote_on, data_none, data_off, data_on}
use Rattle.row_reader.proofs.frame.field_data.Goals as goal

pub gap_byte-requires : goal.gap_byte-requires
gap_byte-requires c = let t = c.in-Some.ensures in next (remote_on c.requires.1 t) c.requires.0

pub returns-in-Some : goal.returns-in-Some
returns-in-Some c = let t = c.in-Some.ensures in link (remote_on c.requires.1 t) c.gap_byte.ensures

pub returns-then-left-eq0 : goal.returns-then-left-eq0
returns-then-left-eq0 c = stop (data_none c.requires.1 c.in_default.ensures c.if-left-eq0.true) c.requires.0

pub returns-in_default-byte_field : goal.returns-in_default-byte_field
returns-in_default-byte_field c = stop (data_off c.requires.1 c.in_default.ensures c.if-left-eq0.false c.in_default-byte_field.ensures) c.requires.0

pub overflow_mul-b : goal.overflow_mul-b
overflow_mul-b c = let b = hex_below c.in-Some-byte_field.ensures.has in omega arith

pub gap_byte-requires-2 : goal.gap_byte-requires-2
gap_byte-requires-2 c =
    let t = c.in-Some-byte_field.ensures in
    next (data_on c.requires.1 c.in_default.ensures c.if-left-eq0.false t) c.requires.0

pub returns : goal.returns
returns c =
    let t = c.in-Some-byte_field.ensures in
    link (data_on c.requires.1 c.in_default.ensures c.if-left-eq0.false t) c.gap_byte-2.ensures
