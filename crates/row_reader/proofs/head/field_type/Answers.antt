-- `row_reader::head::field_type` takes `Rx`, `Tx`, `Warng` or `Error`: frames, warnings and error frames part here.
use native.Mathlib.Omega.{arith}
use Rattle.row_reader.proofs.Chain.{link, next, stop}
use Rattle.row_reader.proofs.Columns.{type_off, frame_on, warning_on, error_on}
use Rattle.row_reader.proofs.head.field_type.Goals as goal

pub returns-in_default : goal.returns-in_default
returns-in_default c = stop (type_off c.requires.1 c.in_default.ensures) c.requires.0

pub gap_id-requires : goal.gap_id-requires
gap_id-requires c = let t = c.in-Some.ensures in next (frame_on c.requires.1 t c.if-m-le1.true) c.requires.0

pub returns-then-m-le1 : goal.returns-then-m-le1
returns-then-m-le1 c = let t = c.in-Some.ensures in link (frame_on c.requires.1 t c.if-m-le1.true) c.gap_id.ensures

pub gap_warning_id-requires : goal.gap_warning_id-requires
gap_warning_id-requires c = let t = c.in-Some.ensures in next (warning_on c.requires.1 t c.if-m-eq2.true) c.requires.0

pub returns-then-m-eq2 : goal.returns-then-m-eq2
returns-then-m-eq2 c = let t = c.in-Some.ensures in link (warning_on c.requires.1 t c.if-m-eq2.true) c.gap_warning_id.ensures

pub gap_error_id-requires : goal.gap_error_id-requires
gap_error_id-requires c =
    let t = c.in-Some.ensures in
    next (error_on c.requires.1 t (omega (arith, c.if-m-le1.false, c.if-m-eq2.false))) c.requires.0

pub returns : goal.returns
returns c =
    let t = c.in-Some.ensures in
    link (error_on c.requires.1 t (omega (arith, c.if-m-le1.false, c.if-m-eq2.false))) c.gap_error_id.ensures
