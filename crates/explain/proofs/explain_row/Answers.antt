-- `explain::explain_row` takes the row number, and goes on after it.
use native.Mathlib.Omega.{arith}
use lib.Seq.{length-slice}
use Rattle.lines.proofs.Scans.{blanks_ran, part}
use Rattle.explain.proofs.Fields.{later, lent, fields_none, fields_next, found_wrong, found_early}
use Rattle.explain.proofs.Answers.{expected_can_end, no_row_empty, no_long_number}
use Rattle.explain.proofs.explain_row.Goals as goal

pub returns-then-a-line : goal.returns-then-a-line
returns-then-a-line c =
    let n = fields_none c.args.version c.args.number c.args.line.now in
    let o = expected_can_end c.args.number c.requires.1 c.requires.2 in
    found_early n (blanks_ran c.run_end-a.ensures) c.if-a-line.true o no_row_empty

pub field_end-e-requires : goal.field_end-e-requires
field_end-e-requires c = c.run_end-a.ensures.within

pub overflow_sub-e : goal.overflow_sub-e
overflow_sub-e c = omega (arith, c.field_end-e.ensures.from)

pub returns-then-e-a-gt-LONGEST : goal.returns-then-e-a-gt-LONGEST
returns-then-e-a-gt-LONGEST c =
    let n = fields_none c.args.version c.args.number c.args.line.now in
    let h = c.field_end-e.ensures in
    found_wrong (blanks_ran c.run_end-a.ensures) c.if-a-line.false h n (expected_can_end c.args.number c.requires.1 c.requires.2)
    (no_long_number (omega (arith, length-slice c.run_end-a.result c.field_end-e.result c.args.line.now h.within)))

pub slice_bounds-first-count : goal.slice_bounds-first-count
slice_bounds-first-count c = omega (arith, c.field_end-e.ensures.from)

pub slice_bounds-first-start : goal.slice_bounds-first-start
slice_bounds-first-start c = c.field_end-e.ensures.from

pub slice_bounds-first-end : goal.slice_bounds-first-end
slice_bounds-first-end c = c.field_end-e.ensures.within

pub first-requires : goal.first-requires
first-requires c =
    let h = c.field_end-e.ensures in
    let l = length-slice c.run_end-a.result c.field_end-e.result c.args.line.now h.within in
    (lent (blanks_ran c.run_end-a.ensures) c.if-a-line.false h c.requires.0, rw (part h) (omega arith), c.requires.1)

pub returns-in_default : goal.returns-in_default
returns-in_default c =
    let n = fields_none c.args.version c.args.number c.args.line.now in
    let g = blanks_ran c.run_end-a.ensures in
    let h = c.field_end-e.ensures in
    let m = rw (part h) at c.in_default.ensures in
    found_wrong g c.if-a-line.false h n (expected_can_end c.args.number c.requires.1 c.requires.2) m

pub explain_fields-requires : goal.explain_fields-requires
explain_fields-requires c =
    let g = blanks_ran c.run_end-a.ensures in
    let h = c.field_end-e.ensures in
    let m = rw (part h) at c.in-Some.ensures in
    let l = later g c.if-a-line.false h in
    (c.requires.0, omega arith, h.within, m.good)

pub returns : goal.returns
returns c =
    let n = fields_none c.args.version c.args.number c.args.line.now in
    let g = blanks_ran c.run_end-a.ensures in
    let h = c.field_end-e.ensures in
    let m = rw (part h) at c.in-Some.ensures in
    c.explain_fields.ensures c.args.version c.args.number (fields_next g c.if-a-line.false h n m)
