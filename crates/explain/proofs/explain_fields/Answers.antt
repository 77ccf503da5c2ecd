-- `explain::explain_fields` goes from field to field, after the first.
use native.Mathlib.Omega.{arith}
use Rattle.lines.proofs.Scans.{blanks_ran, part}
use Rattle.explain.proofs.Fields.{later, lent}
use Rattle.explain.proofs.Answers.{end_row, end_early, at_wrong, one_more_field}
use Rattle.explain.proofs.explain_fields.Goals as goal

pub loop-p-init : goal.loop-p-init
loop-p-init c = record { within = c.requires.2; few = c.requires.1; good = c.requires.3; fields = λ v k y. y }

pub run_end-a-requires : goal.run_end-a-requires
run_end-a-requires c = c.loop-p.invariant.within

pub complete-requires : goal.complete-requires
complete-requires c = c.loop-p.invariant.good

pub returns-then-complete : goal.returns-then-complete
returns-then-complete c =
    end_row c.loop-p.invariant c.run_end-a.ensures c.complete.result c.if-complete.true c.complete.ensures c.if-a-line.true

pub returns-then-a-line : goal.returns-then-a-line
returns-then-a-line c =
    end_early c.loop-p.invariant c.run_end-a.ensures c.complete.result c.if-complete.false c.complete.ensures c.if-a-line.true

pub field_end-e-requires : goal.field_end-e-requires
field_end-e-requires c = c.run_end-a.ensures.within

pub slice_bounds-step-count : goal.slice_bounds-step-count
slice_bounds-step-count c = omega (arith, c.field_end-e.ensures.from)

pub slice_bounds-step-start : goal.slice_bounds-step-start
slice_bounds-step-start c = c.field_end-e.ensures.from

pub slice_bounds-step-end : goal.slice_bounds-step-end
slice_bounds-step-end c = c.field_end-e.ensures.within

pub step-requires : goal.step-requires
step-requires c =
    let h = c.field_end-e.ensures in
    (lent (blanks_ran c.run_end-a.ensures) c.if-a-line.false h c.requires.0, c.loop-p.invariant.good)

pub overflow_add-result : goal.overflow_add-result
overflow_add-result c =
    let l = later (blanks_ran c.run_end-a.ensures) c.if-a-line.false c.field_end-e.ensures in
    omega (arith, c.loop-p.invariant.few, c.run_end-a.ensures.from, c.field_end-e.ensures.within)

pub returns-in_default : goal.returns-in_default
returns-in_default c =
    let m = rw (part c.field_end-e.ensures) at c.in_default.ensures in
    at_wrong c.loop-p.invariant c.run_end-a.ensures c.if-a-line.false c.field_end-e.ensures m

pub overflow_add-i : goal.overflow_add-i
overflow_add-i c =
    let l = later (blanks_ran c.run_end-a.ensures) c.if-a-line.false c.field_end-e.ensures in
    omega (arith, c.loop-p.invariant.few, c.run_end-a.ensures.from, c.field_end-e.ensures.within)

pub loop-p-smaller : goal.loop-p-smaller
loop-p-smaller c =
    let l = later (blanks_ran c.run_end-a.ensures) c.if-a-line.false c.field_end-e.ensures in
    omega (arith, c.run_end-a.ensures, c.field_end-e.ensures.within)

pub loop-p-preserved : goal.loop-p-preserved
loop-p-preserved c =
    let m = rw (part c.field_end-e.ensures) at c.in-Some.ensures in
    let l = later (blanks_ran c.run_end-a.ensures) c.if-a-line.false c.field_end-e.ensures in
    one_more_field c.loop-p.invariant c.run_end-a.ensures c.if-a-line.false c.field_end-e.ensures m
    (omega (arith, c.run_end-a.ensures.from, c.loop-p.invariant.few))
