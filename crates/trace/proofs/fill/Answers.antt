-- `trace::fill` keeps: the records of the lines up to `at` stand in the output, and the window holds bytes of the text.
use native.Mathlib.Omega.{arith}
use Rattle.trace.proofs.Filling.{filling, number_fits, stored_note, row_next, row_room, stored_row, never_bad, filled}
use Rattle.trace.proofs.fill.Goals as goal

pub loop-at-init : goal.loop-at-init
loop-at-init c = (filling c.requires, c.fill_window.ensures, omega arith)

pub returns-in_default : goal.returns-in_default
returns-in_default c =
    absurd (never_bad c.loop-at.invariant.0 c.loop-at-test.true c.if-text-at-eq59.true c.in_default.ensures)

pub loop-at-preserved-then-text-at-eq59 : goal.loop-at-preserved-then-text-at-eq59
loop-at-preserved-then-text-at-eq59 c =
    let s = c.in-Ok.ensures in
    let i = c.loop-at.invariant in
    let a = s.1.later in
    (stored_note i.0 s.0 s.1 s.2, i.1, omega (arith, i.2))

pub overflow_add-first : goal.overflow_add-first
overflow_add-first c = omega (arith, number_fits c.loop-at.invariant.0)

pub returns-in_default-row_at : goal.returns-in_default-row_at
returns-in_default-row_at c =
    let x = row_next c.loop-at.invariant.0 (omega arith) c.loop-at-test.true c.if-text-at-eq59.false in
    absurd (c.in_default-row_at.ensures x.r x.line x.after x.is x.row)

pub put_record-requires : goal.put_record-requires
put_record-requires c =
    let f = c.in-Some.ensures in
    row_room c.loop-at.invariant.0 _ f.line (omega arith) f.there f.row c.mark_after-mark.ensures

pub loop-at-preserved : goal.loop-at-preserved
loop-at-preserved c =
    let f = c.in-Some.ensures in
    let w = c.window_at-base.ensures in
    let a = f.there.later in
    let s = stored_row c.loop-at.invariant.0 _ f.line _ (omega arith) f.there f.row c.mark_after-mark.ensures c.put_record.ensures c.back_after-back.ensures in
    (s, w.windowed, omega (arith, w.starts))

pub returns : goal.returns
returns c = filled c.loop-at.invariant.0 c.loop-at-test.false
