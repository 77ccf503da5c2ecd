-- `trace::judge` keeps: the lines up to `at` are judged, and spell the rows counted; the window holds bytes of the text.
use native.Mathlib.Omega.{arith}
use Rattle.trace.proofs.Judging.{judging, noted, next_fits, rows_below, counted_row, refused_line, finished}
use Rattle.trace.proofs.Rows.{lined, number_expected, none_expected}
use Rattle.trace.proofs.judge.Goals as goal

pub loop-at-init : goal.loop-at-init
loop-at-init c = (rw c.head_lines-place.ensures (judging c.requires.0), c.fill_window.ensures, omega arith)

pub overflow_add-first : goal.overflow_add-first
overflow_add-first c = omega (arith, next_fits c.loop-at.invariant.0)

pub expected_number-k-requires : goal.expected_number-k-requires
expected_number-k-requires c = lined c.window_at-base.ensures c.loop-at.invariant.0.within

pub loop-at-preserved : goal.loop-at-preserved
loop-at-preserved c =
    let s = c.in-Ok.ensures in
    let w = c.window_at-base.ensures in
    let a = s.1.later in
    let b = w.starts in
    (noted c.loop-at.invariant.0 s.0 s.1 s.2, w.windowed, omega arith)

pub returns-in-Err : goal.returns-in-Err
returns-in-Err c =
    let j = c.loop-at.invariant.0 in
    let n = none_expected c.window_at-base.ensures j.within c.expected_number-k.ensures c.in-None.ensures in
    rw c.at.ensures (refused_line j c.requires.1 c.loop-at-test.true n c.in-Err.ensures)

pub overflow_sub-first : goal.overflow_sub-first
overflow_sub-first c =
    let j = c.loop-at.invariant.0 in
    omega (arith, rows_below j (number_expected c.window_at-base.ensures j.within c.expected_number-k.ensures))

pub loop-at-preserved-in-Some : goal.loop-at-preserved-in-Some
loop-at-preserved-in-Some c =
    let f = c.in-Some.ensures in
    let w = c.window_at-base.ensures in
    let j = c.loop-at.invariant.0 in
    let a = f.there.later in
    let b = w.starts in
    (counted_row j _ f.line (number_expected w j.within c.expected_number-k.ensures) f.there f.row, w.windowed, omega arith)

pub returns : goal.returns
returns c = finished c.loop-at.invariant.0 c.loop-at-test.false
