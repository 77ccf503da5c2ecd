-- `explain::step` takes a field in a window of its own, and of a long word the first bytes.
use Prim.Native.Nat.{◌≤◌}
use mathlib.Core.Path.{sym}
use native.Mathlib.Omega.{arith}
use lib.ListN.{length}
use lib.Seq.{length-take-le}
use Rattle.row.specs.inner.Sizes.{word_bytes}
use Rattle.explain.proofs.Windows.{starts, moves, word, no_word, long_stuck, long_moves, front_field}
use Rattle.explain.proofs.step.Goals as goal

pub take_field-requires : goal.take_field-requires
take_field-requires c = (starts _ c.requires.0 c.window.ensures, c.requires.1)

pub returns-then-f-le-LONGEST : goal.returns-then-f-le-LONGEST
returns-then-f-le-LONGEST c = moves _ c.requires.0 c.window.ensures _ _ c.take_field.ensures

pub returns-then-run_end-f : goal.returns-then-run_end-f
returns-then-run_end-f c = long_stuck c.args.p (omega arith) (no_word c.run_end.ensures c.if-run_end-f.true)

pub slice_bounds-window-end : goal.slice_bounds-window-end
slice_bounds-window-end c =
    let l : word_bytes ≤ length c.args.f.now = omega arith in
    sym (length-take-le word_bytes c.args.f.now l)

pub window-requires-2 : goal.window-requires-2
window-requires-2 c =
    let l : word_bytes ≤ length c.args.f.now = omega arith in
    rw (length-take-le word_bytes c.args.f.now l) (omega arith)

pub take_field-requires-2 : goal.take_field-requires-2
take_field-requires-2 c =
    let l : word_bytes ≤ length c.args.f.now = omega arith in
    (starts _ (front_field l c.requires.0) c.window-2.ensures, c.requires.1)

pub returns : goal.returns
returns c =
    let l : word_bytes ≤ length c.args.f.now = omega arith in
    long_moves c.args.p _ l (word c.run_end.ensures c.if-run_end-f.false)
    (moves _ (front_field l c.requires.0) c.window-2.ensures _ _ c.take_field-2.ensures)
