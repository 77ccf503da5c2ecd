-- `ascii::measure_lines` keeps: the records up to the place are judged, measured and counted.
use Prim.Native.Nat.{◌+◌, ◌*◌, ◌≤◌}
use mathlib.Core.Path.{◌≡◌, refl}
use native.Mathlib.Omega.{arith}
use lib.ListN.{length}
use Rattle.records.proofs.Through.{one_more, malformed_next}
use Rattle.ascii.proofs.Measuring.{measuring, measured_line, measured_left, measured}
use Rattle.ascii.proofs.measure_lines.Goals as goal
use Rattle.ascii.proofs.measure_lines.Goals.{in-Some-line_bytes, in-None}

pub loop-i-init : goal.loop-i-init
loop-i-init c = measuring _ _

pub returns-in_default : goal.returns-in_default
returns-in_default c =
    let l = c.loop-i.invariant.judged in
    let h = (one_more l c.requires.0 (omega arith)).0 in
    rw c.at.ensures (refl, malformed_next l h c.in_default.ensures)

pub loop-i-preserved : goal.loop-i-preserved
loop-i-preserved c =
    let l = c.loop-i.invariant in
    let h = (one_more l.judged c.requires.0 (omega arith)).0 in
    let p = c.in-Some.ensures in
    let e : 20 * c.loop-i.i + 20 ≡ 20 * (c.loop-i.i + 1) = omega arith in
    elim c.match-line_bytes.branch [
      | in-Some-line_bytes w ↦
          rw (← e, w.bytes-is, w.lines-is, w.left_out-is) (measured_line l h p w.in-Some-line_bytes.ensures)
      | in-None w ↦ rw (← e, w.bytes-is, w.lines-is, w.left_out-is) (measured_left l h p w.in-None.ensures)
    ]

pub returns : goal.returns
returns c =
    let h : length c.args.records.now ≤ 20 * c.loop-i.i = omega (arith, c.requires.0.twenties) in
    let m = measured c.loop-i.invariant h in
    (m.0, m.1, m.2, omega (arith, m.3), omega (arith, m.4))
