-- `trace_writer::measure_rows` keeps: the records up to the place are judged and measured.
use Prim.Native.Nat.{◌+◌, ◌*◌, ◌≤◌}
use mathlib.Core.Path.{◌≡◌}
use native.Mathlib.Omega.{arith}
use lib.ListN.{length}
use Rattle.records.proofs.Through.{one_more, malformed_next}
use Rattle.trace_writer.specs.inner.Passes.{malformed}
use Rattle.trace_writer.proofs.Measuring.{row_numbered, measuring, measured_row, measured_misfit, measured, misfit_found}
use Rattle.trace_writer.proofs.measure_rows.Goals as goal
use Rattle.trace_writer.proofs.measure_rows.Goals.{in-Some-row_bytes, in-None}

pub loop-i-init : goal.loop-i-init
loop-i-init c = measuring _ _ _

pub returns-in_default : goal.returns-in_default
returns-in_default c =
    let j = c.loop-i.invariant.judged in
    rw c.at.ensures (malformed (malformed_next j (one_more j c.requires.0 (omega arith)).0 c.in_default.ensures))

pub row_bytes-requires : goal.row_bytes-requires
row_bytes-requires c =
    let j = c.loop-i.invariant.judged in
    let n = row_numbered j c.requires.1 (one_more j c.requires.0 (omega arith)).0 in
    (c.in-Some.ensures.formed, n.0, n.1)

pub loop-i-preserved : goal.loop-i-preserved
loop-i-preserved c =
    let l = c.loop-i.invariant in
    let h = (one_more l.judged c.requires.0 (omega arith)).0 in
    let p = c.in-Some.ensures in
    let e : 20 * c.loop-i.i + 20 ≡ 20 * (c.loop-i.i + 1) = omega arith in
    elim c.match-row_bytes.branch [
      | in-Some-row_bytes w ↦ rw (← e, w.size-is, w.misfit-is) (measured_row l h p w.in-Some-row_bytes.ensures)
      | in-None w ↦ rw (← e, w.size-is, w.misfit-is) (measured_misfit l h p w.or-misfit.ensures w.in-None.ensures)
    ]

pub returns-in-Some-misfit : goal.returns-in-Some-misfit
returns-in-Some-misfit c =
    let h : length c.args.records.now ≤ 20 * c.loop-i.i = omega (arith, c.requires.0.twenties) in
    rw c.at-in-Some-misfit.ensures (misfit_found c.loop-i.invariant h c.in-Some-misfit.is)

pub returns-in-None-misfit : goal.returns-in-None-misfit
returns-in-None-misfit c =
    let h : length c.args.records.now ≤ 20 * c.loop-i.i = omega (arith, c.requires.0.twenties) in
    measured c.loop-i.invariant h c.in-None-misfit.is
