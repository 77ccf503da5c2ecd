-- `ascii::measure_lines` keeps: the records up to the place are judged, measured and counted.
use Prim.Native.Nat.{◌*◌}
use Rattle.ascii.proofs.Measuring.{Measuring}
use Rattle.ascii.proofs.measure_lines.Given as goal

abbrev pub invariant-loop-i : goal.invariant-loop-i
invariant-loop-i l = Measuring l.channel l.records (20 * l.i) l.i l.bytes l.lines l.left_out l.last
