-- `trace_writer::measure_rows` keeps: the records up to the place are judged and measured.
use Prim.Native.Nat.{◌*◌}
use Rattle.trace_writer.proofs.Measuring.{Measuring}
use Rattle.trace_writer.proofs.measure_rows.Given as goal

abbrev pub invariant-loop-i : goal.invariant-loop-i
invariant-loop-i l = Measuring l.version l.first l.records (20 * l.i) l.i l.size l.misfit l.last
