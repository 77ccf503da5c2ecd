-- `trace_writer::put_rows` keeps: the rows of the records up to the place are put.
use Prim.Native.Nat.{◌+◌, ◌*◌}
use Rattle.trace_writer.proofs.Putting.{Putting}
use Rattle.trace_writer.proofs.put_rows.Given as goal

abbrev pub invariant-loop-i : goal.invariant-loop-i
invariant-loop-i l = Putting l.version l.first l.records l.initial.out l.out l.from (20 * l.i) (l.first + l.i) l.p
