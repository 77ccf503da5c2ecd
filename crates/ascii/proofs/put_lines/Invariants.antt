-- `ascii::put_lines` keeps: the lines of the records up to the place are put, and `head` shows the second `last`.
use Prim.Native.Nat.{◌*◌}
use Rattle.ascii.specs.inner.Passes.{Shows}
use Rattle.ascii.proofs.Putting.{Putting}
use Rattle.ascii.proofs.put_lines.Given as goal

abbrev pub invariant-loop-i : goal.invariant-loop-i
invariant-loop-i l = Putting l.start l.channel l.records l.initial.out l.out (20 * l.i) l.p × Shows l.head l.last
