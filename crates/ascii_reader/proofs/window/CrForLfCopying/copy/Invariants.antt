-- `ascii_reader::window::CrForLfCopying::copy` keeps: the bytes passed stand at the front, CR for LF.
use Prim.Native.Nat.{◌+◌, ◌≤◌}
use lib.ListN.{length, take, drop}
use Rattle.row_reader.proofs.Whole.{Filled}
use Rattle.ascii_reader.specs.inner.Ends.{cr_for_all}
use Rattle.ascii_reader.proofs.window.CrForLfCopying.copy.Given as goal

abbrev pub invariant-loop-i : goal.invariant-loop-i
invariant-loop-i l = Filled (take l.n (drop l.from (cr_for_all l.text))) l.initial.slots l.slots l.n l.i × (l.from + l.n ≤ length l.text)
