-- `ascii_line_reader::frame::frame_data` keeps: what is read from here on is what is read from the first byte on.
use Prim.Native.Nat.{◌-◌}
use Rattle.ascii_line_reader.proofs.Data.{Reading}
use Rattle.ascii_line_reader.proofs.frame.frame_data.Given as goal

abbrev pub invariant-loop : goal.invariant-loop
invariant-loop l = Reading l.extended l.bus l.kind l.id l.len l.w l.at l.e l.place (l.len - l.counter) l.data
