-- `fields::skip` keeps: the bytes passed are blanks.
use Prim.Native.Nat.{◌-◌}
use Rattle.fields.specs.inner.Window.{window_bytes}
use Rattle.fields.proofs.Gaps.{Blanks}
use Rattle.fields.proofs.skip.Given as goal

abbrev pub invariant-loop-a : goal.invariant-loop-a
invariant-loop-a l = Blanks l.w l.at l.a

abbrev pub decreases-loop-a : goal.decreases-loop-a
decreases-loop-a l = window_bytes - l.a
